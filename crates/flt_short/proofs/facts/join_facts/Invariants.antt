-- What is joined so far.
use Rattle.flt_short.proofs.Knowing.{JoinedSoFar}
use Rattle.flt_short.proofs.facts.join_facts.Given as goal

abbrev pub invariant-loop-at : goal.invariant-loop-at
invariant-loop-at l = JoinedSoFar l.initial.facts l.others l.facts l.at

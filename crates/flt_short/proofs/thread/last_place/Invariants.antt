-- Where the walks so far lead.
use Rattle.flt_short.specs.inside.Threads.{GoesOn}
use Rattle.flt_short.proofs.thread.last_place.Given as goal

abbrev pub invariant-loop-turn : goal.invariant-loop-turn
invariant-loop-turn l = record {
  place : GoesOn l.known l.code l.from l.place;
  reached : GoesOn l.known l.code l.from l.reached;
}

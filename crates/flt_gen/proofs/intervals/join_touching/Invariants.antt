-- What is joined so far, and the rest after it.
use Rattle.flt_gen.proofs.Common.{◌≡◌, ◌++◌, drop, joined_from, joined_all}
use Rattle.flt_gen.proofs.intervals.join_touching.Given as goal

abbrev pub invariant-loop-next : goal.invariant-loop-next
invariant-loop-next g l = l.joined.items ++ joined_from l.last (drop l.next-index l.others) ≡ joined_all l.numbers

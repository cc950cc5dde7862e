-- The intervals so far are.
use Rattle.std.{proofs.Common.◌≡◌, proofs.Common.true, proofs.Common.take, specs.List.list_all}
use Rattle.flt_gen.specs.inside.Intervals.{is_aligned}
use Rattle.flt_gen.proofs.intervals.are_aligned.Given as goal

abbrev pub invariant-loop-item : goal.invariant-loop-item
invariant-loop-item l = list_all (is_aligned l.last) (take l.item-index l.items) ≡ true

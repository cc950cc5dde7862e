-- The remaining nodes decide.
use Rattle.std.proofs.Common.{◌≡◌, drop, false}
use Rattle.flt_lang.proofs.Common.{some_zero_divisor}
use Rattle.flt_lang.proofs.counts.has_zero_divisor.Given as goal

abbrev pub invariant-loop-next : goal.invariant-loop-next
invariant-loop-next l = some_zero_divisor l.zero (drop l.next-index l.nodes) ≡ some_zero_divisor false l.nodes

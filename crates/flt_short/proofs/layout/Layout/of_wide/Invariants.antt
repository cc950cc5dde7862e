-- What is laid out is the code from the counter on.
use Rattle.std.proofs.Common.{◌≡◌, drop}
use Rattle.flt_short.proofs.Common.{placed_code}
use Rattle.flt_short.proofs.layout.Layout.of_wide.Given as goal

abbrev pub invariant-loop-at : goal.invariant-loop-at
invariant-loop-at g l = l.layout ≡ placed_code (drop l.at l.wide)

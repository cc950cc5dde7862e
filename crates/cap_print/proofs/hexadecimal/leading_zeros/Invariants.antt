-- All digits so far are zeros.
use Rattle.std.proofs.Common.{◌≡◌, ◌-◌, drop}
use Rattle.cap_print.specs.Hexadecimal.{without_zeros}
use Rattle.cap_print.proofs.hexadecimal.leading_zeros.Given as goal

abbrev pub invariant-loop-i : goal.invariant-loop-i
invariant-loop-i l = without_zeros (l.most - l.i) (drop l.i l.digits) ≡ without_zeros l.most l.digits

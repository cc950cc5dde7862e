-- A packet is kept if the window doesn't have its mark.
use Rattle.{std.proofs.Common.arith, cap_process.proofs.Selectors.unique-keeps}
use Rattle.cap_process.proofs.edit.mark_and_check_unique.Goals as goal

pub returns-in-Some-clause-exact : goal.returns-in-Some-clause-exact
returns-in-Some-clause-exact g c = grind (arith, unique-keeps)

-- The facts decide the test.
use Rattle.std.proofs.Common.{true, false, refl}
use Rattle.flt_short.proofs.Threading.{passes_test}
use Rattle.flt_short.proofs.thread.skipped_by_test.Goals as goal

pub returns-in-Some-true : goal.returns-in-Some-true
returns-in-Some-true c = rw (← c.insn.view_is) (λ o. passes_test _ _ _ _ true _ o (rw c.in-Some-true.field-0-test at c.in-Some-true.ensures) refl)

pub returns-in-Some-false : goal.returns-in-Some-false
returns-in-Some-false c = rw (← c.insn.view_is) (λ o. passes_test _ _ _ _ false _ o (rw c.in-Some-false.field-0-test at c.in-Some-false.ensures) refl)

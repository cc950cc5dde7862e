-- The number and the status that a call returns are those of its result.
use Rattle.capkit_c.proofs.Common.{◌≡◌, ℕ, Result, Ok, Err, sym, subst}
use Rattle.std.specs.Prelude.{IfOk, IfErr, OnErr}
use Rattle.capkit_c.specs.Compiling.{Tells, is_done, has_failed, failure_number, failure_status}
use Rattle.capkit_c.specs.declared.compiling.Failure.{Failure}

pub told : {Done : ℕ → Type 0} {Why : Failure → Type 0} (ended : Result ℕ Failure) (number status : ℕ) → IfOk ended Done → IfErr ended Why
    → IfOk ended (λ value. (number ≡ value) × (status ≡ 0))
    → IfErr ended (λ failure. (number ≡ failure_number failure) × (status ≡ failure_status failure)) → Tells Done Why number status
told {Done} {Why} (Ok value) number status done why ok err = subst (λ s. Tells Done Why number s) (sym ok.1) (is_done (subst Done (sym ok.0) done))
told {Done} {Why} (Err failure) number status done why ok err = subst (λ s. Tells Done Why number s) (sym err.1) (has_failed failure why err.0)

-- where a failure changes nothing
pub told_kept : {Done : ℕ → Type 0} (Why : Failure → Type 0) (Kept : Type 0) (ended : Result ℕ Failure) (number status : ℕ) → IfOk ended Done
    → IfErr ended Why → OnErr ended Kept → IfOk ended (λ value. (number ≡ value) × (status ≡ 0))
    → IfErr ended (λ failure. (number ≡ failure_number failure) × (status ≡ failure_status failure)) → Tells Done (λ failure. Why failure × Kept) number status
told_kept Why Kept (Ok value) number status done why kept ok err = told (Ok value) number status done tt ok err
told_kept Why Kept (Err failure) number status done why kept ok err = told (Err failure) number status tt (why, kept) ok err

-- A reader's result, by its value or by its fault.
use Rattle.std.proofs.Common.{◌≡◌, Bool, List, None, Some, Result, Ok, Err, IfOk, IfErr}
use Rattle.cap_pcapng.{proofs.Common.first_failing, proofs.Common.Fault, specs.Answer.ChecksGive}

pub judged-passes : {X : Type 0} → (checks : List (Bool × Fault)) (result : Result X Fault) (Holds : X → Type 0) → ChecksGive checks result Holds
    → IfOk result (λ _. first_failing checks ≡ None)
judged-passes checks (Ok value) Holds judged = judged.0
judged-passes checks (Err fault) Holds judged = tt

pub judged-fault : {X : Type 0} → (checks : List (Bool × Fault)) (result : Result X Fault) (Holds : X → Type 0) → ChecksGive checks result Holds
    → IfErr result (λ fault. first_failing checks ≡ Some fault)
judged-fault checks (Ok value) Holds judged = tt
judged-fault checks (Err fault) Holds judged = judged

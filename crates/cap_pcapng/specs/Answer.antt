-- What a reader returns: a value if no check fails, else the fault of the first that does.
use Rattle.std.specs.Prelude.{◌≡◌, Bool, List, Some, None, Result, Ok, Err}
use Rattle.cap_octet.specs.{Checks.first_failing, declared.fault.Fault.Fault}

-- A reader returned a value for which `Holds`, and no check fails; or it returned the fault of the
-- first check that does.
abbrev pub ChecksGive : {X : Type 0} → List (Bool × Fault) → Result X Fault → (X → Type 0) → Type 0
ChecksGive checks (Ok value) Holds = (first_failing checks ≡ None) × Holds value
ChecksGive checks (Err fault) Holds = first_failing checks ≡ Some fault

-- Tables of checks: each row is a condition and the fault that is reported if it doesn't hold.
use Rattle.std.specs.Prelude.{Bool, List, [], ◌∷◌, Option, Some, None, Result, Ok, Err, if◌then◌else◌}
use Rattle.cap_octet.specs.declared.fault.Fault.{Fault}

-- the fault of the first row whose condition doesn't hold; None if all hold
abbrev pub first_failing : List (Bool × Fault) → Option Fault
first_failing [] = None
first_failing (row ∷ rows) = if row.0 then first_failing rows else Some row.1

-- the value if no check failed, else the fault of the one that did
abbrev pub checked : {X : Type 0} → Option Fault → X → Result X Fault
checked None value = Ok value
checked (Some fault) value = Err fault

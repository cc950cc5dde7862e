-- A table of checks finds no fault if and only if every check passes.
use Rattle.std.proofs.Common.{[], ◌≡◌, Bool, true, false, List, ◌∷◌, ◌++◌, Option, Some, None, Ok, Err, refl}
use Rattle.std.specs.List.{AllByRecursion}
use Rattle.cap_octet.specs.{Checks.checked, Checks.first_failing, declared.fault.Fault.Fault}

pub all_met : (rows : List (Bool × Fault)) → first_failing rows ≡ None → AllByRecursion (λ row. row.0 ≡ true) rows
all_met [] none = tt
all_met ((true, fault) ∷ rows) none = (refl, all_met rows none)
all_met ((false, fault) ∷ rows) none = (cc)

pub none_failing : (rows : List (Bool × Fault)) → AllByRecursion (λ row. row.0 ≡ true) rows → first_failing rows ≡ None
none_failing [] met = refl
none_failing ((true, fault) ∷ rows) met = none_failing rows met.1
none_failing ((false, fault) ∷ rows) met = absurd (let bad = met.0 in cc)

pub failing_front : (rows more : List (Bool × Fault)) (fault : Fault) → first_failing rows ≡ Some fault → first_failing (rows ++ more) ≡ Some fault
failing_front [] more fault fails = (cc)
failing_front ((true, other) ∷ rows) more fault fails = failing_front rows more _ fails
failing_front ((false, other) ∷ rows) more fault fails = fails

pub met_front : (rows more : List (Bool × Fault)) → first_failing rows ≡ None → first_failing (rows ++ more) ≡ first_failing more
met_front [] more none = refl
met_front ((true, other) ∷ rows) more none = met_front rows more none
met_front ((false, other) ∷ rows) more none = (cc)

-- what the result of a test means for its checks
pub checked_ok : {X : Type 0} (fault : Option Fault) (value found : X) → checked fault value ≡ Ok found → (fault ≡ None) × (value ≡ found)
checked_ok None value found is = (refl, (cc))
checked_ok (Some fault) value found is = (cc)

pub checked_err : {X : Type 0} (fault : Option Fault) (value : X) (found : Fault) → checked fault value ≡ Err found → fault ≡ Some found
checked_err None value found is = (cc)
checked_err (Some fault) value found is = (cc)

-- What is true of the faults of all checks is true of the first that fails; and which faults
-- options have.
use Rattle.std.proofs.Common.{arith, ◌≡◌, ℕ, zero, suc, Bool, true, false, List, [], ◌∷◌, ◌++◌, Some, Result, Ok, Err, cond, subst}
use Rattle.std.specs.List.{AllByRecursion}
use Rattle.cap_pcapng.proofs.Common.{first_failing, Fault, BadOption, BadTimeResolution, Order, checks_after}
use Rattle.cap_pcapng.specs.OptionList.{CodedValue, fits_at, options_in, options_within}
use Rattle.cap_pcapng.specs.{Block.Parts, Block.InterfaceParts, Block.option_checks, InterfaceOptions.list_checks}

-- ---- the faults of some rows

-- what is true of the faults of all rows is true of the first that fails
abbrev pub AreAll : (Fault → Type 0) → List (Bool × Fault) → Type 0
AreAll P rows = AllByRecursion (λ row. P row.1) rows

pub all_failing : (P : Fault → Type 0) (rows : List (Bool × Fault)) (fault : Fault) → AllByRecursion (λ row. P row.1) rows → first_failing rows ≡ Some
    fault → P fault
all_failing P [] fault all fails = (cc)
all_failing P ((true, other) ∷ rows) fault all fails = all_failing P rows fault all.1 fails
all_failing P ((false, other) ∷ rows) fault all fails = let same : other ≡ fault = cc in subst P same all.0

all_append : (P : Fault → Type 0) (rows more : List (Bool × Fault)) → AreAll P rows → AreAll P more → AreAll P (rows ++ more)
all_append P [] more all others = others
all_append P (row ∷ rows) more all others = (all.0, all_append P rows more all.1 others)

by_either : {X : Type 0} (P : X → Type 0) (b : Bool) (x y : X) → P x → P y → P (cond b x y)
by_either P true x y here there = here
by_either P false x y here there = there

-- ---- the options of an interface

abbrev IsItemOf : (Fault → Type 0) → Result CodedValue Fault → Type 0
IsItemOf P (Ok option) = Unit {0}
IsItemOf P (Err fault) = P fault

all_of_option : (P : Fault → Type 0) → P BadOption → P BadTimeResolution → (before : List CodedValue) (option : CodedValue)
    → AreAll P (checks_after before option)
all_of_option P bad worse before option = grind (arith, by_either)

all_of_list : (P : Fault → Type 0) → P BadOption → P BadTimeResolution → (before : List CodedValue) (items : List (Result CodedValue Fault))
    → AllByRecursion (IsItemOf P) items
    → AreAll P (list_checks before items)
all_of_list P bad worse before [] all = tt
all_of_list P bad worse before (Err fault ∷ items) all = (all.0, all_of_list P bad worse before items all.1)
all_of_list P bad worse before (Ok option ∷ items) all =
    all_append P _ _ (all_of_option P bad worse before option)
    (all_of_list P bad worse (before ++ option ∷ []) items all.1)

items_within : (P : Fault → Type 0) → P BadOption → (most : ℕ) (order : Order) (text : List ℕ) → AllByRecursion (IsItemOf P) (options_within most order text)
unfolding options_within
items_within P bad zero order text = tt
items_within P bad (suc most) order text =
    by_either (AllByRecursion _) _ [] _ tt
    (by_either (AllByRecursion _) (fits_at order text)
    _ _
    (tt, items_within P bad most order _) (bad, tt))

items_in : (P : Fault → Type 0) → P BadOption → (order : Order) (text : List ℕ) → AllByRecursion (IsItemOf P) (options_in order text)
unfolding options_in
items_in P bad order text = items_within P bad _ order text

-- a refusal of options is of one of two kinds
pub all_of_options : (P : Fault → Type 0) → P BadOption → P BadTimeResolution → (parts : Parts) → AllByRecursion (λ row. P row.1) (option_checks parts)
all_of_options P bad worse (InterfaceParts link snap order options) = all_of_list P bad worse [] _ (items_in P bad order _)
all_of_options P bad worse parts = tt

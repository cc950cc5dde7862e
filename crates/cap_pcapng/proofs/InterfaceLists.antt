-- The options of an interface, read one after another.
use Rattle.std.proofs.Common.{◌≡◌, ℕ, Bool, true, false, List, [], ◌∷◌, ◌++◌, cond, refl, sym, ap, ◌∙◌, eqb-true, Option, Some, None, Result, Ok, ◌<◌, ◌^◌}
use Rattle.std.proofs.Common.{unwrap_or, arith, is_some, if◌then◌else◌}
use Rattle.std.specs.Option.{option_map, option_or}
use Rattle.cap_pcapng.proofs.Common.{met_front, failing_front, first_failing, Fault, Order, checks_after, first_value, fitting_options}
use Rattle.cap_pcapng.specs.InterfaceOptions.{first_checks, list_checks, units_in_value}
use Rattle.cap_pcapng.specs.inside.Interface.{Adds, IsFound, is_found, value_for}
use Rattle.cap_pcapng.specs.{declared.interface.FoundOptions.FoundOptions, OptionList.CodedValue, Time.microseconds}
use Rattle.std.proofs.{Math.Nat.one-le-pow, lemmas.List.append_assoc}

-- the options that an iterator still returns after some were read without a fault, and this was
-- found in them
pub record HasRead (order : Order) (all rest : List (Result CodedValue Fault)) (found : FoundOptions) : Type 0 where
  pub before : List CodedValue
  pub checks : first_failing (list_checks [] all) ≡ first_failing (list_checks before rest)
  pub joined : fitting_options all ≡ before ++ fitting_options rest
  pub is_found : IsFound order before found

or_later : (test : Bool) (value : List ℕ) (x y z : Option (List ℕ)) → x ≡ option_or y z
    → cond test (Some value) x ≡ option_or (cond test (Some value) y) z
or_later true value x y z same = refl
or_later false value x y z same = same

first_value-push : (code : ℕ) (before : List CodedValue) (o : CodedValue) → first_value code (before ++ o ∷ []) ≡ option_or (first_value code before)
    (value_for code o)
first_value-push code [] o = refl
first_value-push code (b ∷ before) o = or_later _ _ _ _ _ (first_value-push code before o)

is_some-map : {X Y : Type 0} (f : X → Y) (o : Option X) → is_some (option_map f o) ≡ is_some o
is_some-map f None = refl
is_some-map f (Some x) = refl

option_or-map : {X Y : Type 0} (f : X → Y) (a b : Option X) → option_or (option_map f a) (option_map f b) ≡ option_map f (option_or a b)
option_or-map f None b = refl
option_or-map f (Some x) b = refl

-- one option more
pub IsFound-more : (order : Order) (before : List CodedValue) (o : CodedValue) (found more : FoundOptions) → IsFound order before found
    → Adds order found o more → IsFound order (before ++ o ∷ []) more
IsFound-more order before o found more is adds = grind (arith, first_value-push, option_or-map)

-- a list of checks that is empty unless a code is one of three, and then where one of its code was
-- found
by_code : (is_name is_resolution is_offset given name units offset : Bool) (a b c : List (Bool × Fault))
    → (is_name ≡ true → given ≡ name) → (is_resolution ≡ true → given ≡ units) → (is_offset ≡ true → given ≡ offset)
    → cond given [] (cond is_name a (cond is_resolution b (cond is_offset c [])))
    ≡ cond (cond is_name name (cond is_resolution units (cond is_offset offset false))) [] (cond is_name a (cond is_resolution b (cond is_offset c [])))
by_code true r o given name units offset a b c n u f = ap (λ g. cond g [] a) (n refl)
by_code false true o given name units offset a b c n u f = ap (λ g. cond g [] b) (u refl)
by_code false false true given name units offset a b c n u f = ap (λ g. cond g [] c) (f refl)
by_code false false false true name units offset a b c n u f = refl
by_code false false false false name units offset a b c n u f = refl

-- an option after another one with its code isn't checked
pub checks_after-found : (order : Order) (before : List CodedValue) (o : CodedValue) (found : FoundOptions) → IsFound order before found
    → checks_after before o ≡ (if is_found found o.code then [] else first_checks o)
checks_after-found order before o found is = grind (arith, by_code, eqb-true, is_some-map)

-- ---- one item of the iterator

pub HasRead-more : (order : Order) (all left rest : List (Result CodedValue Fault)) (o : CodedValue) (found more : FoundOptions)
    → HasRead order all left found → left ≡ Ok o ∷ rest
    → Adds order found o more
    → first_failing (if is_found found o.code then [] else first_checks o) ≡ None
    → HasRead order all rest more
HasRead-more order all left rest o found more read is adds passes = record {
  before = read.before ++ o ∷ [];
  checks =
      read.checks ∙ ap (λ items. first_failing (list_checks read.before items)) is
      ∙ met_front (checks_after _ o) _ (ap first_failing (checks_after-found order _ o found read.is_found) ∙ passes);
  joined = read.joined ∙ ap (λ items. read.before ++ fitting_options items) is ∙ sym (append_assoc _ (o ∷ []) _);
  is_found = IsFound-more order _ o found more read.is_found adds;
}

pub HasRead-refused : (order : Order) (all left rest : List (Result CodedValue Fault)) (o : CodedValue) (found : FoundOptions) (fault : Fault)
    → HasRead order all left found → left ≡ Ok o ∷ rest
    → first_failing (if is_found found o.code then [] else first_checks o) ≡ Some fault
    → first_failing (list_checks [] all) ≡ Some fault
HasRead-refused order all left rest o found fault read is refused =
    read.checks ∙ ap (λ items. first_failing (list_checks read.before items)) is
    ∙ failing_front (checks_after _ o) _ fault (ap first_failing (checks_after-found order _ o found read.is_found) ∙ refused)

-- ---- a second has some ticks

some_by : (test : Bool) (n m : ℕ) → 0 < (if test then 10 ^ n else 2 ^ m)
some_by true n m = grind (arith, one-le-pow)
some_by false n m = grind (arith, one-le-pow)

pub units-some : (value : Option (List ℕ)) → 0 < unwrap_or (option_map units_in_value value) microseconds
units-some None = omega arith
units-some (Some value) = some_by _ _ _

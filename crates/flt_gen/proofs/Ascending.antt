-- Intervals that ascend.
use Rattle.flt_gen.proofs.Common.{◌≡◌, ℕ, zero, suc, ◌+◌, ◌^◌, ◌<◌, ◌≤◌, List, [], ◌∷◌, length, take, drop, get_or, Bool, true, false, Option, Some, None, refl}
use Rattle.flt_gen.proofs.Common.{ap, arith, nat_lt, nat_le, ◌&&◌, ◌||◌, max, if◌then◌else◌, nat_tests, Interval, Sides, Offset, Fixed, AfterHeader, field_at}
use Rattle.flt_gen.proofs.Common.{under_mask, low_of, Link, index_of, Numbers, no_interval, first_ends, insert_ascending, extended, joined_from, joined_all}
use Rattle.flt_gen.proofs.Common.{without}
use Rattle.std.specs.List.{insert}

-- by a test
pub if_case : {A : Type 0} (P : A → Type 0) (b : Bool) (x y : A) → (b ≡ true → P x) → (b ≡ false → P y) → P (if b then x else y)
if_case P b x y t f = grind arith

-- a number is in an interval, and in one of some intervals
abbrev pub is_in : ℕ → Interval → Bool
is_in x i = nat_le i.low x && nat_le x i.high

abbrev pub is_within : ℕ → List Interval → Bool
is_within x [] = false
is_within x (i ∷ is) = is_in x i || is_within x is

-- what an option has, if anything, is P
abbrev pub Each : {A : Type 0} → Option A → (A → Type 0) → Type 0
Each None P = Unit {0}
Each (Some a) P = P a

pub each_is : {A : Type 0} (o : Option A) (P : A → Type 0) (a : A) → Each o P → o ≡ Some a → P a
each_is o P a h e = grind arith

-- after lower intervals one is put before the first that isn't lower
pub inserted_at : (i : Interval) (is : List Interval) (at : ℕ) → at ≤ length is → ((k : ℕ) → k < at → (get_or is k no_interval).low < i.low)
    → (at < length is → i.low ≤ (get_or is at no_interval).low) → insert is at i ≡ insert_ascending i is
inserted_at i [] zero l low high = refl
inserted_at i [] (suc at) l low high = absurd (omega arith)
inserted_at i (j ∷ js) zero l low high = grind (arith, nat_tests)
inserted_at i (j ∷ js) (suc at) l low high =
    let k = low 0 (omega arith) in let h = inserted_at i js at (omega arith) (λ n m. low (suc n) (omega arith)) (λ m. high (omega arith)) in
    if_case (λ r. j ∷ insert js at i ≡ r) (nat_lt j.low i.low) (j ∷ insert_ascending i js) (i ∷ j ∷ js) (λ e. ap (λ r. j ∷ r) h)
    (λ e. absurd (let no : (j.low < i.low) → ⊥ = grind (arith, nat_tests) in no k))

-- intervals from a number on, each of which begins past the one before
abbrev pub Apart : ℕ → List Interval → Type 0
Apart a [] = Unit {0}
Apart a (i ∷ is) = (a ≤ i.low) × (i.low ≤ i.high) × Apart (i.high + 1) is

-- intervals that are searched: there is one at least
abbrev pub Searchable : List Interval → Type 0
Searchable [] = ⊥
Searchable (i ∷ is) = Apart 0 (i ∷ is)

-- both fields are counted from the same number in X
abbrev pub Reached : ℕ → Option ℕ → Offset → Offset → Type 0
Reached index mask (Fixed a) (Fixed b) = (index ≤ a) × (index ≤ b) × (a < 2 ^ 32) × (b < 2 ^ 32)
Reached index mask (AfterHeader h a) (AfterHeader g b) = (mask ≡ None) × (g ≡ h)
Reached index mask _ _ = ⊥

-- numbers that are searched in fields: those of the first member are among them
pub record Ready (link : Link) (at : Sides) (numbers : Numbers) : Type 0 where
  pub order : numbers.first.low ≤ numbers.first.high
  pub all : Searchable numbers.all
  pub others_are : numbers.others ≡ without numbers.first numbers.all
  pub first_in : (p : List ℕ) (x : ℕ) → field_at at.source at.width p ≡ Some x → is_in (under_mask numbers.mask x) numbers.first ≡ true
      → is_within (under_mask numbers.mask x) numbers.all ≡ true
  pub reached : Reached (index_of link at) numbers.mask at.source at.destination

pub searchable_apart : (is : List Interval) → Searchable is → Apart 0 is
searchable_apart is h = grind arith

pub apart_less : (a b : ℕ) (is : List Interval) → a ≤ b → Apart b is → Apart a is
apart_less a b [] l h = tt
apart_less a b (i ∷ is) l h = (let k = h.0 in omega arith, h.1, h.2)

pub apart_take : (a h : ℕ) (is : List Interval) → Apart a is → Apart a (take h is)
apart_take a (suc h) (i ∷ is) l = (l.0, l.1, apart_take (i.high + 1) h is l.2)
apart_take a _ _ l = tt

pub apart_drop : (a h : ℕ) (is : List Interval) → Apart a is → Apart a (drop h is)
apart_drop a zero [] l = tt
apart_drop a zero (i ∷ is) l = l
apart_drop a (suc h) [] l = tt
apart_drop a (suc h) (i ∷ is) l = let m = l.0 in let n = l.1 in apart_less a (i.high + 1) (drop h is) (omega arith) (apart_drop (i.high + 1) h is l.2)

-- intervals without one
pub apart_without : (a : ℕ) (i : Interval) (is : List Interval) → Apart a is → Apart a (without i is)
apart_without a i [] h = tt
apart_without a i (j ∷ js) h = grind (arith, nat_tests, apart_less a (j.high + 1) js, apart_without a i js, apart_without (j.high + 1) i js)

pub length_without : (i : Interval) (is : List Interval) → length (without i is) ≤ length is
length_without i [] = omega arith
length_without i (j ∷ js) = grind (arith, length_without i js)

pub within_without : (x : ℕ) (i : Interval) (is : List Interval) → is_in x i ≡ false → is_within x (without i is) ≡ is_within x is
within_without x i [] out = refl
within_without x i (j ∷ js) out = grind (arith, nat_tests, within_without x i js out)

-- which half a number can be in
pub none_below : (x a : ℕ) (is : List Interval) → x < a → Apart a is → is_within x is ≡ false
none_below x a [] l h = refl
none_below x a (i ∷ is) l h = grind (arith, nat_tests, none_below x (i.high + 1) is)

pub lower_half : (x a h : ℕ) (is : List Interval) → Apart a is → h < length is → x < low_of (drop h is) → is_within x is ≡ is_within x (take h is)
lower_half x a h [] up l m = absurd (omega arith)
lower_half x a zero (i ∷ is) up l m = none_below x i.low (i ∷ is) m (omega arith, up.1, up.2)
lower_half x a (suc h) (i ∷ is) up l m = ap (λ b. is_in x i || b) (lower_half x (i.high + 1) h is up.2 (omega arith) m)

at_least : (a h : ℕ) (is : List Interval) → Apart a is → h < length is → a ≤ low_of (drop h is)
at_least a h [] up l = absurd (omega arith)
at_least a zero (i ∷ is) up l = up.0
at_least a (suc h) (i ∷ is) up l = let k = up.0 in let m = up.1 in let n = at_least (i.high + 1) h is up.2 (omega arith) in omega arith

pub upper_half : (x a h : ℕ) (is : List Interval) → Apart a is → h < length is → low_of (drop h is) ≤ x → is_within x is ≡ is_within x (drop h is)
upper_half x a h [] up l m = absurd (omega arith)
upper_half x a zero (i ∷ is) up l m = refl
upper_half x a (suc h) (i ∷ is) up l m = grind (arith, at_least, nat_tests, upper_half x (i.high + 1) h is up.2 (omega arith) m)

pub first_taken : (h : ℕ) (is : List Interval) → 0 < h → low_of (take h is) ≡ low_of is
first_taken h is l = grind arith

-- intervals that ascend by where they begin, from a number on
abbrev pub Ordered : ℕ → List Interval → Type 0
Ordered a [] = Unit {0}
Ordered a (i ∷ is) = (a ≤ i.low) × (i.low ≤ i.high) × Ordered i.low is

pub ordered_inserted : (a : ℕ) (i : Interval) (is : List Interval) → a ≤ i.low → i.low ≤ i.high → Ordered a is → Ordered a (insert_ascending i is)
ordered_inserted a i [] l m h = (l, m, tt)
ordered_inserted a i (j ∷ js) l m h = grind (arith, nat_tests, ordered_inserted j.low i js)

pub length_inserted : (i : Interval) (is : List Interval) → length (insert_ascending i is) ≡ length is + 1
length_inserted i [] = refl
length_inserted i (j ∷ js) = grind (arith, length_inserted i js)

pub within_inserted : (x : ℕ) (i : Interval) (is : List Interval) → is_within x (insert_ascending i is) ≡ (is_in x i || is_within x is)
within_inserted x i [] = refl
within_inserted x i (j ∷ js) = grind (arith, nat_tests, within_inserted x i js)

-- single numbers
abbrev pub Points : List Interval → Type 0
Points [] = Unit {0}
Points (i ∷ is) = (i.low ≡ i.high) × Points is

pub points_inserted : (i : Interval) (is : List Interval) → i.low ≡ i.high → Points is → Points (insert_ascending i is)
points_inserted i [] e h = (e, tt)
points_inserted i (j ∷ js) e h = grind (arith, points_inserted i js)

ordered_less : (a b : ℕ) (is : List Interval) → a ≤ b → Ordered b is → Ordered a is
ordered_less a b [] l h = tt
ordered_less a b (i ∷ is) l h = (let k = h.0 in omega arith, h.1, h.2)

apart_from : (a : ℕ) (i : Interval) (js : List Interval) → a ≤ i.low → i.low ≤ i.high → Ordered i.low js → Apart a (joined_from i js)
apart_from a i [] l m h = (l, m, tt)
apart_from a i (j ∷ js) l m h = grind (arith, nat_tests, apart_from (i.high + 1) j js, apart_from a (extended i j) js, ordered_less i.low j.low js)

within_from : (x : ℕ) (i : Interval) (js : List Interval) → i.low ≤ i.high → Ordered i.low js → is_within x (joined_from i js) ≡ (is_in x i || is_within x js)
within_from x i [] m h = refl
within_from x i (j ∷ js) m h =
    grind (arith, within_from x j js h.1 h.2, within_from x (extended i j) js (omega arith) (ordered_less i.low j.low js h.0 h.2), ordered_less, nat_tests)

length_from : (i : Interval) (js : List Interval) → (1 ≤ length (joined_from i js)) × (length (joined_from i js) ≤ length js + 1)
length_from i [] = (omega arith, omega arith)
length_from i (j ∷ js) = grind (arith, length_from j js, length_from (extended i j) js)

pub ends_few : (is : List Interval) → first_ends is ≤ 1
ends_few is = grind arith

pub one_point : (i : Interval) → i.low ≡ i.high → first_ends (i ∷ []) ≡ 0
one_point i e = grind (arith, nat_tests)

tests_from : (i : Interval) (js : List Interval) → length (joined_from i js) + first_ends (joined_from i js) ≤ length js + 1 + first_ends (i ∷ [])
tests_from i [] = omega arith
tests_from i (j ∷ js) = grind (arith, length_from j js, tests_from (extended i j) js, ends_few (extended i j ∷ []))

pub searchable_joined : (is : List Interval) → 1 ≤ length is → Ordered 0 is → Searchable (joined_all is)
searchable_joined [] l h = absurd (omega arith)
searchable_joined (i ∷ is) l h = some (joined_from i is) (length_from i is).0 (apart_from 0 i is h.0 h.1 h.2)
  where
    some : (js : List Interval) → 1 ≤ length js → Apart 0 js → Searchable js
    some js l h = grind arith

pub within_joined : (x : ℕ) (is : List Interval) → Ordered 0 is → is_within x (joined_all is) ≡ is_within x is
within_joined x is h = grind (arith, within_from)

-- no more than there were, and where they were single numbers, one less if the first one is more
pub joined_few : (is : List Interval) → 1 ≤ length is → max 1 (length (joined_all is)) ≤ length is
joined_few is l = grind (arith, length_from)

pub joined_points : (is : List Interval) → 1 ≤ length is → Points is → max 1 (length (joined_all is)) + first_ends (joined_all is) ≤ length is
joined_points is l h = grind (arith, one_point, tests_from, length_from)

-- The entry that the heap returns comes before those that remain.
use Rattle.std.proofs.Common.{◌≡◌, ◌≢◌, ℕ, zero, suc, ◌<◌, inl, inr, false, IsTrue, length, get_or, nat_eq, List, [], ◌∷◌, map, sym, ap, ◌∙◌, arith}
use Rattle.cap_inputs.proofs.Common.{Reverse, IsPermutation-map, nat_tests, Waiting}
use Rattle.cap_inputs.specs.inside.Queue.{Precedes, NotAfter, inputs_of, IsOnceEach, IsFirstWaiting, is_entered}
use Rattle.std.specs.List.{All, AllByRecursion, IsDistinct, Sorted.IsPermutation}
use Rattle.std.proofs.lemmas.{Bool.cases_order, Map.Keys.IsDistinct-IsPermutation, Map.Keys.IsDistinct-cons}
use Rattle.std.specs.{Ordering.is_lt, Ordering.nat_cmp, Ordering.ordering_then, BinaryHeap.IsUpperBound, BinaryHeap.lt_by_cmp, declared.cmp.Ordering.Ordering}

-- the order of time, then number
abbrev pub time_then_input : Waiting → Waiting → Ordering
time_then_input a b = ordering_then (nat_cmp a.time b.time) (nat_cmp a.input b.input)

abbrev pub bare : List (Reverse Waiting) → List Waiting
bare rs = map (λ r. r.0) rs

flips : (x y : ℕ) → nat_eq x y ≡ nat_eq y x
flips x y = grind arith

sharpen : (a b : Waiting) → NotAfter a b → nat_eq a.input b.input ≡ false → Precedes a b
sharpen a b (inl lt) other = inl lt
sharpen a b (inr (same, le)) other = inr (same, grind arith)

all_after : (R : Reverse Waiting → Reverse Waiting → Ordering) (x : Reverse Waiting) (rest : List (Reverse Waiting))
    → ((y : Reverse Waiting) → lt_by_cmp R x y ≡ false → NotAfter x.0 y.0)
    → IsUpperBound R x rest → AllByRecursion (λ i. nat_eq x.0.input i ≡ false) (inputs_of (bare rest)) → All (Precedes x.0) (bare rest)
all_after R x [] means bound others k d h = absurd (omega arith)
all_after R x (y ∷ ys) means bound others zero d h = sharpen x.0 y.0 (means y bound.0) others.0
all_after R x (y ∷ ys) means bound others (suc k) d h = all_after R x ys means bound.1 others.1 k d (omega arith)

once_permuted : (xs ys : List Waiting) → IsPermutation xs ys → IsOnceEach xs → IsOnceEach ys
once_permuted xs ys p once = IsDistinct-IsPermutation (λ a b. nat_eq a b) flips _ _ (IsPermutation-map (λ w. w.input) xs ys p) once

not_after : (a b : Waiting) → is_lt (time_then_input b a) ≡ false → NotAfter a b
not_after a b h = grind (arith, cases_order, nat_tests)

-- what the heap gives is first, and what stays is there once each
pub taken_first : (R : Reverse Waiting → Reverse Waiting → Ordering) (x : Reverse Waiting) (old rest : List (Reverse Waiting))
    → ((x y : Reverse Waiting) → R x y ≡ time_then_input y.0 x.0)
    → IsUpperBound R x rest → IsPermutation old (x ∷ rest) → IsOnceEach (bare old) → All (Precedes x.0) (bare rest) × IsOnceEach (bare rest)
unfolding IsDistinct
taken_first R x old rest means bound p once =
    let there = once_permuted _ _ (IsPermutation-map (λ r. r.0) old _ p) once in
    (all_after R x rest (λ y h. not_after x.0 y.0 (ap is_lt (sym (means x y)) ∙ h)) bound there.0, there.1)

all_others : (x : Waiting) (ws : List Waiting) → All (λ w. w.input ≢ x.input) ws → AllByRecursion (λ i. nat_eq x.input i ≡ false) (inputs_of ws)
all_others x [] h = tt
all_others x (w ∷ ws) h = (
  let apart = h 0 x (omega arith) in grind arith,
  all_others x ws (λ k d lt. h (suc k) d (omega arith)),
)

pub once_added : (x : Waiting) (ws new : List Waiting) → All (λ w. w.input ≢ x.input) ws → IsOnceEach ws → IsPermutation (x ∷ ws) new → IsOnceEach new
once_added x ws new alone once p = once_permuted (x ∷ ws) new p (IsDistinct-cons (λ a b. nat_eq a b) x.input _ (all_others x ws alone) once)

all_not_after : (R : Reverse Waiting → Reverse Waiting → Ordering) (x : Reverse Waiting) (rs : List (Reverse Waiting))
    → ((y : Reverse Waiting) → lt_by_cmp R x y ≡ false → NotAfter x.0 y.0) → IsUpperBound R x rs → All (NotAfter x.0) (bare rs)
all_not_after R x [] means bound k d h = absurd (omega arith)
all_not_after R x (y ∷ ys) means bound zero d h = means y bound.0
all_not_after R x (y ∷ ys) means bound (suc k) d h = all_not_after R x ys means bound.1 k d (omega arith)

entered_first : (w : Waiting) (ws : List Waiting) → IsTrue (is_entered (w ∷ ws) w.time w.input)
entered_first w ws = grind arith

top_entered : (x : Reverse Waiting) (rs : List (Reverse Waiting)) → 0 < length rs → x ≡ get_or rs 0 x → IsTrue (is_entered (bare rs) x.0.time x.0.input)
top_entered x [] some top = absurd (omega arith)
top_entered x (r ∷ rs) some top = rw (sym top) (entered_first x.0 _)

-- the heap's top comes first
pub top_first : (R : Reverse Waiting → Reverse Waiting → Ordering) (x : Reverse Waiting) (rs : List (Reverse Waiting))
    → ((x y : Reverse Waiting) → R x y ≡ time_then_input y.0 x.0) → IsUpperBound R x rs → 0 < length rs → x ≡ get_or rs 0 x → IsFirstWaiting x.0 (bare rs)
top_first R x rs means bound some top = grind (arith, top_entered, all_not_after, not_after)

-- n decimal digits are a number below 10^n, and more digits never make a number smaller.
use Rattle.std.proofs.Common.{[], ◌≡◌, ℕ, ◌+◌, ◌*◌, ◌^◌, ◌<◌, ◌≤◌, Bool, true, false, nat_lt, ◌&&◌, List, ◌∷◌, length, drop, get_or, refl, arith}
use Rattle.cap_octet.specs.Digits.{are_digits, decimal_value, in_u64}
use Rattle.std.proofs.{Math.Nat.mul-le-mul_left, Math.Nat.pow-le-pow_right, lemmas.List.at_drop_more, lemmas.Int.Digits.digits_value-lt}
use Rattle.std.specs.{Str.Parse.AllDigits, Str.Parse.digits_value_after, Str.Parse.digits_value, Char.digit_value}

pub grows : (radix n : ℕ) (cs : List ℕ) → 1 ≤ radix → n ≤ digits_value_after radix n cs
grows radix n [] h = omega arith
grows radix n (c ∷ cs) h =
    let more = grows _ (n * radix + digit_value c) cs h in
    omega (arith, mul-le-mul_left n h)

-- the number is at least the one with the digit at i
pub whole_grows : (radix n i : ℕ) (cs : List ℕ) → 1 ≤ radix → i < length cs → digits_value_after radix n (drop i cs) ≡ digits_value radix cs
    → n * radix + digit_value (get_or cs i 0) ≤ digits_value radix cs
whole_grows radix n i cs h within rest =
    let step = at_drop_more (digits_value_after radix n) cs i 0 within in
    let more = grows _ (n * radix + digit_value (get_or cs i 0)) (drop (i + 1) cs) h in
    omega arith

pub both : (a b : Bool) → a && b ≡ true → (a ≡ true) × (b ≡ true)
both true b h = (refl, h)
both false b h = absurd (cc)

below : (m n : ℕ) → nat_lt m n ≡ true → m < n
below m n h = grind arith

-- bytes for which the test is true are digits
pub digits_from_test : (radix : ℕ) (ds : List ℕ) → are_digits radix ds ≡ true → AllDigits radix ds
digits_from_test radix [] pass = tt
digits_from_test radix (d ∷ ds) pass =
    let parts = both _ _ pass in
    (below _ _ parts.0, digits_from_test _ ds parts.1)

pub digits_pass : (radix : ℕ) (ds : List ℕ) → AllDigits radix ds → are_digits radix ds ≡ true
digits_pass radix [] all = refl
digits_pass radix (d ∷ ds) all = pass_more _ _ _ all.0 (digits_pass _ ds all.1)
  where
    pass_more : (m n : ℕ) (rest : Bool) → m < n → rest ≡ true → nat_lt m n && rest ≡ true
    pass_more m n rest h more = rw more (grind arith)

pub below_ten_to : (ds : List ℕ) → are_digits 10 ds ≡ true → digits_value 10 ds < 10 ^ length ds
below_ten_to ds pass = digits_value-lt 10 ds (digits_from_test 10 ds pass)

-- up to 19 digits write less than 2^64
pub few_in_u64 : (ds : List ℕ) → length ds ≤ 19 → in_u64 (decimal_value ds) ≡ decimal_value ds
few_in_u64 ds upper_bound = grind (arith, below_ten_to, pow-le-pow_right)

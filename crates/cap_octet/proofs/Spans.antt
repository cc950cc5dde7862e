-- Reading seconds and their fraction in 64 bits gives the same value as in unbounded numbers.
use Rattle.std.proofs.Common.{◌≡◌, ℕ, ◌+◌, ◌-◌, ◌*◌, ◌^◌, ◌<◌, ◌≤◌, Bool, true, false, List, length, Option, Some, None, refl, sym, ap, ◌∙◌, arith}
use Rattle.std.proofs.Common.{if◌then◌else◌, take, drop, length-take}
use Rattle.std.proofs.Math.Nat.{one-le-pow, mul-le-mul_right}
use Rattle.cap_octet.proofs.Numerals.{below_ten_to, few_in_u64}
use Rattle.cap_octet.specs.{Seconds.duration_of_parts, Seconds.fraction_nanoseconds, Digits.decimal_value, Digits.in_u64, Timestamp.number_at}
use Rattle.std.{proofs.lemmas.Nat.pow-add, specs.Option.option_and_then}

-- a number of a digits, moved to nine
nine : (a v : ℕ) → a ≤ 9 → v < 10 ^ a → v * 10 ^ (9 - a) < 1000000000
nine a v h lt =
    let whole = sym (pow-add 10 a _) ∙ ap (λ n. 10 ^ n) (let e : a + (9 - a) ≡ 9 = omega arith in e) in
    let there = whole ∙ refl in
    let some : 1 ≤ 10 ^ (9 - a) = one-le-pow _ 10 (omega arith) in
    let up : (v + 1) * 10 ^ (9 - a) ≤ 10 ^ a * 10 ^ (9 - a) = mul-le-mul_right _ (omega arith) in
    let split : (v + 1) * 10 ^ (9 - a) ≡ v * 10 ^ (9 - a) + 10 ^ (9 - a) = omega arith in
    omega arith

-- moved to nine digits they are less than a second
pub part_below : (ds : List ℕ) (n : ℕ) → length ds ≤ 9 → decimal_value ds ≡ Some n → n * 10 ^ (9 - length ds) < 1000000000
part_below ds n upper_bound e =
    grind (arith, below_ten_to, nine)

-- a number past the word is past the times
pub duration_of_parts_in_u64 : (o part : Option ℕ) → duration_of_parts (in_u64 o) part ≡ duration_of_parts o part
duration_of_parts_in_u64 None part = refl
duration_of_parts_in_u64 (Some n) None = grind arith
duration_of_parts_in_u64 (Some n) (Some m) = grind arith

none_if : (b : Bool) (o : Option ℕ) (f : ℕ → Option ℕ) → o ≡ None → (if b then option_and_then f o else None) ≡ None
none_if true o f e = rw e refl
none_if false o f e = refl

pub part_none : (ds : List ℕ) → decimal_value ds ≡ None → fraction_nanoseconds ds ≡ None
part_none ds e = none_if _ _ (λ n. Some _) e

pub number_there : (bytes : List ℕ) (at count : ℕ) → count ≤ 9 → in_u64 (decimal_value (take (at + count - at) (drop at bytes))) ≡ number_at bytes at count
number_there bytes at count upper_bound =
    grind (arith, few_in_u64, length-take)

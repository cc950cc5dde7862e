-- Digits in base 16, from the last to the first.
use Rattle.std.proofs.Common.{◌≡◌, ℕ, suc, ◌+◌, ◌-◌, ◌/◌, ◌%◌, ◌^◌, ◌<◌, ◌≤◌, List, false, arith, drop, length, slice_set}
use Rattle.std.specs.Fmt.{digit_glyph, digits_onto}
use Rattle.std.proofs.lemmas.{List.drop-set, Grind.pow_more}

-- a number of a given number of digits has one fewer without its last
pub fewer : (k n : ℕ) → n < 16 ^ (k + 1) → n / 16 < 16 ^ k
fewer k n small = grind (arith, pow_more)

-- a number of a given number of digits that has another one before the last has room for it
pub has_room : (s n : ℕ) → n < 16 ^ (s + 1) → 16 ≤ n → 1 ≤ s
has_room s n small more = grind arith

-- a digit is put before the others
pub put_more : (s n d : ℕ) (ds : List ℕ) → s < length ds → 1 ≤ s → 16 ≤ n → d ≡ digit_glyph false (n % 16) → digits_onto (57 + (s - 1)) 16 false
    (n / 16) (drop (s - 1 + 1) (slice_set ds s d)) ≡ digits_onto (57 + s) 16 false n (drop (s + 1) ds)
put_more s n d ds inside room more e =
    let at : s - 1 + 1 ≡ s = omega arith in
    let from : suc (57 + (s - 1)) ≡ 57 + s = omega arith in
    grind (arith, slice_set, drop-set)

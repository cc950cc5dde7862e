-- A mask of 128 bits, by the four words in which it stands.
use Rattle.flt_gen.proofs.Common.{◌≡◌, ℕ, ◌+◌, ◌-◌, ◌*◌, ◌^◌, ◌<◌, ◌≤◌, [], ◌∷◌, map, ap, arith, Option, ⊎_elim, cases_lt, pow-add, first_bits, ip6_mask}
use Rattle.flt_gen.proofs.Common.{word_mask, nat_tests, ip6_tests}
use Rattle.std.{proofs.Math.Pow.pow_mono, specs.Int.Digits.number_from_digits}

-- each word lacks a power of 2, the whole word where it has no bit of the mask; so does the mask
joins : (a b c d q : ℕ) → a ≤ 2 ^ 32 → b ≤ 2 ^ 32 → c ≤ 2 ^ 32 → d ≤ 2 ^ 32 → q + 2 ^ 96 + 2 ^ 64 + 2 ^ 32 ≡ a * 2 ^ 96 + b * 2 ^ 64 + c * 2 ^ 32 + d
    → number_from_digits (2 ^ 32) ((2 ^ 32 - a) ∷ (2 ^ 32 - b) ∷ (2 ^ 32 - c) ∷ (2 ^ 32 - d) ∷ []) ≡ 2 ^ 128 - q
joins a b c d q l m n o e = omega arith

-- what the mask of a word lacks, and what that of n bits more does, as powers of 2
same : (k m : ℕ) → k ≡ m → 2 ^ k ≡ 2 ^ m
same k m e = ap (λ n. 2 ^ n) e

parted : (n bits : ℕ) → 2 ^ (32 + n - bits) + 2 ^ n ≡ 2 ^ (32 - bits) * 2 ^ n + 2 ^ (n - (bits - 32))
parted n bits =
    ⊎_elim (λ few. omega (arith, same (32 + n - bits) (32 - bits + n) (omega arith), pow-add 2 (32 - bits) n, same (n - (bits - 32)) n (omega arith)))
    (λ many. omega (arith, ap (λ m. m * 2 ^ n) (same (32 - bits) 0 (omega arith)), same (32 + n - bits) (n - (bits - 32)) (omega arith))) (cases_lt bits 32)

masks_join : (bits : ℕ) → number_from_digits (2 ^ 32) (first_bits 32 (bits - 32 * 0) ∷ first_bits 32 (bits - 32 * 1) ∷ first_bits 32 (bits - 32 * 2) ∷
    first_bits 32 (bits - 32 * 3) ∷ []) ≡ first_bits 128 bits
masks_join bits =
    let few : (word : ℕ) → 2 ^ (32 - (bits - 32 * word)) ≤ 2 ^ 32 = λ word. pow_mono {i = 32 - (bits - 32 * word)} {j = 32} (omega arith) in
    joins _ _ _ _ _ (few 0) (few 1) (few 2) (few 3) (omega (
      arith,
      parted 96 bits,
      parted 64 (bits - 32),
      parted 32 (bits - 32 - 32),
      same (32 - bits) (32 - (bits - 32 * 0)) (omega arith),
      same (32 - (bits - 32 - 32)) (32 - (bits - 32 * 2)) (omega arith),
      same (32 - (bits - 32 - 32 - 32)) (32 - (bits - 32 * 3)) (omega arith),
    ))

-- what is below a word of an address
pub word_power : (word : ℕ) → 2 ^ (96 - 32 * word) < 2 ^ 128
word_power word = let low : 2 ^ (96 - 32 * word) ≤ 2 ^ 96 = pow_mono {i = 96 - 32 * word} {j = 96} (omega arith) in omega arith

pub joined : (prefix : Option ℕ) (address at : ℕ) → number_from_digits (2 ^ 32) (map word_mask (ip6_tests prefix address at)) ≡ ip6_mask prefix
joined prefix address at = grind (arith, nat_tests, masks_join)

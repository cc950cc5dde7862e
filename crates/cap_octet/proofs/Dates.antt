-- A printed date is the text of its second, followed by nine digits for the nanoseconds.
use Rattle.std.proofs.Common.{◌≡◌, ℕ, zero, suc, ◌+◌, ◌-◌, ◌*◌, ◌/◌, ◌%◌, ◌<◌, Bool, true, ◌&&◌, T, eqb, ◌++◌, get_or, refl, arith, eqb→eq, eq-zero-or-pos, inl}
use Rattle.std.proofs.Common.{inr, append_assoc}
use lib.Ieee.Fits.{and_l, and_r}
use Rattle.cap_octet.specs.{Date.NANOS_PER_SECOND, Date.NANOS_PER_DAY, Date.date_text, Date.digits, Date.second_text, declared.date.TheConstants.PAIRS}

-- the date of a time is that of its second, and the digits of what is over
pub date_text_split : (t : ℕ) → date_text t ≡ second_text (t / NANOS_PER_SECOND) ++ digits 9 (t % NANOS_PER_SECOND)
unfolding date_text second_text
date_text_split t =
    let days : t / NANOS_PER_DAY ≡ t / NANOS_PER_SECOND / 86_400 = omega arith in
    rw (days, append_assoc) refl

-- the two digits of each number below n are where the table has them
abbrev are_pairs : ℕ → Bool
are_pairs zero = true
are_pairs (suc n) = (eqb (get_or PAIRS (2 * n) 0) (48 + n / 10) && eqb (get_or PAIRS (2 * n + 1) 0) (48 + n % 10)) && are_pairs n

pairs_below : (n p : ℕ) → T (are_pairs n) → p < n → (get_or PAIRS (2 * p) 0 ≡ 48 + p / 10) × (get_or PAIRS (2 * p + 1) 0 ≡ 48 + p % 10)
pairs_below zero p test less = absurd (omega arith)
pairs_below (suc n) p test less =
    elim (eq-zero-or-pos (n - p)) [
      | inl same ↦ let e : p ≡ n = omega arith in let both = and_l _ (are_pairs n) test in rw e (eqb→eq _ _ (and_l _ _ both), eqb→eq _ _ (and_r _ _ both))
      | inr more ↦ pairs_below n p (and_r _ (are_pairs n) test) (omega arith)
    ]

pub pair_at : (p : ℕ) → p < 100 → (get_or PAIRS (2 * p) 0 ≡ 48 + p / 10) × (get_or PAIRS (2 * p + 1) 0 ≡ 48 + p % 10)
pair_at p less = pairs_below 100 p tt less

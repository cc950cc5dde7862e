-- Numbers in digits: leading zeros, groups of IPv6 addresses, and decimal numbers two digits at a
-- time.
use Rattle.std.proofs.Common.{◌≡◌, ◌≢◌, ℕ, suc, ◌+◌, ◌-◌, ◌<◌, List, ◌∷◌, length, drop, get_or, refl, arith, rules, ◌/◌, ◌%◌, ◌≤◌, [], ◌^◌, ◌++◌, append_assoc}
use Rattle.std.proofs.Common.{decimal}
use Rattle.std.proofs.lemmas.{Fmt.decimal_digit, Fmt.decimal_step, List.drop_more}
use Rattle.cap_print.specs.Hexadecimal.{without_zeros, hex_digit, hex_four, hex_group}
use Rattle.cap_octet.specs.Date.{digits}

pub other-stays : (m d : ℕ) (ds : List ℕ) → d ≢ 48 → without_zeros (suc m) (d ∷ ds) ≡ d ∷ ds
other-stays m d ds isnt = search rules

-- a zero goes, and what follows it is looked at
pub zeros-more : (digits : List ℕ) (most i : ℕ) → i < most → i < length digits → get_or digits i 0 ≡ 48
    → without_zeros (most - (i + 1)) (drop (i + 1) digits) ≡ without_zeros (most - i) (drop i digits)
zeros-more digits most i less within is =
    let one : most - i ≡ suc (most - (i + 1)) = omega arith in
    rw (one, drop_more digits i 0 within, is) refl

-- another digit stays, with those after it
pub zeros-end : (digits : List ℕ) (most i : ℕ) → i < most → i < length digits → get_or digits i 0 ≢ 48
    → drop i digits ≡ without_zeros (most - i) (drop i digits)
zeros-end digits most i less within isnt =
    grind (arith, drop_more, other-stays)

digit_shows : (d : ℕ) → 0 < d → hex_digit d ≢ 48
digit_shows d some = grind arith

pub group_of_one : (n : ℕ) → n < 16 → hex_group n ≡ hex_digit (n % 16) ∷ []
unfolding hex_group hex_four
group_of_one n less =
    grind arith

pub group_of_two : (n : ℕ) → 16 ≤ n → n < 256 → hex_group n ≡ hex_digit (n / 16 % 16) ∷ hex_digit (n % 16) ∷ []
unfolding hex_group hex_four
group_of_two n more less =
    grind (arith, other-stays, digit_shows)

pub group_of_three : (n : ℕ) → 256 ≤ n → n < 4096
    → hex_group n ≡ hex_digit (n / 256 % 16) ∷ hex_digit (n / 16 % 16) ∷ hex_digit (n % 16) ∷ []
unfolding hex_group hex_four
group_of_three n more less =
    grind (arith, other-stays, digit_shows)

pub group_of_four : (n : ℕ) → 4096 ≤ n → hex_group n ≡ hex_four n
unfolding hex_group hex_four
group_of_four n more =
    grind (arith, other-stays, digit_shows)

pub decimal_two : (n : ℕ) → 10 ≤ n → n < 100 → decimal n ≡ digits 2 n
decimal_two n low high =
    grind (arith, decimal_step, decimal_digit)

pub decimal_pair : (n : ℕ) → 100 ≤ n → n < 2 ^ 32 → decimal n ≡ decimal (n / 100) ++ digits 2 (n % 100)
decimal_pair n low high =
    grind (arith, decimal_step, append_assoc)

pub decimal_two_pairs : (n : ℕ) → 10000 ≤ n → n < 2 ^ 32
    → decimal n ≡ decimal (n / 10000) ++ digits 2 (n / 100 % 100) ++ digits 2 (n % 100)
decimal_two_pairs n low high =
    grind (arith, decimal_pair)

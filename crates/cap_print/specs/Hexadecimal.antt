-- Numbers in hexadecimal, with lower-case digits.
use Rattle.std.specs.Prelude.{ℕ, zero, suc, ◌+◌, ◌/◌, ◌%◌, ◌==◌, nat_lt, if◌then◌else◌, List, [], ◌∷◌, ◌++◌}

-- the digit of a number below 16
abbrev pub hex_digit : ℕ → ℕ
hex_digit d = if nat_lt d 10 then 48 + d else 87 + d

-- the two digits of a byte
unfoldable pub hex_two : ℕ → List ℕ
hex_two n = hex_digit (n / 16) ∷ hex_digit (n % 16) ∷ []

-- the four digits of a number below 2^16
unfoldable pub hex_four : ℕ → List ℕ
hex_four n =
    hex_digit (n / 4096) ∷ hex_digit (n / 256 % 16) ∷ hex_digit (n / 16 % 16) ∷ hex_digit (n % 16)
    ∷ []

-- the eight digits of a number below 2^32
unfoldable pub hex_eight : ℕ → List ℕ
hex_eight n = hex_four (n / 0x1_0000) ++ hex_four (n % 0x1_0000)

-- the sixteen digits of a number below 2^64
unfoldable pub hex_sixteen : ℕ → List ℕ
hex_sixteen n = hex_eight (n / 0x1_0000_0000) ++ hex_eight (n % 0x1_0000_0000)

-- digits without leading zeros, of which at most a given number are removed
abbrev pub without_zeros : ℕ → List ℕ → List ℕ
without_zeros zero digits = digits
without_zeros (suc most) [] = []
without_zeros (suc most) (d ∷ digits) = if d == 48 then without_zeros most digits else d ∷ digits

-- a number below 2^16 without leading zeros
unfoldable pub hex_group : ℕ → List ℕ
hex_group n = without_zeros 3 (hex_four n)

-- a number below 2^64 without leading zeros, but with at least four digits
unfoldable pub hex_place : ℕ → List ℕ
hex_place n = without_zeros 12 (hex_sixteen n)

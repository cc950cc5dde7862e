-- The numbers that digits write.
use Rattle.std.specs.{Char.digit_value, List.list_all, Option.option_and_then}
use Rattle.std.specs.Prelude.{ℕ, ◌^◌, nat_lt, ◌==◌, ◌&&◌, not, Bool, if◌then◌else◌, List, length, Option, Some, None}
use Rattle.std.specs.Str.Parse.{digits_value}

-- whether all bytes are digits of a radix, in ASCII
abbrev pub are_digits : ℕ → List ℕ → Bool
are_digits radix ds = list_all (λ b. nat_lt (digit_value b) radix) ds

-- the value of a text of one or more decimal digits; None for any other text
abbrev pub decimal_value : List ℕ → Option ℕ
decimal_value ds = if not (length ds == 0) && are_digits 10 ds then Some (digits_value 10 ds) else None

-- a number, if it is below 2^64; else None
abbrev pub in_u64 : Option ℕ → Option ℕ
in_u64 number = option_and_then (λ n. if nat_lt n (2 ^ 64) then Some n else None) number

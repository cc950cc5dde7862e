-- Decimal numbers of seconds, read as nanoseconds.
use Rattle.std.specs.Option.{option_and_then}
use Rattle.std.specs.Prelude.{ℕ, ◌+◌, ◌-◌, ◌*◌, ◌^◌, nat_lt, nat_le, ◌==◌, if◌then◌else◌, List, length, take, drop, position, Option, Some, None}
use Rattle.cap_octet.specs.{Date.NANOS_PER_SECOND, Date.TIME_END, Digits.decimal_value}

-- the nanoseconds that 1 to 9 digits after the decimal point mean; None for any other text
abbrev pub fraction_nanoseconds : List ℕ → Option ℕ
fraction_nanoseconds ds =
    if nat_le (length ds) 9 then option_and_then (λ n. Some (n * 10 ^ (9 - length ds)))
    (decimal_value ds) else None

-- these nanoseconds, if they are below 2^63; else None
abbrev pub time_below_end : ℕ → Option ℕ
time_below_end n = if nat_lt n TIME_END then Some n else None

-- the nanoseconds of whole seconds and a fraction in nanoseconds, if both are given and their sum
-- is below 2^63; else None
abbrev pub duration_of_parts : Option ℕ → Option ℕ → Option ℕ
duration_of_parts seconds fraction =
    option_and_then
    (λ s. option_and_then (λ f. time_below_end (s * NANOS_PER_SECOND + f)) fraction) seconds

-- the nanoseconds that a text means: only digits, if the place of the point is None; else digits, a
-- point at that place and 1 to 9 digits. None for any other text, and from 2^63 on.
abbrev pub duration_at : List ℕ → Option ℕ → Option ℕ
duration_at text None = duration_of_parts (decimal_value text) (Some 0)
duration_at text (Some point) =
    duration_of_parts (decimal_value (take point text)) (fraction_nanoseconds (drop (point + 1) text))

-- the nanoseconds that a number of seconds means, if they are below 2^63; None for any other text.
-- The point is the first `.`
unfoldable pub duration_value : List ℕ → Option ℕ
duration_value text = duration_at text (position (λ b. b == 46) text)

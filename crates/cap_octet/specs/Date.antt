-- Times as printed dates. A time is nanoseconds since 1970-01-01 00:00:00 UTC.
use Rattle.std.specs.Prelude.{ℕ, zero, suc, ◌+◌, ◌/◌, ◌%◌, ◌^◌, List, [], ◌∷◌, ◌++◌}
use Rattle.cap_octet.specs.Calendar.{Day, day_from_epoch}

-- the nanoseconds of a second
abbrev pub NANOS_PER_SECOND : ℕ
NANOS_PER_SECOND = 1_000_000_000

-- times are less than this
abbrev pub TIME_END : ℕ
TIME_END = 2 ^ 63

-- the nanoseconds of a day
abbrev pub NANOS_PER_DAY : ℕ
NANOS_PER_DAY = 86_400_000_000_000

-- the last `width` decimal digits of n, with leading zeros
abbrev pub digits : ℕ → ℕ → List ℕ
digits zero n = []
digits (suc width) n = digits width (n / 10) ++ (48 + n % 10) ∷ []

-- YYYY-MM-DD
abbrev pub day_text : Day → List ℕ
day_text d = digits 4 d.year ++ 45 ∷ digits 2 d.month ++ 45 ∷ digits 2 d.day

-- hh:mm:ss, from the number of seconds since midnight
abbrev pub clock_text : ℕ → List ℕ
clock_text s = digits 2 (s / 3600 % 24) ++ 58 ∷ digits 2 (s / 60 % 60) ++ 58 ∷ digits 2 (s % 60)

-- YYYY-MM-DD hh:mm:ss and a point, from the number of seconds since 1970-01-01 00:00:00 UTC
unfoldable pub second_text : ℕ → List ℕ
second_text s = day_text (day_from_epoch (s / 86_400)) ++ 32 ∷ clock_text s ++ 46 ∷ []

-- YYYY-MM-DD hh:mm:ss.nnnnnnnnn, from a time
unfoldable pub date_text : ℕ → List ℕ
date_text t =
    day_text (day_from_epoch (t / NANOS_PER_DAY)) ++ 32 ∷ clock_text (t / NANOS_PER_SECOND)
    ++ 46 ∷ digits 9 (t % NANOS_PER_SECOND)

-- The texts that are read as times: dates with times of day in UTC (RFC 3339), or numbers of
-- seconds.
use Rattle.std.specs.Option.{option_and_then}
use Rattle.std.specs.Prelude.{ℕ, ◌+◌, ◌-◌, ◌*◌, nat_lt, nat_le, ◌==◌, ◌&&◌, Bool, if◌then◌else◌, List, length, take, drop, slice_index, Option, Some, None, pos, unsigned_abs}
use Rattle.jiff_core.specs.Calendar.{days_in_month, days_from_civil}
use Rattle.cap_octet.specs.{Date.NANOS_PER_SECOND, Digits.decimal_value}
use Rattle.cap_octet.specs.Seconds.{fraction_nanoseconds, time_below_end, duration_value}

-- the days from 1970-01-01 to a day; None if the calendar lacks the day or its year isn't from 1970
-- to 9999
abbrev pub day_number : ℕ → ℕ → ℕ → Option ℕ
day_number year month day =
    if nat_le 1970 year
    && (nat_le year 9999
    && (nat_le 1 month
    && (nat_le month 12 && (nat_le 1 day && nat_le day (days_in_month (pos year) month))))) then
    Some (unsigned_abs (days_from_civil (pos year) month day))
    else None

-- the day's number, if year, month and day are numbers and the calendar has that day; else None
abbrev pub day_of_parts : Option ℕ → Option ℕ → Option ℕ → Option ℕ
day_of_parts year month day =
    option_and_then
    (λ y. option_and_then (λ m. option_and_then (λ d. day_number y m d) day) month) year

-- the seconds since midnight of a time of day, without leap seconds; None if there is no such time
abbrev pub second_of_day : ℕ → ℕ → ℕ → Option ℕ
second_of_day hour minute second =
    if nat_lt hour 24
    && (nat_lt minute 60 && nat_lt second 60) then Some (hour * 3600 + minute * 60 + second)
    else None

-- the seconds since midnight, if hour, minute and second are numbers and there is such a time; else
-- None
abbrev pub clock_of_parts : Option ℕ → Option ℕ → Option ℕ → Option ℕ
clock_of_parts hour minute second =
    option_and_then
    (λ h. option_and_then (λ m. option_and_then (λ s. second_of_day h m s) second) minute) hour

-- the nanoseconds since 1970-01-01, from a day's number, the seconds since midnight and a fraction
-- in nanoseconds; None if one of these is, or if the sum is 2^63 or more
abbrev pub time_of_parts : Option ℕ → Option ℕ → Option ℕ → Option ℕ
time_of_parts day clock fraction =
    option_and_then
    (λ d. option_and_then
    (λ c. option_and_then
    (λ f. time_below_end ((d * 86400 + c) * NANOS_PER_SECOND + f)) fraction) clock) day

-- the value of the `count` digits at place `at`, or of fewer if the text ends before; None if there
-- is no digit, or another character
abbrev pub number_at : List ℕ → ℕ → ℕ → Option ℕ
number_at text at count = decimal_value (take count (drop at text))

-- the nanoseconds of a point and 1 to 9 digits, or 0 for an empty text; None for any other text
abbrev pub optional_fraction : List ℕ → Option ℕ
optional_fraction text =
    if length text == 0 then Some 0 else if slice_index text 0 == 46 then fraction_nanoseconds (drop 1 text)
    else None

-- whether a text has the marks of YYYY-MM-DDThh:mm:ss at their places, and ends with Z; anything
-- may come before the Z
unfoldable pub is_date_time : List ℕ → Bool
is_date_time text =
    nat_le 20 (length text)
    && ((slice_index text 4 == 45)
    && ((slice_index text 7 == 45) && ((slice_index text 10 == 84)
    && ((slice_index text 13 == 58)
    && ((slice_index text 16 == 58) && (slice_index text (length text - 1) == 90))))))

-- the nanoseconds since 1970-01-01 of such a text; None if the parts between the marks aren't a
-- date, a time of day and a fraction, or if the time is 2^63 or more
unfoldable pub date_time_value : List ℕ → Option ℕ
date_time_value text =
    time_of_parts (day_of_parts (number_at text 0 4) (number_at text 5 2) (number_at text 8 2))
    (clock_of_parts (number_at text 11 2) (number_at text 14 2) (number_at text 17 2))
    (optional_fraction (take (length text - 20) (drop 19 text)))

-- the nanoseconds since 1970-01-01 of a timestamp, if they are below 2^63: a date with a time of
-- day, or a number of seconds; None for any other text
unfoldable pub time_value : List ℕ → Option ℕ
time_value text = if is_date_time text then date_time_value text else duration_value text

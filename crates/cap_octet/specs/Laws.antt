-- The law that counting days one by one, by which dates are printed, agrees with jiff's day
-- numbers, by which they are read.
use Rattle.std.specs.Prelude.{◌≡◌, ℕ, ◌≤◌, Some}
use Rattle.cap_octet.specs.{Calendar.ymd, Calendar.day_from_epoch, Timestamp.day_number}

-- the day that comes n days after 1970-01-01 has the number n, for n up to 200,000
abbrev pub DayHasItsNumber : Type 0
DayHasItsNumber =
    (n : ℕ) → n ≤ 200_000
    → day_number (day_from_epoch n).year (day_from_epoch n).month (day_from_epoch n).day ≡ Some n

-- a day with the number n comes n days after 1970-01-01, for n up to 200,000
abbrev pub NumberHasItsDay : Type 0
NumberHasItsDay =
    (year month day n : ℕ) → n ≤ 200_000 → day_number year month day ≡ Some n
    → day_from_epoch n ≡ ymd year month day

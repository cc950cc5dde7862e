-- The days of the Gregorian calendar, counted one by one from 1970-01-01.
use Rattle.std.specs.Prelude.{ℕ, zero, suc, ◌+◌, nat_lt, if◌then◌else◌, pos}
use Rattle.jiff_core.specs.Calendar.{days_in_month}

-- a day of the calendar
pub record Day : Type 0 where
  pub year : ℕ
  -- from 1 for January
  pub month : ℕ
  -- from 1
  pub day : ℕ

-- the day of a year, a month and a number in it
abbrev pub ymd : ℕ → ℕ → ℕ → Day
ymd year month day = record { year = year; month = month; day = day }

-- the day after
abbrev pub next_day : Day → Day
next_day d =
    if nat_lt d.day (days_in_month (pos d.year) d.month) then ymd d.year d.month (d.day + 1)
    else if nat_lt d.month 12 then ymd d.year (d.month + 1) 1
    else ymd (d.year + 1) 1 1

-- the day that comes n days after 1970-01-01
unfoldable pub day_from_epoch : ℕ → Day
day_from_epoch zero = ymd 1970 1 1
day_from_epoch (suc n) = next_day (day_from_epoch n)

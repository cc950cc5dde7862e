-- Counting days one by one gives the same dates as jiff's day numbers.
use Rattle.std.proofs.Common.{◌≡◌, ℕ, ap, zero, suc, ◌+◌, ◌<◌, ◌≤◌, ◌⊎◌, inl, inr, sym, ◌∙◌, arith, ℤ, pos, negsuc, ◌≤ℤ◌, ◌+ℤ◌, ◌-◌, Some, nat_lt, to_z, w16}
use Rattle.cap_octet.proofs.Common.{unsigned_abs, to_z_pos, lt-ltb, le-ltb, le-leb}
use Rattle.cap_octet.specs.Calendar.{Day, ymd, next_day, day_from_epoch}
use Rattle.jiff_core.proofs.DateLemmas.{days_from_civil-day, days_from_civil-next_month, days_from_civil-next_year, days_from_civil-max, epoch_day_injective}
use Rattle.jiff_core.proofs.DateLemmas.{epoch_day_same, epoch_day-lt, cases_date}
use Rattle.jiff_core.proofs.{SignedLemmas.signed_arith, CalendarLemmas.days_in_month_bounds}
use Rattle.cap_octet.specs.{Timestamp.day_number, Laws.DayHasItsNumber, Laws.NumberHasItsDay}
use Rattle.jiff_core.specs.{Calendar.days_in_month, Calendar.IsCivilDate, Calendar.days_from_civil, Date.epoch_day, declared.civil.date.Date.Date}

abbrev date_of : (y m d : ℕ) → IsCivilDate (pos y) m d → Date
date_of y m d civil = record { year = pos y; month = m; day = d; year_in = civil.0; month_in = civil.1; day_in = civil.2 }

-- c is the day with the number n
pub record IsCounted (n : ℕ) (c : Day) : Type 0 where
  pub civil : IsCivilDate (pos c.year) c.month c.day
  pub low : 1970 ≤ c.year
  pub number : days_from_civil (pos c.year) c.month c.day ≡ pos n

counted_first : IsCounted 0 (ymd 1970 1 1)
unfolding days_from_civil
counted_first = grind (arith, signed_arith)

counted_in_month : (n : ℕ) (c : Day) → IsCounted n c → c.day < days_in_month (pos c.year) c.month → IsCounted (suc n) (ymd c.year c.month (c.day + 1))
counted_in_month n c h lt = record {
  civil = (h.civil.0, h.civil.1, (omega arith, omega arith));
  low = h.low;
  number = omega (arith, signed_arith, days_from_civil-day (pos c.year) c.month (c.day + 1) _ (omega arith) h.civil.2.0);
}

below_or : (a b : ℕ) → (a < b) ⊎ (b ≤ a)
below_or a b = grind arith

counted_in_year : (n : ℕ) (c : Day) → IsCounted n c → days_in_month (pos c.year) c.month ≤ c.day → c.month < 12 → IsCounted (suc n) (ymd c.year (c.month + 1) 1)
counted_in_year n c h ge lt =
    let last : c.day ≡ days_in_month (pos c.year) c.month = omega arith in
    let long = days_in_month_bounds (pos c.year) (c.month + 1) in
    record {
      civil = (h.civil.0, (omega arith, omega arith), (omega arith, omega arith));
      low = h.low;
      number = omega (arith, signed_arith, days_from_civil-next_month (pos c.year) _ _ h.civil.1.0 last);
    }

counted_next_year : (n : ℕ) (c : Day) → IsCounted n c → n < 200000 → days_in_month (pos c.year) c.month ≤ c.day → 12 ≤ c.month
    → IsCounted (suc n) (ymd (c.year + 1) 1 1)
counted_next_year n c h small ge last_month =
    let month : c.month ≡ 12 = omega arith in
    let long : days_in_month (pos c.year) c.month ≡ 31 = cc in
    let day : c.day ≡ 31 = omega arith in
    let at_end : days_from_civil (pos c.year) 12 31 ≡ pos n = cc in
    let next = days_from_civil-next_year (pos c.year) (pos (c.year + 1)) (omega (arith, signed_arith)) (omega (arith, signed_arith)) in
    let not_last : c.year ≡ 9999 → ⊥ = λ e. (let there : days_from_civil (pos 9999) 12 31 ≡ pos n = cc in
    omega (arith, signed_arith, days_from_civil-max)) in
    let more : c.year < 9999 = omega (arith, signed_arith) in
    record {
      civil = ((omega (arith, signed_arith), omega (arith, signed_arith)), (omega arith, omega arith), (omega arith, omega arith));
      low = omega arith;
      number = omega (arith, signed_arith);
    }

counted_next : (n : ℕ) (c : Day) → IsCounted n c → n < 200000 → IsCounted (suc n) (next_day c)
counted_next n c h small =
    let in_month = nat_lt c.day (days_in_month (pos c.year) c.month) in
    elim (below_or c.day (days_in_month (pos c.year) c.month)) [
      | inl lt ↦ rw lt-ltb (counted_in_month n c h lt)
      | inr ge ↦ rw le-ltb (elim (below_or c.month 12) [
        | inl lt ↦ rw lt-ltb (counted_in_year n c h ge lt)
        | inr le ↦ rw le-ltb (counted_next_year n c h small ge le)
      ])
    ]

pub counted : (n : ℕ) → n ≤ 200000 → IsCounted n (day_from_epoch n)
unfolding day_from_epoch
counted zero h = counted_first
counted (suc n) h = counted_next n _ (counted n (omega arith)) (omega arith)

-- a date with the day number n is the day that is n days after 1970-01-01
pub counted_date : (d : Date) (n : ℕ) → n ≤ 200000 → epoch_day d ≡ pos n → (d.year ≡ pos (day_from_epoch n).year)
    × (d.month ≡ (day_from_epoch n).month) × (d.day ≡ (day_from_epoch n).day)
counted_date d n small e =
    let h = counted n small in
    epoch_day_injective d (date_of _ _ _ h.civil) (e ∙ sym h.number)

-- a date from 1970 on has no negative day number
pub not_before : (d : Date) → pos 1970 ≤ℤ d.year → pos 0 ≤ℤ epoch_day d
unfolding day_from_epoch
not_before d low =
    let h = counted 0 (omega arith) in
    let first = date_of 1970 1 1 h.civil in
    let zero_there = h.number in
    elim (cases_date first d) [
      | inl later ↦ (let more = epoch_day-lt first d later in omega (arith, signed_arith))
      | inr (inr same) ↦ (let e = epoch_day_same first d same.0 same.1 same.2 in omega (arith, signed_arith))
      | inr (inl (inl year)) ↦ absurd (omega (arith, signed_arith))
      | inr (inl (inr (year, inl month))) ↦ absurd (omega (arith, signed_arith))
      | inr (inl (inr (year, inr (month, day)))) ↦ absurd (omega (arith, signed_arith))
    ]

abs_since : (z : ℤ) (r : ℕ) → pos 0 ≤ℤ z → z +ℤ pos 4371587 ≡ pos r → r - 4371587 ≡ unsigned_abs z
abs_since (pos n) r low e = omega (arith, signed_arith)
abs_since (negsuc n) r low e = absurd (omega (arith, signed_arith))

pub day_there : (y m d : ℕ) → 1970 ≤ y → y ≤ 9999 → 1 ≤ m → m ≤ 12 → 1 ≤ d → d ≤ days_in_month (pos y) m → day_number y m d ≡ Some
    (unsigned_abs (days_from_civil (pos y) m d))
day_there y m d a b e f g h = simp le-leb

-- the days since the library's first date are as many as lie before 1970, and the day's number
pub days_since : (y m d r : ℕ) → 1970 ≤ y → y ≤ 9999 → 1 ≤ m → m ≤ 12 → 1 ≤ d → d ≤ days_in_month (to_z w16 y) m
    → days_from_civil (to_z w16 y) m d +ℤ pos 4371587 ≡ pos r → (4371587 ≤ r) × (day_number y m d ≡ Some (r - 4371587))
days_since y m d r a b e f g h since =
    let same = to_z_pos w16 y (omega arith) in
    let last : d ≤ days_in_month (pos y) m = rw same at h in
    let sum : days_from_civil (pos y) m d +ℤ pos 4371587 ≡ pos r = cc in
    let late = not_before (date_of y m d ((omega (arith, signed_arith), omega (arith, signed_arith)), (e, f), (g, last))) (omega (arith, signed_arith)) in
    (omega (arith, signed_arith), day_there y m d a b e f g last ∙ ap Some (sym (abs_since _ r late sum)))

pub day_has_its_number : DayHasItsNumber
day_has_its_number n small =
    grind (arith, counted, signed_arith)

-- the calendar has a day that has a number
pub record IsNumbered (y m d n : ℕ) : Type 0 where
  pub low : 1970 ≤ y
  pub civil : IsCivilDate (pos y) m d
  pub number : unsigned_abs (days_from_civil (pos y) m d) ≡ n

numbered : (y m d n : ℕ) → day_number y m d ≡ Some n → IsNumbered y m d n
numbered y m d n e =
    grind (arith, signed_arith)

positive : (z : ℤ) (n : ℕ) → pos 0 ≤ℤ z → unsigned_abs z ≡ n → z ≡ pos n
positive (pos m) n low e = ap pos e
positive (negsuc m) n low e = absurd (omega (arith, signed_arith))

same_day : (c : Day) (y m d : ℕ) → pos y ≡ pos c.year → m ≡ c.month → d ≡ c.day → c ≡ ymd y m d
same_day c y m d year month day = grind (arith, signed_arith)

pub number_has_its_day : NumberHasItsDay
number_has_its_day y m d n small e =
    let h = numbered y m d n e in
    let date = date_of y m d h.civil in
    let late = not_before date (omega (arith, signed_arith)) in
    let same = counted_date date n small (positive _ n late h.number) in
    same_day _ y m d same.0 same.1 same.2

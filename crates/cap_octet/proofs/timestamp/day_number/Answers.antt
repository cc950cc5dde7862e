-- A date from 1970 on has a day number, by the lemma on jiff's numbers.
use Rattle.std.proofs.Common.{sym, arith}
use Rattle.cap_octet.proofs.Days.{days_since}
use Rattle.cap_octet.proofs.timestamp.day_number.Goals as goal

pub overflow_sub-result : goal.overflow_sub-result
overflow_sub-result c =
    (days_since c.args.year c.args.month c.args.day _ c.if-year-lt1970.false c.if-year-gt9999.false c.if-month-lt1.false c.if-month-gt12.false
    c.if-day-lt1.false (omega (arith, c.days_in_month.ensures.value)) c.days_since_min.ensures.value).0

pub returns : goal.returns
returns c =
    sym (days_since c.args.year c.args.month c.args.day _ c.if-year-lt1970.false c.if-year-gt9999.false c.if-month-lt1.false c.if-month-gt12.false
    c.if-day-lt1.false (omega (arith, c.days_in_month.ensures.value)) c.days_since_min.ensures.value).1

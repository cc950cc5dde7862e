-- The value of a date with a time is made of the numbers at their fixed places.
use Rattle.std.proofs.Common.{◌≡◌, ◌-◌, length, arith, refl}
use Rattle.cap_octet.specs.Timestamp.{date_time_value}
use Rattle.cap_octet.proofs.timestamp.date_time_value.Goals as goal

pub returns : goal.returns
unfolding date_time_value
returns c =
    let same : length c.args.text.now - 1 - 19 ≡ length c.args.text.now - 20 = omega arith in
    rw (c.time_of_parts.ensures, c.day_of_parts-day.ensures, c.clock_of_parts-clock.ensures, c.optional_fraction.ensures, same)
    (rw (c.number_at-year.ensures, c.number_at.ensures, c.number_at-2.ensures, c.number_at-hour.ensures, c.number_at-3.ensures, c.number_at-4.ensures) refl)

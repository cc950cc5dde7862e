-- jiff's date for a day number is the date that counting the days gives.
use Rattle.std.proofs.Common.{arith, rules, refl, ◌≡◌, ◌∙◌, pos, FitsSigned, w16, w64, of_z, to_z}
use Rattle.{jiff_core.specs.Date.epoch_day, jiff_core.proofs.SignedLemmas.signed_arith, std.proofs.lemmas.Int.to_z-of_z, cap_octet.proofs.Days.counted_date}
use Rattle.cap_octet.proofs.calendar.calendar_day.Goals as goal

pub overflow_cast-result : goal.overflow_cast-result
overflow_cast-result c =
    let whole : to_z w64 c.args.number ≡ pos c.args.number = grind (arith, signed_arith) in
    let e : epoch_day c.unwrap-date.result ≡ pos c.args.number = (rw c.unwrap-date.ensures at c.from_unix_epoch_day.ensures.value) ∙ whole in
    let same = counted_date c.unwrap-date.result c.args.number (omega arith) e in
    let fits : FitsSigned w16 c.unwrap-date.result.year = search rules in
    rw (same.0) (grind (arith, signed_arith, to_z-of_z))

pub returns : goal.returns
returns c =
    let whole : to_z w64 c.args.number ≡ pos c.args.number = grind (arith, signed_arith) in
    let e : epoch_day c.unwrap-date.result ≡ pos c.args.number = (rw c.unwrap-date.ensures at c.from_unix_epoch_day.ensures.value) ∙ whole in
    let same = counted_date c.unwrap-date.result c.args.number (omega arith) e in
    let fits : FitsSigned w16 c.unwrap-date.result.year = search rules in
    let year : to_z w16 (of_z w16 c.unwrap-date.result.year) ≡ c.unwrap-date.result.year = to_z-of_z _ _ fits in
    rw (year, same.0, same.1, same.2) refl

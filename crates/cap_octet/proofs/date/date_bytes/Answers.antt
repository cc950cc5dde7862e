-- The copied parts, in their order, are the date's text.
use Rattle.{std.proofs.Common.refl, cap_octet.specs.Date.second_text, cap_octet.proofs.Dates.date_text_split}
use Rattle.cap_octet.proofs.date.date_bytes.Goals as goal

pub returns : goal.returns
unfolding second_text
returns c =
    rw (date_text_split c.args.time, c.copy_from_slice-2.ensures.after, c.nine_digits.ensures, c.copy_from_slice.ensures.after, c.second_bytes.ensures) refl

-- Second and nanoseconds, one after the other, are the date's text.
use Rattle.std.proofs.Common.{refl, append_assoc}
use Rattle.cap_octet.proofs.Dates.{date_text_split}
use Rattle.cap_print.proofs.text.Text.push_date.Goals as goal

pub returns-clause-value : goal.returns-clause-value
returns-clause-value c =
    rw (
      date_text_split c.args.time,
      c.push_all-2.ensures,
      c.push_all.ensures,
      c.date_of-second.ensures.date,
      c.nine_digits.ensures,
      append_assoc,
      c.self.view_is,
    ) refl

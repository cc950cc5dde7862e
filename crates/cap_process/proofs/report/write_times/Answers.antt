-- The parts that are written are the report's lines of times.
use Rattle.{cap_io.proofs.Parts.appends-as, std.proofs.Common.refl, std.proofs.lemmas.List.append_assoc}
use Rattle.cap_process.proofs.report.write_times.Goals as goal

pub returns-clause-exact : goal.returns-clause-exact
returns-clause-exact g c = λ tells.
    appends-as _ _ _ _ _
    (rw (
      c.date_or_none.ensures,
      c.date_or_none-2.ensures,
      c.as_bytes.ensures.value,
      c.format.ensures.text,
      c.nine_digits-nanos.ensures,
      c.yes_or_no.ensures,
      c.date_bytes-earliest.ensures,
      c.date_bytes-latest.ensures,
      ← c.tally.view_is,
      append_assoc,
    ) refl)
    (c.write_parts.ensures.exact tells)

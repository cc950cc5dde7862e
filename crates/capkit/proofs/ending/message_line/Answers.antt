-- A message in UTF-8 is converted without an error.
use Rattle.capkit.proofs.ending.message_line.Goals as goal

pub returns-in-Err-clause-whole : goal.returns-in-Err-clause-whole
returns-in-Err-clause-whole c = λ utf8 text is. absurd (c.in-Err.ensures.cases.0 utf8)

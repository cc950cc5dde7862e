-- The digits at a place are the number there.
use Rattle.{std.proofs.Common.◌∙◌, cap_octet.proofs.Spans.number_there}
use Rattle.cap_octet.proofs.timestamp.number_at.Goals as goal

pub returns : goal.returns
returns c = c.decimal_value.ensures ∙ number_there c.args.text.now c.args.at c.args.count c.requires.upper_bound

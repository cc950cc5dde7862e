-- A duration is in the range of times.
use Rattle.capkit.proofs.Common.{◌∙◌, ap, true, option_map_or, is_time}
use Rattle.capkit.proofs.OptionValues.{proper_span}
use Rattle.capkit.proofs.values.duration.Goals as goal

pub returns-in-Some-clause-proper : goal.returns-in-Some-clause-proper
returns-in-Some-clause-proper c = ap (λ o. option_map_or is_time o true) c.span_of.ensures ∙ proper_span c.in-Some.text.now

-- A time that is read is in range.
use Rattle.capkit.proofs.Common.{◌∙◌, ap, true, option_map_or, is_time}
use Rattle.capkit.proofs.OptionValues.{proper_time}
use Rattle.capkit.proofs.values.time.Goals as goal

pub returns-in-Some-clause-proper : goal.returns-in-Some-clause-proper
returns-in-Some-clause-proper c = ap (λ o. option_map_or is_time o true) c.time_of.ensures ∙ proper_time c.in-Some.text.now

-- The count of packets is at least 1.
use Rattle.capkit.{specs.Arguments.most_64, proofs.OptionValues.one_or_more}
use Rattle.capkit.proofs.print_line.print_of.Goals as goal

pub returns-clause-proper : goal.returns-clause-proper
returns-clause-proper c = one_or_more most_64 _ c.number.ensures.bounds

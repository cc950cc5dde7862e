-- A number that isn't the one of two is the other one.
use Rattle.{std.proofs.Common.arith, flt_short.proofs.Common.nat_tests}
use Rattle.flt_short.proofs.facts.claim_by_outcome.Goals as goal

pub returns-in-IsOneOf : goal.returns-in-IsOneOf
returns-in-IsOneOf c = λ p n v h is e. grind (arith, nat_tests, c.claim_about.ensures p n v h is)

pub returns-in-IsOneOf-2 : goal.returns-in-IsOneOf-2
returns-in-IsOneOf-2 c = λ p n v h is e. grind (arith, nat_tests, c.claim_about.ensures p n v h is)

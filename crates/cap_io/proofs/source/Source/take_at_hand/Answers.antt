-- The packet at hand is taken only after one that is lent.
use Rattle.cap_io.proofs.{Common.arith, Hands.if-at-hand}
use Rattle.cap_io.proofs.source.Source.take_at_hand.Goals as goal

pub returns-in-Lent-clause-takes : goal.returns-in-Lent-clause-takes
returns-in-Lent-clause-takes g c = grind (arith, if-at-hand)

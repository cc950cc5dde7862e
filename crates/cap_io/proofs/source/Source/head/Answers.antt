-- The packet that is lent is the current one.
use Rattle.cap_io.proofs.Common.{arith}
use Rattle.cap_io.proofs.source.Source.head.Goals as goal

pub returns-clause-packet : goal.returns-clause-packet
returns-clause-packet g c = grind arith

-- The time is that of the current packet.
use Rattle.cap_io.proofs.{Common.arith, Passing.time-held}
use Rattle.cap_io.proofs.source.Source.time.Goals as goal

pub returns-in-Current : goal.returns-in-Current
returns-in-Current g c = grind (arith, time-held)

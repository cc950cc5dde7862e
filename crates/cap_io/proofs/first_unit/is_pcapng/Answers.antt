-- The first four bytes decide whether a file is pcapng.
use Rattle.cap_io.proofs.{Common.arith, FirstUnits.pcapng_by}
use Rattle.cap_io.proofs.first_unit.is_pcapng.Goals as goal

pub returns-in-Some : goal.returns-in-Some
returns-in-Some c = grind (arith, pcapng_by)

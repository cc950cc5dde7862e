-- The first 24 bytes determine the file header.
use Rattle.cap_io.proofs.{Common.arith, Common.checked, FirstUnits.head_taken}
use Rattle.cap_io.proofs.first_unit.header_in.Goals as goal

pub returns : goal.returns
returns c = search (arith, checked, head_taken)

-- If the start of a block can't be read, the file ends there, cleanly or not.
use Rattle.cap_io.proofs.{Common.arith, Common.err_from_is_err_and, CapturesCame.begun-front, CapturesCame.reads-no_unit}
use Rattle.cap_io.proofs.next_unit.UnitReader.next_block.Goals as goal

pub returns-in_err-read_front : goal.returns-in_err-read_front
returns-in_err-read_front g c = grind (arith, err_from_is_err_and, reads-no_unit, begun-front)

-- The source is at the next packet, by its buffer or by reading units.
use Rattle.cap_io.proofs.{Common.arith, Passing.bounds-then, Passing.past-between, Passing.past-bounds, Passing.past-continues}
use Rattle.cap_io.proofs.source.Source.advance_to_packet.Goals as goal

pub returns-then-take_next : goal.returns-then-take_next
returns-then-take_next g c = grind (arith, bounds-then)

pub leave_unit-requires : goal.leave_unit-requires
leave_unit-requires g c = grind arith

pub skip_to_packet-requires : goal.skip_to_packet-requires
skip_to_packet-requires g c = grind (arith, past-between)

pub returns : goal.returns
returns g c = search (arith, past-continues, past-bounds)

-- Another unit without a packet is skipped, or the search ends.
use Rattle.std.proofs.Common.{refl}
use Rattle.capkit_c.specs.Units.{none_passed}
use Rattle.capkit_c.proofs.Searches.{found_next, one_more_unit, unit_passed}
use Rattle.capkit_c.proofs.memory.reader.next_packet.Goals as goal

pub loop-found-init : goal.loop-found-init
loop-found-init c = record { passes = none_passed; packet = refl }

pub loop-found-smaller : goal.loop-found-smaller
loop-found-smaller c =
    (unit_passed c.args.capture.now c.loop-found.reader c.next_unit.new.reader c.loop-found.table c.next_unit.new.table c.loop-found.packet
    c.next_unit.new.packet c.next_unit.result
    c.next_unit.ensures.left c.in-Unit.is).less

pub loop-found-preserved : goal.loop-found-preserved
loop-found-preserved c =
    let more = one_more_unit c.args.capture.now c.args.reader.now c.loop-found.reader c.next_unit.new.reader c.args.table.now c.loop-found.table
    c.next_unit.new.table c.args.packet.now c.loop-found.packet c.next_unit.new.packet
    c.next_unit.result c.loop-found.invariant.passes c.loop-found.invariant.packet c.next_unit.ensures.left c.in-Unit.is in
    record { passes = more.passed; packet = more.same }

pub returns-in_default : goal.returns-in_default
returns-in_default c =
    found_next c.args.capture.now c.args.reader.now c.loop-found.reader c.next_unit.new.reader c.args.table.now c.loop-found.table
    c.next_unit.new.table c.args.packet.now c.loop-found.packet c.next_unit.new.packet
    c.next_unit.result c.loop-found.invariant.passes c.loop-found.invariant.packet c.next_unit.ensures.left c.in_default.not-Unit

-- A unit is skipped, a packet is judged, or the search ends.
use Rattle.capkit_c.specs.Matching.{at_stop}
use Rattle.capkit_c.proofs.Searches.{packet_step, stop, unit_step}
use Rattle.capkit_c.proofs.matching.search_step.Goals as goal

pub returns-in-Unit : goal.returns-in-Unit
returns-in-Unit c =
    unit_step c.args.insns.now c.args.link_type c.args.capture.now c.args.reader.now c.next_unit.new.reader c.args.table.now c.next_unit.new.table
    c.args.packet.now c.next_unit.new.packet c.next_unit.result
    c.next_unit.ensures.left c.in-Unit.is

pub returns-in-Packet : goal.returns-in-Packet
returns-in-Packet c =
    packet_step c.args.insns.now c.args.link_type c.args.capture.now c.args.reader.now c.next_unit.new.reader c.args.table.now c.next_unit.new.table
    c.args.packet.now c.next_unit.new.packet c.next_unit.result c.judge.result
    c.next_unit.ensures.left c.in-Packet.is c.judge.ensures

pub returns-in_default : goal.returns-in_default
returns-in_default c = at_stop c.next_unit.result c.next_unit.ensures.left (stop c.next_unit.result c.in_default.not-Unit c.in_default.not-Packet)
    c.found_number.ensures

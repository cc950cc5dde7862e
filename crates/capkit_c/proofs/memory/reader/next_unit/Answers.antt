-- The effect of the call is that of reading the unit.
use Rattle.capkit_c.proofs.Common.{arith, List, sym, subst, first_interfaces, BeginsWithUnit, FileState}
use Rattle.capkit_c.proofs.Leaves.{all_known, ended, found_packet, full, passed, refused}
use Rattle.cap_pcapng.specs.Interface.{Described}
use Rattle.cap_pcapng.specs.declared.effect.BlockEffect.{BlockEffect}
use Rattle.capkit_c.proofs.memory.reader.next_unit.Goals as goal

pub returns-then-is_at_end-clause-left : goal.returns-then-is_at_end-clause-left
returns-then-is_at_end-clause-left c = grind (arith, ended)

pub returns-in-Ok-clause-left : goal.returns-in-Ok-clause-left
returns-in-Ok-clause-left c =
    let f = c.file_state-form.result in
    let counted = c.known_interface_count-count.ensures in
    let known : List Described = first_interfaces c.known_interface_count-count.result c.args.table.now in
    let spans = c.in-Ok.spans in
    let head : FileState = FileState.Pcap c.in-Pcap.head in
    let B : FileState → Type 0 = λ g. BeginsWithUnit g known c.bytes_from-text.result.now
    (record { size = spans.size; file = head; effect = BlockEffect.Packet spans }) in
    let new = c.new_at.ensures in
    found_packet c.args.capture.now c.bytes_from-text.result.now c.args.reader.now c.new_at.result c.args.table.now c.args.packet.now c.packet_at.result f head
    c.known_interface_count-count.result spans.size spans c.file_state-form.ensures counted.counts counted.fits counted.bounds c.bytes_from-text.ensures
    (subst B (sym c.in-Pcap.is) (c.in-Ok.ensures.ok known)) new.form new.interfaces new.offset c.packet_at.ensures new.link

pub returns-in-Err-clause-left : goal.returns-in-Err-clause-left
returns-in-Err-clause-left c = grind (arith, refused)

pub returns-in-Err-unit_in-clause-left : goal.returns-in-Err-unit_in-clause-left
returns-in-Err-unit_in-clause-left c = grind (arith, refused)

pub returns-in-Packet-clause-left : goal.returns-in-Packet-clause-left
returns-in-Packet-clause-left c =
    let f = c.file_state-form.result in
    let counted = c.known_interface_count-count.ensures in
    let known : List Described = first_interfaces c.known_interface_count-count.result c.args.table.now in
    let unit = c.in-Ok-unit_in.unit in
    let B : BlockEffect → Type 0 = λ e. BeginsWithUnit f known c.bytes_from-text.result.now
    (record { size = unit.size; file = unit.file; effect = e }) in
    let new = c.new_at-in-Packet.ensures in
    found_packet c.args.capture.now c.bytes_from-text.result.now c.args.reader.now c.new_at-in-Packet.result c.args.table.now c.args.packet.now
    c.packet_at-in-Packet.result f unit.file c.known_interface_count-count.result unit.size c.in-Packet.spans c.file_state-form.ensures counted.counts
    counted.fits counted.bounds c.bytes_from-text.ensures (subst B c.in-Packet.is c.in-Ok-unit_in.ensures.ok) new.form new.interfaces new.offset
    c.packet_at-in-Packet.ensures new.link

pub returns-in_default-enter-clause-left : goal.returns-in_default-enter-clause-left
returns-in_default-enter-clause-left c = grind (arith, full)

pub returns-clause-left : goal.returns-clause-left
returns-clause-left c = grind (arith, passed)

pub returns-clause-full : goal.returns-clause-full
returns-clause-full c = grind (arith, full, all_known)

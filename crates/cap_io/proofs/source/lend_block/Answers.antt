-- A block at hand that fails no check is lent, if it has a packet.
use Rattle.cap_io.proofs.{Common.arith, Common.BlockEffect, FirstUnits.packet-first, Hands.unit-lent}
use Rattle.{std.proofs.Common.subst, cap_io.specs.FirstUnit.BeginsWithUnit}
use Rattle.cap_io.proofs.source.lend_block.Goals as goal

pub returns-in-Packet-clause-lent : goal.returns-in-Packet-clause-lent
returns-in-Packet-clause-lent g c = λ lent.
    let file = c.args.file.now in
    let hand = c.next_bytes.result.now in
    let found = c.in-Ok.found in
    let packet = c.in-Packet.packet in
    let with : BlockEffect → Type 0 = λ e. BeginsWithUnit file c.args.table.now hand (record found { effect = e }) in
    let begins = packet-first file found.file c.args.table.now hand found.size packet c.requires (subst with c.in-Packet.is c.in-Ok.ensures.ok) in
    grind (arith, unit-lent)

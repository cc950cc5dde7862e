-- The parts, joined, are the packet's block, with a comment or without.
use Rattle.std.proofs.Common.{◌+◌, sym, ◌∙◌, arith, refl}
use Rattle.cap_octet.specs.Packet.{Captured, captured}
use Rattle.cap_pcapng.proofs.WrittenBlocks.{packet_joined, plain_joined, comment_after}
use Rattle.cap_pcapng.proofs.write.put_packet_parts.Goals as goal

pub put-requires : goal.put-requires
put-requires g c =
    let p : Captured = captured c.args.packet.now in
    let padding = c.padding_after-padding.ensures in
    let it = plain_joined c.args.number _ p _ _ (sym c.is_empty.ensures ∙ c.if-is_empty.true) padding.short padding.padded
    c.packet_header-head.ensures c.packet_end-end.ensures in
    c.requires.callable _ _ _ it.0 it.1

pub returns-then-is_empty : goal.returns-then-is_empty
returns-then-is_empty g c =
    let p : Captured = captured c.args.packet.now in
    let padding = c.padding_after-padding.ensures in
    let it = plain_joined c.args.number _ p _ _ (sym c.is_empty.ensures ∙ c.if-is_empty.true) padding.short padding.padded
    c.packet_header-head.ensures c.packet_end-end.ensures in
    record { shown = _; shows = refl; parts = _; joins = it.0; size = _; sized = it.1; left = _; leaves = refl; met = c.put.ensures }

pub put-requires-2 : goal.put-requires-2
put-requires-2 g c =
    let p : Captured = captured c.args.packet.now in
    let padding = c.padding_after-padding.ensures in
    let following = comment_after _ _ p.bytes p.comment _ (sym c.is_empty.ensures ∙ c.if-is_empty.false) padding.short padding.padded
    c.padding_after-zeros.ensures.padded c.option_header-option.ensures in
    let it = packet_joined c.args.number (c.padding_after-zeros.result + 4) p _ _ _ (omega (arith, c.padding_after-zeros.ensures.short)) following
    c.packet_header-head-2.ensures c.packet_end-end-2.ensures in
    c.requires.callable _ _ _ it.0 it.1

pub returns : goal.returns
returns g c =
    let p : Captured = captured c.args.packet.now in
    let padding = c.padding_after-padding.ensures in
    let following = comment_after _ _ p.bytes p.comment _ (sym c.is_empty.ensures ∙ c.if-is_empty.false) padding.short padding.padded
    c.padding_after-zeros.ensures.padded c.option_header-option.ensures in
    let it = packet_joined c.args.number (c.padding_after-zeros.result + 4) p _ _ _ (omega (arith, c.padding_after-zeros.ensures.short)) following
    c.packet_header-head-2.ensures c.packet_end-end-2.ensures in
    record { shown = _; shows = refl; parts = _; joins = it.0; size = _; sized = it.1; left = _; leaves = refl; met = c.put-2.ensures }

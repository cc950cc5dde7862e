-- The next unit is written, and the writer records it.
use Rattle.capkit_c.proofs.Common.{arith, sym, ◌∙◌, captured, Captured}
use Rattle.capkit_c.proofs.Putting.{not_zero, is_less, is_not_less, is_packet, refusal, block_is, face_is, same_kept, more_kept}
use Rattle.capkit_c.proofs.Writes.{unrefused}
use Rattle.capkit_c.proofs.memory.writer.put_next.Goals as goal

pub returns-in-Some : goal.returns-in-Some
returns-in-Some c = grind (arith, refusal, is_packet)

pub returns-then-place : goal.returns-then-place
returns-then-place c =
    let p : Captured = captured c.args.packet.now in
    let at = c.place_of-place.ensures in
    record {
      leaves = unrefused _ _ _ _ _ c.put_packet.result
          (sym (refusal c.args.writer.now c.args.table.now p _ _ _ at.known at.number at.room _ c.refusal_of.ensures) ∙ c.in_default.is)
          (block_is c.args.writer.now c.args.table.now p _ _ _ at.known at.number at.room (not_zero _ c.if-writer-eq0.false)
          (is_less _ _ c.if-place.true)) c.put_packet.ensures;
      is_packet = λ _. is_packet c.args.writer.now c.args.table.now p _ _ _ at.known at.number at.room _ c.is_block_next-is_packet.ensures;
      keeps = same_kept c.args.writer.now c.args.table.now p _ _ _ at.known at.number at.room c.put_packet.result (not_zero _ c.if-writer-eq0.false)
          (is_less _ _ c.if-place.true);
    }

pub returns-else-place : goal.returns-else-place
returns-else-place c =
    let p : Captured = captured c.args.packet.now in
    let at = c.place_of-place.ensures in
    record {
      leaves = unrefused _ _ _ _ _ c.put_new_interface.result
          (sym (refusal c.args.writer.now c.args.table.now p _ _ _ at.known at.number at.room _ c.refusal_of.ensures) ∙ c.in_default.is)
          (face_is c.args.writer.now c.args.table.now p _ _ _ at.known at.number at.room (not_zero _ c.if-writer-eq0.false)
          (is_not_less _ _ c.if-place.false)) c.put_new_interface.ensures.leaves;
      is_packet = λ _. is_packet c.args.writer.now c.args.table.now p _ _ _ at.known at.number at.room _ c.is_block_next-is_packet.ensures;
      keeps = more_kept c.args.writer.now c.args.table.now p _ _ _ at.known at.number at.room c.put_new_interface.result _ _ at.written
          (not_zero _ c.if-writer-eq0.false) (is_not_less _ _ c.if-place.false) c.put_new_interface.ensures.added c.put_new_interface.ensures.kept;
    }

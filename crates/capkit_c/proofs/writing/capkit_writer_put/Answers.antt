-- If the packet is refused before it is put, nothing is written.
use Rattle.capkit_c.proofs.Common.{refl, false, Captured}
use Rattle.capkit_c.specs.{Writer.packet_put, declared.memory.writing.Written.Written}
use Rattle.capkit_c.proofs.writing.capkit_writer_put.Goals as goal

pub returns-in-Some : goal.returns-in-Some
returns-in-Some c =
    let p : Captured = packet_put c.args.packet.now c.args.name.now c.args.bytes.now c.args.comment.now in
    record {
      put = record { written = Written.Refused c.in-Some.fault; is_packet = false };
      puts = record {
        leaves = (c.in-Some.ensures.some _ p refl refl refl, refl);
        is_packet = λ x. absurd x;
        keeps = (refl, refl);
      };
      exact = c.tell_written.ensures.number;
      counted = c.tell_written.ensures.length;
    }

-- The parts so far are written.
use Rattle.std.proofs.Common.{◌≡◌, ◌++◌, take, IsTrue}
use Rattle.std.specs.List.{flat_map}
use Rattle.cap_octet.proofs.device.write_parts.Given as goal

abbrev pub invariant-loop-part : goal.invariant-loop-part
invariant-loop-part g l =
    let output = g.O.Output in
    record {
      exact : IsTrue output.tells → output.written l.output ≡ output.written l.fn.output ++ flat_map (λ part. part.now) (take l.part-index l.parts);
      failed : output.failures l.output ≡ output.failures l.fn.output;
      room : output.room l.output ≡ output.room l.fn.output;
    }

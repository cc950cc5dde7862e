-- The parts so far are at the start of the buffer, and what is after them is unchanged.
use Rattle.std.proofs.Common.{◌≡◌, ◌++◌, length, take, drop}
use Rattle.std.specs.List.{flat_map}
use Rattle.capkit_c.proofs.memory.writing.put_parts.Given as goal

abbrev pub invariant-loop-part : goal.invariant-loop-part
invariant-loop-part l = record {
  counted : l.at ≡ length (flat_map (λ part. part.now) (take l.part-index l.parts));
  put : l.buffer ≡ flat_map (λ part. part.now) (take l.part-index l.parts) ++ drop l.at l.fn.buffer;
}

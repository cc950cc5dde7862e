-- The skipped bytes are the first ones of the reader's buffer.
use Rattle.std.proofs.Common.{◌==◌, ◌≤◌, ℕ, length, arith, ap}
use Rattle.std.specs.Io.Buffered.{reader_buffer, reader_capacity, reader_inner}
use Rattle.cap_octet.proofs.Reading.{held-consumed}
use Rattle.cap_octet.proofs.stream.StdInputInput.pass.Goals as goal

pub returns-clause-bytes : goal.returns-clause-bytes
returns-clause-bytes g c =
    let held = ap (length {A = ℕ}) c.buffer.ensures in
    let within : c.args.count ≤ length (reader_buffer c.args.self.now.reader.reader) = omega (arith, c.if-count-buffer.false, held) in (
      within,
      held-consumed (reader_capacity c.args.self.now.reader.reader == 0) (reader_buffer c.args.self.now.reader.reader)
          (g.R.Read.remaining (reader_inner c.args.self.now.reader.reader)) _ c.args.count within c.consume.ensures.bytes,
    )

-- A read that the reader's buffer can satisfy takes its first bytes.
use Rattle.std.proofs.Common.{rules, ◌==◌, ◌≡◌, ◌∙◌, Ok, length, take, arith, ap, sym, inr, ℕ}
use Rattle.std.specs.Io.Buffered.{reader_buffer, reader_capacity, reader_inner}
use Rattle.{std.proofs.lemmas.List.take-take, cap_octet.proofs.Reading.held-consumed}
use Rattle.cap_octet.proofs.stream.StdInputInput.read.Goals as goal

pub returns-then-given-lt-GIVEN_END-clause-passes : goal.returns-then-given-lt-GIVEN_END-clause-passes
returns-then-given-lt-GIVEN_END-clause-passes g c =
    let came : c.copy_from_slice.new.self ≡ take (length c.args.buf.now) (reader_buffer c.args.self.now.reader.reader) =
    c.copy_from_slice.ensures.after ∙ ap (take (length c.args.buf.now)) c.buffer-held.ensures in
    let size : length c.copy_from_slice.new.self ≡ length c.args.buf.now = c.copy_from_slice.ensures.len in
    record {
      once = inr (c.consume.ensures.calls, sym size, ap (λ n. take n (reader_buffer c.args.self.now.reader.reader)) size ∙ sym came);
      answer = Ok (length c.args.buf.now);
      bound = search rules;
      bytes = (
        rw (came, take-take (length c.args.buf.now) (length c.args.buf.now) (reader_buffer c.args.self.now.reader.reader) (omega arith))
            (held-consumed (reader_capacity c.args.self.now.reader.reader == 0) (reader_buffer c.args.self.now.reader.reader)
            (g.R.Read.remaining (reader_inner c.args.self.now.reader.reader)) _ (length c.args.buf.now)
            (omega (arith, c.if-room-held.true, ap (length {A = ℕ}) c.buffer-held.ensures)) c.consume.ensures.bytes),
        λ none some. absurd (omega (arith, none, some, c.copy_from_slice.ensures.len)),
      );
      hands = search rules;
    }

-- The rows so far are written.
use Rattle.std.proofs.Common.{◌≡◌, ◌++◌, IsTrue}
use Rattle.cap_print.specs.Dump.{first_rows}
use Rattle.cap_print.proofs.print.write_rows.Given as goal

abbrev pub invariant-loop-index : goal.invariant-loop-index
invariant-loop-index g l =
    let output = g.O.Output in
    record {
      exact : IsTrue output.tells → output.written l.output ≡ output.written l.fn.output ++ first_rows l.bytes l.index;
      failed : output.failures l.output ≡ output.failures l.fn.output;
      room : output.room l.output ≡ output.room l.fn.output;
    }

-- If a row fails, the rows before it and a prefix of it are written.
use Rattle.std.proofs.Common.{◌∙◌}
use Rattle.cap_octet.proofs.Writing.{stops-part}
use Rattle.cap_print.proofs.Printing.{rows-among}
use Rattle.cap_print.proofs.print.write_rows.Goals as goal

pub returns-in_default-clause-exact : goal.returns-in_default-clause-exact
returns-in_default-clause-exact g c = λ tells.
    let row_is = c.as_slice.ensures ∙ c.write_row.ensures in
    rw (rows-among c.args.bytes.now c.loop-index.index _ (rw c.row_count-count.ensures at c.loop-index-test.true))
    (stops-part _ _ _ _ _ _ c.in_default.field-0 (c.loop-index.invariant.exact tells) (rw row_is at c.in_default.ensures.front)
    (rw row_is at (c.in_default.ensures.exact tells)))

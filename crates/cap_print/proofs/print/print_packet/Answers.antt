-- The line and, if they are asked for, the rows are written, or a prefix of them if the device
-- fails.
use Rattle.std.proofs.Common.{◌∙◌}
use Rattle.cap_print.proofs.Printing.{appends-following, printed-alone, printed-with_rows, stops-in_line}
use Rattle.cap_print.proofs.print.print_packet.Goals as goal

pub returns-in_default-clause-exact : goal.returns-in_default-clause-exact
returns-in_default-clause-exact g c = λ tells.
    let line_is = c.as_slice.ensures ∙ c.write_line.ensures.value in
    stops-in_line c.args.options _ _ _ c.in_default.field-0 (rw line_is at c.in_default.ensures.front) (rw line_is at (c.in_default.ensures.exact tells))

pub returns-then-options-clause-exact : goal.returns-then-options-clause-exact
returns-then-options-clause-exact g c = λ tells.
    let line_is = c.as_slice.ensures ∙ c.write_line.ensures.value in
    rw (printed-with_rows c.args.options _ c.if-options.true, ← c.link_payload.ensures)
    (appends-following _ _ _ _ _ _ (rw line_is at (c.in-Ok.ensures.exact tells)) (c.write_rows.ensures.exact tells))

pub returns-clause-exact : goal.returns-clause-exact
returns-clause-exact g c = λ tells.
    let line_is = c.as_slice.ensures ∙ c.write_line.ensures.value in
    rw (printed-alone c.args.options _ c.if-options.false)
    (rw line_is at (c.in-Ok.ensures.exact tells))

-- The message on a refused program has the rule, and the instruction's number if it has one.
use Rattle.std.proofs.Common.{sym, ◌∙◌}
use Rattle.cap_process.proofs.Lines.{check-indexed, check-whole}
use Rattle.cap_process.proofs.message.report_check.Goals as goal

pub returns-then-has_index-clause-exact : goal.returns-then-has_index-clause-exact
returns-then-has_index-clause-exact g c = λ ti.
    rw (← check-indexed c.args.fault c.args.at c.as_bytes-text.result.now c.as_bytes-index.result.now (c.as_bytes-text.ensures.value ∙ c.text.ensures)
    (c.as_bytes-index.ensures.value ∙ c.format.ensures.text) (sym c.has_index.ensures ∙ c.if-has_index.true))
    (c.write_refusal.ensures.exact ti)

pub returns-else-has_index-clause-exact : goal.returns-else-has_index-clause-exact
returns-else-has_index-clause-exact g c = λ ti.
    rw (← check-whole c.args.fault c.args.at c.as_bytes-text.result.now (c.as_bytes-text.ensures.value ∙ c.text.ensures)
    (sym c.has_index.ensures ∙ c.if-has_index.false))
    (c.write_refusal-else-has_index.ensures.exact ti)

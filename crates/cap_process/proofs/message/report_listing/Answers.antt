-- The message on a refused listing has the reason, and the line's number if it has one.
use Rattle.std.proofs.Common.{sym, ◌∙◌}
use Rattle.cap_process.proofs.Lines.{listing-lined, listing-whole}
use Rattle.cap_process.proofs.message.report_listing.Goals as goal

pub returns-in-None-clause-exact : goal.returns-in-None-clause-exact
returns-in-None-clause-exact g c = λ ti.
    rw (← listing-whole c.args.fault c.as_bytes-text.result.now (c.as_bytes-text.ensures.value ∙ c.text.ensures) (sym c.in-None.ensures))
    (c.write_refusal.ensures.exact ti)

pub returns-in-Some-clause-exact : goal.returns-in-Some-clause-exact
returns-in-Some-clause-exact g c = λ ti.
    rw (← listing-lined c.args.fault c.in-Some.line c.as_bytes-text.result.now c.as_bytes-line.result.now
    (c.as_bytes-text.ensures.value ∙ c.text.ensures) (c.as_bytes-line.ensures.value ∙ c.format.ensures.text) (sym c.in-Some.ensures))
    (c.write_refusal-in-Some.ensures.exact ti)

-- A tree is accepted if its qualifiers can be completed and the checks find no fault; otherwise one
-- of the two refuses it.
use Rattle.std.proofs.Common.{inl}
use Rattle.cap_filter.proofs.Expressions.{settled-ok, settled-refused}
use Rattle.cap_filter.proofs.expression.resolve_and_check.Goals as goal

pub returns-in-Ok-clause-settled : goal.returns-in-Ok-clause-settled
returns-in-Ok-clause-settled g c =
    settled-ok (λ checked. checked.expr) c.args.tree c.in-Ok.tree c.check.result c.in-Ok.ensures.ok c.in-Ok.ensures.fits c.check.ensures.ok c.check.ensures.fits

pub returns-in-Ok-clause-refused : goal.returns-in-Ok-clause-refused
returns-in-Ok-clause-refused g c =
    settled-refused c.args.tree c.in-Ok.tree c.check.result c.in-Ok.ensures.ok c.in-Ok.ensures.fits c.check.ensures.err

pub returns-in-Err-clause-refused : goal.returns-in-Err-clause-refused
returns-in-Err-clause-refused g c = inl c.in-Err.ensures.err

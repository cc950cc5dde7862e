-- A text is an expression if it has a tree in which the checks find no fault; otherwise it is
-- refused, by the parser or by the checks.
use Rattle.cap_filter.proofs.Expressions.{expression-ok, expression-refused}
use Rattle.cap_filter.proofs.expression.read_expression.Goals as goal

pub returns-in-Ok-clause-expression : goal.returns-in-Ok-clause-expression
returns-in-Ok-clause-expression g c = expression-ok (λ checked. checked.expr) c.args.text.now c.in-Ok.tree c.resolve_and_check.result
    c.in-Ok.ensures.read c.resolve_and_check.ensures.settled

pub returns-in-Ok-clause-refused : goal.returns-in-Ok-clause-refused
returns-in-Ok-clause-refused g c = expression-refused c.args.text.now c.in-Ok.tree c.resolve_and_check.result c.in-Ok.ensures.read
    c.resolve_and_check.ensures.refused

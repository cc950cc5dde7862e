-- The bound that is returned is that of every program for the text.
use Rattle.capkit_c.proofs.OneBound.{is_bound}
use Rattle.capkit_c.proofs.bounding.bound_of_text.Goals as goal

pub returns-clause-bounded : goal.returns-clause-bounded
returns-clause-bounded g c =
    is_bound c.args.text.now c.in_ok-checked.checked.expr c.bound.result c.in_ok-checked.ensures.expression c.bound.ensures

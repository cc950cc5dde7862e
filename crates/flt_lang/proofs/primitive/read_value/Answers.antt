-- The first token and those after it make up the value.
use Rattle.flt_lang.proofs.Stepping.{found_value, no_value}
use Rattle.flt_lang.proofs.primitive.read_value.Goals as goal

pub returns-clause-some : goal.returns-clause-some
returns-clause-some c = found_value c.args.tokens.now _ _ _ c.in-len1-up.len_at_least c.in_ok-value.ensures.some

pub returns-in_err-value-clause-none : goal.returns-in_err-value-clause-none
returns-in_err-value-clause-none c = rw c.from_residual.ensures (no_value c.args.tokens.now _ c.in-len1-up.len_at_least c.in_err-value.ensures.none)

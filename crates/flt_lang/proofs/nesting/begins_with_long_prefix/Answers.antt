-- There are enough tokens, and the first of them are prefix operators.
use Rattle.std.proofs.Common.{arith, sym, ◌∙◌}
use Rattle.flt_lang.proofs.nesting.begins_with_long_prefix.Goals as goal

pub returns-then-tokens-gt100 : goal.returns-then-tokens-gt100
returns-then-tokens-gt100 c = (λ e. (omega arith, sym c.are_prefix_operators.ensures ∙ e), λ b. c.are_prefix_operators.ensures ∙ b.1)

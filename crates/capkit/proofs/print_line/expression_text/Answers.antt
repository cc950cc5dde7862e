-- The expression is the words joined by blanks.
use Rattle.capkit.proofs.Common.{◌∙◌, ap, codes, List, ℕ, IfOk-weaker, join_by}
use Rattle.capkit.proofs.PrintReady.{joined}
use Rattle.capkit.proofs.print_line.expression_text.Goals as goal

pub returns : goal.returns
returns c =
    IfOk-weaker c.join.result _ _ (λ text is. is ∙ joined (λ word. word.now) (codes " ") c.texts.result.now
    ∙ ap (join_by (λ (text : List ℕ). text) (codes " ")) c.texts.ensures) c.join.ensures.ok

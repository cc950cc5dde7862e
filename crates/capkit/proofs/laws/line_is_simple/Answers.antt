-- Evaluating the rules of the line shows both, whatever the names of formats and links.
use Rattle.capkit.proofs.Common.{refl}
use Rattle.capkit.proofs.laws.line_is_simple.Goals as goal

pub returns-clause-simple : goal.returns-clause-simple
returns-clause-simple c = λ formats links. refl

pub returns-clause-free : goal.returns-clause-free
returns-clause-free c = λ formats links. refl

-- The new fact is true, and the others are.
use Rattle.flt_short.{proofs.Common.All-set, specs.inside.Facts.Says}
use Rattle.flt_short.proofs.facts.add_fact.Goals as goal

pub returns : goal.returns
returns c = λ p n s h said. record { a = h.a; x = h.x; facts = All-set (Says p n) _ _ _ said h.facts }

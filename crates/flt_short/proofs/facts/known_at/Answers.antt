-- Past the end nothing is known.
use Rattle.flt_short.proofs.facts.known_at.Goals as goal

pub returns-in-None : goal.returns-in-None
returns-in-None c = λ p n s h. c.nothing_known.ensures p n s

-- By the word in which the mask ends.
use Rattle.flt_gen.proofs.Masks.{joined}
use Rattle.flt_gen.proofs.laws.masks_join.Goals as goal

pub returns : goal.returns
returns c = λ prefix address at. joined prefix address at

-- What is left is put back.
use Rattle.flt_gen.proofs.Common.{◌≡◌, length, put_back}
use Rattle.flt_gen.proofs.folding.put_back.Given as goal

abbrev pub invariant-held : goal.invariant-held
invariant-held g l = record { same : put_back l.held l.nodes ≡ put_back l.fn.held l.fn.nodes }

abbrev pub decreases-held : goal.decreases-held
decreases-held g l = length l.held

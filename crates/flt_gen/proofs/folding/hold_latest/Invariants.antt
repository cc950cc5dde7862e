-- What is left to hold is of the same.
use Rattle.flt_gen.proofs.Common.{◌≡◌, [], length, hold}
use Rattle.flt_gen.proofs.folding.hold_latest.Given as goal

abbrev pub invariant-nodes : goal.invariant-nodes
invariant-nodes g l = record { same : hold l.need l.held l.nodes ≡ hold 1 [] l.fn.nodes }

abbrev pub decreases-nodes : goal.decreases-nodes
decreases-nodes g l = length l.nodes

-- The nodes so far are folded.
use Rattle.flt_gen.proofs.Common.{◌≡◌, [], take, fold, with_folded}
use Rattle.flt_gen.proofs.folding.folded_nodes.Given as goal

abbrev pub invariant-loop-node : goal.invariant-loop-node
invariant-loop-node g l = l.folded ≡ fold with_folded [] (take l.node-index l.nodes)

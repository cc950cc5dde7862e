-- The sum so far, and that it fits.
use Rattle.std.proofs.Common.{◌≡◌, ◌*◌, ◌≤◌, sum_by, take}
use Rattle.flt_ast.specs.Counts.{node_size}
use Rattle.flt_lang.proofs.counts.sum_of_arithmetic_nodes.Given as goal

abbrev pub invariant-loop-node : goal.invariant-loop-node
invariant-loop-node l = record {
  so_far : l.sum ≡ sum_by node_size (take l.node-index l.nodes);
  upper_bound : l.sum ≤ 2 * l.node-index;
}

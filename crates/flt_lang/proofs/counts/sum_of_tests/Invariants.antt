-- The sum so far, and that it fits.
use Rattle.std.proofs.Common.{◌≡◌, ◌*◌, ◌≤◌, sum_by, take}
use Rattle.flt_ast.specs.Counts.{node_tests}
use Rattle.flt_lang.proofs.counts.sum_of_tests.Given as goal

abbrev pub invariant-loop-node : goal.invariant-loop-node
invariant-loop-node l = record {
  so_far : l.sum ≡ sum_by node_tests (take l.node-index l.nodes);
  upper_bound : l.sum ≤ 27 * l.node-index;
}

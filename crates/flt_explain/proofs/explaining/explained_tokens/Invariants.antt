-- The nodes from a place on are written.
use Rattle.std.proofs.Common.{◌≡◌, ◌≤◌, length, drop}
use Rattle.flt_explain.specs.inside.Backward.{write_nodes}
use Rattle.flt_explain.proofs.explaining.explained_tokens.Given as goal

abbrev pub invariant-loop-at : goal.invariant-loop-at
invariant-loop-at g l = record {
  in_range : l.at ≤ length l.nodes;
  writer : l.writer ≡ write_nodes (drop l.at l.nodes);
}

abbrev pub decreases-loop-at : goal.decreases-loop-at
decreases-loop-at g l = l.at

-- The nodes so far have complete qualifiers.
use Rattle.std.proofs.Common.{◌≡◌, ◌++◌, length, take, drop, map}
use Rattle.flt_ast.specs.Filled.{completed_node}
use Rattle.flt_lang.proofs.resolving.complete_qualifiers.Given as goal

abbrev pub invariant-loop-node : goal.invariant-loop-node
invariant-loop-node g l = record {
  so_far : take l.node-index l.node-items ++ map completed_node (drop l.node-index l.node-items) ≡ map completed_node l.initial.node-items;
  same_length : length l.node-items ≡ length l.initial.node-items;
}

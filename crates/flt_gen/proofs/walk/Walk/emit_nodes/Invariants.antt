-- What is left to do leads to the same walk.
use Rattle.flt_gen.proofs.Common.{◌≡◌, ◌≤◌, length, take, reverse, emit_nodes}
use Rattle.flt_gen.proofs.walk.Walk.emit_nodes.Given as goal

abbrev pub invariant-nodes : goal.invariant-nodes
invariant-nodes g l = record {
  within : l.left ≤ length l.nodes;
  same : emit_nodes l.link l.self (reverse (take l.left l.nodes)) ≡ emit_nodes l.link l.initial.self (reverse l.nodes);
}

abbrev pub decreases-nodes : goal.decreases-nodes
decreases-nodes g l = l.left

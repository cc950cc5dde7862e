-- The nodes so far have their qualifiers, and the others inherit from the latest.
use Rattle.std.proofs.Common.{◌≡◌, ◌++◌, length, take, drop}
use Rattle.flt_ast.specs.{Filled.only_host, inside.Filled.inherited_nodes}
use Rattle.flt_lang.proofs.resolving.inherit_qualifiers.Given as goal

abbrev pub invariant-loop-i : goal.invariant-loop-i
invariant-loop-i g l = record {
  so_far : take l.i l.nodes.items ++ inherited_nodes l.nearest (drop l.i l.nodes.items) ≡ inherited_nodes only_host l.initial.nodes.items;
  same_length : length l.nodes.items ≡ length l.initial.nodes.items;
}

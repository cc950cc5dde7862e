-- No node so far has qualifiers that don't fit, and its other faults are noted.
use Rattle.std.proofs.Common.{◌≡◌, false, take}
use Rattle.std.specs.List.{list_any}
use Rattle.flt_ast.specs.Resolved.{is_misfit_node, is_out_of_range_node, has_bits_past_mask_node}
use Rattle.flt_lang.proofs.resolving.nodes_fault.Given as goal

abbrev pub invariant-loop-node : goal.invariant-loop-node
invariant-loop-node l = record {
  all_fit : list_any is_misfit_node (take l.node-index l.nodes) ≡ false;
  range : l.is_out_of_range ≡ list_any is_out_of_range_node (take l.node-index l.nodes);
  mask : l.has_bits_past_mask ≡ list_any has_bits_past_mask_node (take l.node-index l.nodes);
}

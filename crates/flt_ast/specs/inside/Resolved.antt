-- The faults of a tree, over its nodes.
use Rattle.std.specs.{List.list_any, Prelude.List, Prelude.Option}
use Rattle.flt_words.specs.declared.fault.ExprFault.{ExprFault}
use Rattle.flt_ast.specs.Resolved.{first_fault, is_misfit_node, is_out_of_range_node, has_bits_past_mask_node}
use Rattle.flt_ast.specs.declared.node.Node.{Node}

-- the fault of nodes with the lowest number, or none
abbrev pub nodes_fault : List Node → Option ExprFault
nodes_fault ns =
    first_fault (list_any is_misfit_node ns) (list_any is_out_of_range_node ns)
    (list_any has_bits_past_mask_node ns)

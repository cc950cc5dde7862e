-- The completed nodes are those of the completed tree.
use Rattle.std.proofs.Common.{◌≡◌, ◌∙◌, sym, ap, subst, None}
use Rattle.flt_lang.proofs.Filling.{filled_resolved, filled_whole, found_fault, nodes_are_tree, tree_is}
use Rattle.flt_lang.proofs.{Common.fill_expression, resolving.resolve.Goals.After-complete_qualifiers}
use Rattle.flt_ast.specs.{Resolved.fill_fault, Resolved.IsResolved, Nodes.tree_of, inside.Resolved.nodes_fault}
use Rattle.flt_lang.proofs.resolving.resolve.Given as given
use Rattle.flt_lang.proofs.resolving.resolve.Goals as goal

pub returns-in-Some-clause-err : goal.returns-in-Some-clause-err
returns-in-Some-clause-err g c =
    sym (found_fault c.expr.inside.nodes.items c.inherit_qualifiers.new.nodes.items c.args.expr c.expr.invariant c.expr.view_is
    c.inherit_qualifiers.ensures) ∙ ap nodes_fault (sym c.deref.ensures.value) ∙ sym c.nodes_fault.ensures ∙ c.in-Some.is

tree_left : (g : given.Over) (c : After-complete_qualifiers g) → tree_of c.complete_qualifiers.new.nodes.items ≡ fill_expression c.args.expr
tree_left g c =
    let nodes = filled_whole c.expr.inside.nodes.items c.inherit_qualifiers.new.nodes.items c.complete_qualifiers.new.nodes.items c.expr.invariant
    c.inherit_qualifiers.ensures c.complete_qualifiers.ensures in
    tree_is _ _ nodes ∙ ap fill_expression c.expr.view_is

pub invariant_of-result : goal.invariant_of-result
invariant_of-result g c = nodes_are_tree (fill_expression (tree_of c.expr.inside.nodes.items)) c.complete_qualifiers.new.nodes.items
    (filled_whole c.expr.inside.nodes.items c.inherit_qualifiers.new.nodes.items c.complete_qualifiers.new.nodes.items c.expr.invariant
    c.inherit_qualifiers.ensures c.complete_qualifiers.ensures)

pub returns : goal.returns
returns g c =
    let tree = tree_left g c in
    let faultless : fill_fault c.args.expr ≡ None = sym (found_fault c.expr.inside.nodes.items c.inherit_qualifiers.new.nodes.items c.args.expr
    c.expr.invariant c.expr.view_is c.inherit_qualifiers.ensures) ∙ ap nodes_fault (sym c.deref.ensures.value) ∙ sym c.nodes_fault.ensures
    ∙ c.in_default.is in
    record {
      ok = tree;
      fits = faultless;
      resolved = subst IsResolved (sym tree) (filled_resolved c.args.expr faultless);
      err = tt;
    }

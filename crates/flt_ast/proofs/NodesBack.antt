-- The nodes as they are written, latest first, are the tree's nodes in reverse order.
use Rattle.std.proofs.Common.{◌≡◌, List, [], refl, sym, ap, ◌∙◌}
use mathlib.Core.List.{reverse_aux}
use Rattle.flt_ast.specs.Nodes.{number_nodes, truth_nodes, expr_nodes, tree_of}
use Rattle.flt_ast.specs.Tree.{NumberTree, load, negated, applied, TruthTree, compared, denied, joined, Expression, empty, truth}
use Rattle.flt_ast.specs.declared.node.Node.{Node}
use Rattle.flt_ast.specs.inside.Nodes.{tree_back, number_onto, truth_onto, expr_onto}

number_turned : (a : NumberTree) (d rest : List Node) → reverse_aux (number_onto a d) rest ≡ reverse_aux d (number_nodes a rest)
number_turned (load p s a) d rest = number_turned a d _
number_turned (negated a) d rest = number_turned a d _
number_turned (applied o a b) d rest = number_turned b _ _ ∙ number_turned a d _
number_turned _ d rest = refl

truth_turned : (a : TruthTree) (d rest : List Node) → reverse_aux (truth_onto a d) rest ≡ reverse_aux d (truth_nodes a rest)
truth_turned (compared c a b) d rest = number_turned b _ _ ∙ number_turned a d _
truth_turned (denied a) d rest = truth_turned a d _
truth_turned (joined j a b) d rest = truth_turned b _ _ ∙ truth_turned a d _
truth_turned _ d rest = refl

pub expr_turned : (e : Expression) → reverse_aux (expr_onto e) [] ≡ expr_nodes e
expr_turned empty = refl
expr_turned (truth a) = truth_turned a [] []

-- two trees with the same nodes are one
pub same_nodes : (a b : Expression) → expr_onto a ≡ expr_onto b → a ≡ b
same_nodes a b same =
    let nodes = sym (expr_turned a) ∙ ap (λ d. reverse_aux d []) same ∙ expr_turned b in
    sym (tree_back a) ∙ ap tree_of nodes ∙ tree_back b

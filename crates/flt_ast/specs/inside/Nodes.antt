-- A tree's nodes, latest first, and that they lead back to the tree.
use Rattle.std.specs.Prelude.{◌≡◌, List, [], ◌∷◌, fold, refl}
use Rattle.std.proofs.Common.{ap, ◌∙◌}
use Rattle.flt_ast.specs.Nodes.{number_nodes, truth_nodes, expr_nodes, Trees, with_number, with_truth, with_node, first_truth, tree_of}
use Rattle.flt_ast.specs.Tree.{NumberTree, literal, len, named, load, negated, applied, TruthTree, check, cast, sized, bare, valued, qualified, compared, denied, joined, Expression, empty, truth}
use Rattle.flt_ast.specs.declared.node.Node.{Node}

-- the nodes of a number, latest first, before earlier ones
abbrev pub number_onto : NumberTree → List Node → List Node
number_onto (literal n) d = Node.Literal n ∷ d
number_onto len d = Node.Len ∷ d
number_onto (named n) d = Node.Named n ∷ d
number_onto (load p s a) d = Node.Load p s ∷ number_onto a d
number_onto (negated a) d = Node.Negate ∷ number_onto a d
number_onto (applied o a b) d = Node.Apply o ∷ number_onto b (number_onto a d)

-- the nodes of a truth, latest first, before earlier ones
abbrev pub truth_onto : TruthTree → List Node → List Node
truth_onto (check p) d = Node.Check p ∷ d
truth_onto (cast p c) d = Node.Cast p c ∷ d
truth_onto (sized s n) d = Node.Sized s n ∷ d
truth_onto (bare v) d = Node.Bare v ∷ d
truth_onto (valued q v) d = Node.Valued q v ∷ d
truth_onto (qualified q v) d = Node.Qualified q v ∷ d
truth_onto (compared c a b) d = Node.Compare c ∷ number_onto b (number_onto a d)
truth_onto (denied a) d = Node.Not ∷ truth_onto a d
truth_onto (joined j a b) d = Node.Join j ∷ truth_onto b (truth_onto a d)

-- the nodes of an expression, latest first
abbrev pub expr_onto : Expression → List Node
expr_onto empty = []
expr_onto (truth a) = truth_onto a []

-- the nodes are those of a tree: each but the last is an operand of a later one
abbrev pub IsTree : List Node → Type 0
IsTree nodes = expr_nodes (tree_of nodes) ≡ nodes

number_back : (a : NumberTree) (t : Trees) (rest : List Node)
    → fold with_node t (number_nodes a rest) ≡ fold with_node (with_number a t) rest
number_back (load p s a) t rest = number_back a t _
number_back (negated a) t rest = number_back a t _
number_back (applied o a b) t rest = number_back a t _ ∙ number_back b _ _
number_back _ t rest = refl

truth_back : (a : TruthTree) (t : Trees) (rest : List Node)
    → fold with_node t (truth_nodes a rest) ≡ fold with_node (with_truth a t) rest
truth_back (compared c a b) t rest = number_back a t _ ∙ number_back b _ _
truth_back (denied a) t rest = truth_back a t _
truth_back (joined j a b) t rest = truth_back a t _ ∙ truth_back b _ _
truth_back _ t rest = refl

-- a tree is read back from its nodes
pub tree_back : (e : Expression) → tree_of (expr_nodes e) ≡ e
tree_back empty = refl
tree_back (truth a) =
    ap (λ t. first_truth t.truths) (truth_back a (record { truths = []; numbers = [] }) [])

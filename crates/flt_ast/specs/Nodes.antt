-- The nodes of a tree, operands first, and the tree that nodes make.
use Rattle.std.specs.Prelude.{List, [], ◌∷◌, fold}
use Rattle.flt_words.specs.declared.token.Comparison.{Comparison}
use Rattle.flt_ast.specs.Tree.{NumberTree, literal, len, named, load, negated, applied, TruthTree, check, cast, sized, bare, valued, qualified, compared, denied, joined, Expression, empty, truth}
use Rattle.flt_ast.specs.declared.node.Node.{Node}

-- the nodes of a number, followed by others
abbrev pub number_nodes : NumberTree → List Node → List Node
number_nodes (literal n) rest = Node.Literal n ∷ rest
number_nodes len rest = Node.Len ∷ rest
number_nodes (named n) rest = Node.Named n ∷ rest
number_nodes (load p s a) rest = number_nodes a (Node.Load p s ∷ rest)
number_nodes (negated a) rest = number_nodes a (Node.Negate ∷ rest)
number_nodes (applied o a b) rest = number_nodes a (number_nodes b (Node.Apply o ∷ rest))

-- the nodes of a truth, followed by others
abbrev pub truth_nodes : TruthTree → List Node → List Node
truth_nodes (check p) rest = Node.Check p ∷ rest
truth_nodes (cast p c) rest = Node.Cast p c ∷ rest
truth_nodes (sized s n) rest = Node.Sized s n ∷ rest
truth_nodes (bare v) rest = Node.Bare v ∷ rest
truth_nodes (valued q v) rest = Node.Valued q v ∷ rest
truth_nodes (qualified q v) rest = Node.Qualified q v ∷ rest
truth_nodes (compared c a b) rest = number_nodes a (number_nodes b (Node.Compare c ∷ rest))
truth_nodes (denied a) rest = truth_nodes a (Node.Not ∷ rest)
truth_nodes (joined j a b) rest = truth_nodes a (truth_nodes b (Node.Join j ∷ rest))

-- the nodes of an expression, operands first
abbrev pub expr_nodes : Expression → List Node
expr_nodes empty = []
expr_nodes (truth a) = truth_nodes a []

-- the trees that aren't yet part of another one, latest first
pub record Trees : Type 0 where
  pub truths : List TruthTree
  pub numbers : List NumberTree

-- the latest tree is replaced by what is made of it
abbrev pub with_latest : {T : Type 0} → (T → T) → List T → List T
with_latest f [] = []
with_latest f (a ∷ rest) = f a ∷ rest

-- the latest two trees are replaced by what is made of them
abbrev pub with_two : {T : Type 0} → (T → T → T) → List T → List T
with_two f (b ∷ a ∷ rest) = f a b ∷ rest
with_two f rest = rest

-- the latest two numbers are replaced by their comparison, a truth
abbrev pub with_compared : Comparison → List TruthTree → List NumberTree → Trees
with_compared c truths (b ∷ a ∷ rest) = record { truths = compared c a b ∷ truths; numbers = rest }
with_compared c truths rest = record { truths = truths; numbers = rest }

-- one more number
abbrev pub with_number : NumberTree → Trees → Trees
with_number a t = record { truths = t.truths; numbers = a ∷ t.numbers }

-- one more truth
abbrev pub with_truth : TruthTree → Trees → Trees
with_truth a t = record { truths = a ∷ t.truths; numbers = t.numbers }

-- the trees after one more node, which takes its operands
abbrev pub with_node : Trees → Node → Trees
with_node t (Node.Check p) = with_truth (check p) t
with_node t (Node.Cast p c) = with_truth (cast p c) t
with_node t (Node.Sized s n) = with_truth (sized s n) t
with_node t (Node.Bare v) = with_truth (bare v) t
with_node t (Node.Valued q v) = with_truth (valued q v) t
with_node t (Node.Qualified q v) = with_truth (qualified q v) t
with_node t (Node.Compare c) = with_compared c t.truths t.numbers
with_node t Node.Not = record { truths = with_latest denied t.truths; numbers = t.numbers }
with_node t (Node.Join j) = record { truths = with_two (joined j) t.truths; numbers = t.numbers }
with_node t (Node.Literal n) = with_number (literal n) t
with_node t Node.Len = with_number len t
with_node t (Node.Named n) = with_number (named n) t
with_node t (Node.Load p s) =
    record { truths = t.truths; numbers = with_latest (load p s) t.numbers }
with_node t Node.Negate = record { truths = t.truths; numbers = with_latest negated t.numbers }
with_node t (Node.Apply o) = record { truths = t.truths; numbers = with_two (applied o) t.numbers }

-- the latest truth is the whole expression; without one it is the empty one
abbrev pub first_truth : List TruthTree → Expression
first_truth [] = empty
first_truth (t ∷ ts) = truth t

-- the tree whose nodes these are
abbrev pub tree_of : List Node → Expression
tree_of nodes = first_truth (fold with_node (record { truths = []; numbers = [] }) nodes).truths

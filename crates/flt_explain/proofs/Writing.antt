-- Writing the nodes from the last to the first gives the tokens of their tree.
use Rattle.std.proofs.Common.{◌≡◌, ℕ, ◌-◌, ◌<◌, ◌≤◌, refl, ap, Bool, true, false, List, [], ◌∷◌, Some, None, length, drop, get_or, nat_lt}
use Rattle.flt_explain.proofs.Common.{arith, nat_tests, TokenKind, Pending}
use Rattle.std.proofs.lemmas.List.{drop_more, length-drop}
use Rattle.flt_ast.specs.Tree.{NumberTree, load, negated, applied, TruthTree, check, cast, compared, denied, joined, Expression, empty, truth}
use Rattle.flt_explain.specs.Explained.{number_tokens, truth_tokens, explained_tokens, open_operand}
use Rattle.flt_explain.specs.inside.Backward.{WriterState, write_pending, parenthesis_before, is_more, write_nodes, write_node}
use Rattle.flt_ast.specs.{declared.node.Node.Node, Nodes.number_nodes, Nodes.truth_nodes, Nodes.expr_nodes}
use Rattle.flt_ast.specs.declared.node.Node.TheVariants as node

pub number_written : (a : NumberTree) (rest : List Node) → write_nodes (number_nodes a rest) ≡ write_pending (write_nodes rest).pending
    (number_tokens a (write_nodes rest).tokens)
number_written (load p s a) rest = number_written a (node.Load p s ∷ rest)
number_written (negated a) rest = number_written a (node.Negate ∷ rest)
number_written (applied o a b) rest = grind (arith, number_written a (number_nodes b (node.Apply o ∷ rest)), number_written b (node.Apply o ∷ rest))
number_written _ rest = refl

-- what waits around an operand
settles : (operand : Bool) (ps : List Pending) (ts : List TokenKind) → write_pending (parenthesis_before operand ps) ts ≡ write_pending ps
    (open_operand operand ts)
settles operand ps ts = grind arith

number_more : (a : NumberTree) (rest : List Node) → is_more rest ≡ true → is_more (number_nodes a rest) ≡ true
number_more (load p s a) rest h = number_more a _ refl
number_more (negated a) rest h = number_more a _ refl
number_more (applied o a b) rest h = number_more a _ (number_more b _ refl)
number_more _ rest h = refl

truth_more : (a : TruthTree) (rest : List Node) → is_more (truth_nodes a rest) ≡ true
truth_more (compared c a b) rest = grind (arith, number_more)
truth_more (denied a) rest = truth_more a _
truth_more (joined j a b) rest = truth_more a _
truth_more _ rest = refl

pub truth_written : (a : TruthTree) (rest : List Node) (operand : Bool) → is_more rest ≡ operand → write_nodes (truth_nodes a rest) ≡ write_pending
    (write_nodes rest).pending (truth_tokens operand a (write_nodes rest).tokens)
truth_written (check p) rest operand e = refl
truth_written (cast None c) rest operand e = refl
truth_written (cast (Some p) c) rest operand e = rw e
truth_written (compared c a b) rest operand e = grind (arith, number_written, settles)
truth_written (denied a) rest operand e = grind (arith, settles, truth_written a (node.Not ∷ rest) true refl)
truth_written (joined j a b) rest operand e =
    grind (
      arith,
      truth_more,
      settles,
      truth_written a (truth_nodes b (node.Join j ∷ rest)) true (truth_more b (node.Join j ∷ rest)),
      truth_written b (node.Join j ∷ rest) true refl,
    )
truth_written _ rest operand e = rw e

pub expression_written : (e : Expression) → (write_nodes (expr_nodes e)).tokens ≡ explained_tokens e
expression_written empty = refl
expression_written (truth a) = ap (λ s. s.tokens) (truth_written a [] false refl)

-- nothing waits: the tokens are written
pub settled_end : (s new whole : WriterState) → s.pending ≡ [] → new.pending ≡ [] → new.tokens ≡ s.tokens → write_pending s.pending s.tokens ≡ whole
    → new ≡ whole
settled_end s new whole none left same settles = grind (arith, settles)

more_is : (nodes : List Node) → is_more nodes ≡ nat_lt 0 (length nodes)
more_is nodes = grind (arith, nat_tests)

above : (at n : ℕ) → nat_lt 0 (n - at) ≡ nat_lt at n
above at n = grind (arith, nat_tests)

more_at : (nodes : List Node) (at : ℕ) → is_more (drop at nodes) ≡ nat_lt at (length nodes)
more_at nodes at = grind (arith, more_is, length-drop, above)

-- a node before those that are written
pub writes_on : (nodes : List Node) (at : ℕ) (d : Node) (s new : WriterState) → 0 < at → at ≤ length nodes → s ≡ write_nodes (drop at nodes)
    → new ≡ write_node (nat_lt at (length nodes)) (get_or nodes (at - 1) d) s → new ≡ write_nodes (drop (at - 1) nodes)
writes_on nodes at d s new some within so_far node = grind (arith, drop_more, more_at)

pub all_written : (e : Expression) (nodes : List Node) (s : WriterState) (tokens : List TokenKind) (at : ℕ) → at ≤ 0 → nodes ≡ expr_nodes e
    → s ≡ write_nodes (drop at nodes) → tokens ≡ s.tokens → tokens ≡ explained_tokens e
all_written e nodes s tokens at none are so_far written_are = grind (arith, expression_written)

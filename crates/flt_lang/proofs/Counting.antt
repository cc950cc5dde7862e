-- A count over the nodes is a count over the tree, and a division by 0 comes right after the 0.
use Rattle.std.proofs.Common.{◌≡◌, ℕ, ◌+◌, ◌≤◌, List, [], ◌∷◌, refl, ap, ◌∙◌, arith, sum_by, fold, max, Bool, false, ◌||◌}
use Rattle.flt_lang.proofs.Common.{Node, words_of, climb, some_zero_divisor, or_assoc, or-false, sum_by-cons}
use Rattle.flt_ast.specs.Tree.{NumberTree, load, negated, applied, TruthTree, compared, denied, joined, Expression, empty, truth}
use Rattle.flt_ast.specs.Nodes.{number_nodes, truth_nodes, expr_nodes, tree_of}
use Rattle.flt_ast.specs.Counts.{number_tests, truth_tests, tests_of, number_size, truth_size, nodes_of, number_words, truth_words, node_tests, node_size}
use Rattle.flt_ast.specs.{Checks.is_zero, Checks.has_zero_divisor, Checks.divides_by_zero, inside.Nodes.IsTree, Resolved.any_primitive, Resolved.some_primitive}
use Rattle.flt_ast.specs.declared.node.Node.TheVariants as node

sum_number_tests : (a : NumberTree) (rest : List Node) → sum_by node_tests (number_nodes a rest) ≡ number_tests a + sum_by node_tests rest
sum_number_tests (load p s a) rest = search (arith, sum_by-cons, (sum_number_tests a (node.Load p s ∷ rest)))
sum_number_tests (negated a) rest = search (arith, sum_by-cons, (sum_number_tests a (node.Negate ∷ rest)))
sum_number_tests (applied o a b) rest = omega (
  arith,
  sum_number_tests a (number_nodes b (node.Apply o ∷ rest)),
  sum_number_tests b (node.Apply o ∷ rest),
  sum_by-cons node_tests (node.Apply o) rest,
)
sum_number_tests _ rest = rw sum_by-cons (omega arith)

sum_truth_tests : (a : TruthTree) (rest : List Node) → sum_by node_tests (truth_nodes a rest) ≡ truth_tests a + sum_by node_tests rest
sum_truth_tests (compared c a b) rest = search (arith, sum_number_tests, sum_by-cons)
sum_truth_tests (denied a) rest = omega (arith, sum_truth_tests a (node.Not ∷ rest), sum_by-cons node_tests node.Not rest)
sum_truth_tests (joined j a b) rest = omega (
  arith,
  sum_truth_tests a (truth_nodes b (node.Join j ∷ rest)),
  sum_truth_tests b (node.Join j ∷ rest),
  sum_by-cons node_tests (node.Join j) rest,
)
sum_truth_tests _ rest = rw sum_by-cons (omega arith)

sum_expr_tests : (e : Expression) → sum_by node_tests (expr_nodes e) ≡ tests_of e
sum_expr_tests empty = refl
sum_expr_tests (truth a) = omega (arith, sum_truth_tests a [])

pub tests_whole : (items : List Node) → IsTree items → sum_by node_tests items ≡ tests_of (tree_of items)
tests_whole items whole = search (arith, sum_expr_tests)

sum_number_sizes : (a : NumberTree) (rest : List Node) → sum_by node_size (number_nodes a rest) ≡ number_size a + sum_by node_size rest
sum_number_sizes (load p s a) rest = search (arith, sum_by-cons, (sum_number_sizes a (node.Load p s ∷ rest)))
sum_number_sizes (negated a) rest = search (arith, sum_by-cons, (sum_number_sizes a (node.Negate ∷ rest)))
sum_number_sizes (applied o a b) rest = omega (
  arith,
  sum_number_sizes a (number_nodes b (node.Apply o ∷ rest)),
  sum_number_sizes b (node.Apply o ∷ rest),
  sum_by-cons node_size (node.Apply o) rest,
)
sum_number_sizes _ rest = rw sum_by-cons (omega arith)

sum_truth_sizes : (a : TruthTree) (rest : List Node) → sum_by node_size (truth_nodes a rest) ≡ truth_size a + sum_by node_size rest
sum_truth_sizes (compared c a b) rest = search (arith, sum_number_sizes, sum_by-cons)
sum_truth_sizes (denied a) rest = omega (arith, sum_truth_sizes a (node.Not ∷ rest), sum_by-cons node_size node.Not rest)
sum_truth_sizes (joined j a b) rest = omega (
  arith,
  sum_truth_sizes a (truth_nodes b (node.Join j ∷ rest)),
  sum_truth_sizes b (node.Join j ∷ rest),
  sum_by-cons node_size (node.Join j) rest,
)
sum_truth_sizes _ rest = rw sum_by-cons (omega arith)

sum_expr_sizes : (e : Expression) → sum_by node_size (expr_nodes e) ≡ nodes_of e
sum_expr_sizes empty = refl
sum_expr_sizes (truth a) = omega (arith, sum_truth_sizes a [])

pub arithmetic_nodes_whole : (items : List Node) → IsTree items → sum_by node_size items ≡ nodes_of (tree_of items)
arithmetic_nodes_whole items whole = search (arith, sum_expr_sizes)

moved_to : (h m i n : ℕ) (rest : List Node) → h ≡ i → m ≡ n → fold climb (h, m) rest ≡ fold climb (i, n) rest
moved_to h m i n rest e f = cc

-- a number on top of h others reaches the height h + 1 plus its words, and then h + 1
climb_number : (a : NumberTree) (h m : ℕ) (rest : List Node) → fold climb (h, m) (number_nodes a rest) ≡ fold climb (h + 1, max m (h + 1 + number_words a)) rest
climb_number (load p s a) h m rest = search (arith, moved_to, (climb_number a h m (node.Load p s ∷ rest)))
climb_number (negated a) h m rest = search (arith, moved_to, (climb_number a h m (node.Negate ∷ rest)))
climb_number (applied o a b) h m rest =
    climb_number a h m (number_nodes b (node.Apply o ∷ rest)) ∙ climb_number b (h + 1) _ (node.Apply o ∷ rest) ∙ moved_to _ _ _ _ rest (omega arith)
    (omega arith)
climb_number _ h m rest = moved_to _ _ _ _ rest refl (omega arith)

-- a truth reaches one more than its words, and then nothing remains
climb_truth : (a : TruthTree) (m : ℕ) (rest : List Node) → 1 ≤ m → fold climb (0, m) (truth_nodes a rest) ≡ fold climb (0, max m (1 + truth_words a)) rest
climb_truth (compared c a b) m rest some = search (arith, climb_number, moved_to)
climb_truth (denied a) m rest some = search (arith, moved_to, (climb_truth a m (node.Not ∷ rest) some))
climb_truth (joined j a b) m rest some =
    climb_truth a m (truth_nodes b (node.Join j ∷ rest)) some ∙ climb_truth b _ (node.Join j ∷ rest) (omega arith) ∙ moved_to _ _ _ _ rest refl (omega arith)
climb_truth _ m rest some = moved_to _ _ _ _ rest refl (omega arith)

climb_expr : (e : Expression) → fold climb (0, 1) (expr_nodes e) ≡ (0, 1 + words_of e)
climb_expr empty = refl
climb_expr (truth a) = search (arith, climb_truth, moved_to)

pub climb_whole : (items : List Node) → IsTree items → fold climb (0, 1) items ≡ (0, 1 + words_of (tree_of items))
climb_whole items whole = search (arith, fold, climb_expr)

-- a divisor that is 0
number_zero : (a : NumberTree) (q : Bool) (rest : List Node) → some_zero_divisor q (number_nodes a rest) ≡
    (has_zero_divisor a || some_zero_divisor (is_zero a) rest)
number_zero (load p s a) q rest = number_zero a q (node.Load p s ∷ rest)
number_zero (negated a) q rest = number_zero a q (node.Negate ∷ rest)
number_zero (applied o a b) q rest =
    number_zero a q (number_nodes b (node.Apply o ∷ rest)) ∙ ap (λ r. has_zero_divisor a || r) (number_zero b (is_zero a) (node.Apply o ∷ rest))
    ∙ rw (or_assoc, or_assoc) refl
number_zero _ q rest = refl

truth_zero : (a : TruthTree) (q : Bool) (rest : List Node) → some_zero_divisor q (truth_nodes a rest) ≡
    (any_primitive divides_by_zero a || some_zero_divisor false rest)
truth_zero (compared c a b) q rest = search (arith, number_zero, or_assoc)
truth_zero (denied a) q rest = truth_zero a q (node.Not ∷ rest)
truth_zero (joined j a b) q rest =
    truth_zero a q (truth_nodes b (node.Join j ∷ rest)) ∙ ap (λ r. any_primitive divides_by_zero a || r) (truth_zero b false (node.Join j ∷ rest))
    ∙ rw or_assoc refl
truth_zero _ q rest = refl

expr_zero : (e : Expression) → some_zero_divisor false (expr_nodes e) ≡ some_primitive divides_by_zero e
expr_zero empty = refl
expr_zero (truth a) = truth_zero a false [] ∙ or-false (any_primitive divides_by_zero a)

-- the same for a complete tree
pub zero_whole : (items : List Node) → IsTree items → some_zero_divisor false items ≡ some_primitive divides_by_zero (tree_of items)
zero_whole items whole = search (arith, expr_zero)

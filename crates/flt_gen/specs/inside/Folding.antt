-- Arithmetic of only numbers is one number, if it has a value.
use Rattle.std.specs.Prelude.{ℕ, zero, suc, ◌-◌, ◌%◌, ◌^◌, List, [], ◌∷◌, Option, Some}
use Rattle.flt_words.specs.declared.token.{Join.Join, Join.TheVariants.And, Join.TheVariants.Or, Operator.Operator}
use Rattle.flt_ast.specs.Tree.{NumberTree, literal, named, load, negated, applied, TruthTree, compared, denied, joined, Expression, empty, truth}
use Rattle.flt_ast.specs.declared.node.Node.{Node}
use Rattle.flt_gen.specs.{Elementary.with, Numbers.result_of, inside.Code.constant}
use Rattle.std.specs.Option.{option_map_or}

-- the negative of a number, modulo 2^32, or none if there is no number
abbrev pub negated_constant : Option ℕ → Option ℕ
negated_constant a = with a (λ x. Some ((2 ^ 32 - x) % 2 ^ 32))

-- what an operator makes of two numbers, if both are there; none also for a division by 0
abbrev pub applied_constant : Operator → Option ℕ → Option ℕ → Option ℕ
applied_constant operator a b = with b (λ y. with a (λ x. result_of operator x y))

-- ---- trees

-- a negation, or the number that it gives if its operand is one
abbrev pub negated_number : NumberTree → NumberTree
negated_number a = option_map_or literal (negated_constant (constant a)) (negated a)

-- an operator between two numbers, or the number that it gives where both are constants
abbrev pub applied_number : Operator → NumberTree → NumberTree → NumberTree
applied_number operator a b =
    option_map_or literal (applied_constant operator (constant a) (constant b)) (applied operator a b)

-- arithmetic in which a name, and each part of only numbers that has a value, is one number
abbrev pub folded_number : NumberTree → NumberTree
folded_number (load protocol size a) = load protocol size (folded_number a)
folded_number (negated a) = negated_number (folded_number a)
folded_number (applied operator a b) = applied_number operator (folded_number a) (folded_number b)
folded_number (named k) = literal k
folded_number a = a

-- not x and not b = not (x or b); y and not x and not b = y and not (x or b)
abbrev pub and_denied : TruthTree → TruthTree → TruthTree
and_denied (denied a) b = denied (joined Or a b)
and_denied (joined And x (denied a)) b = joined And x (denied (joined Or a b))
and_denied a b = joined And a (denied b)

-- two truths joined, where negations between `and` are one
abbrev pub joined_truth : Join → TruthTree → TruthTree → TruthTree
joined_truth And a (denied b) = and_denied a b
joined_truth j a b = joined j a b

-- a truth in whose arithmetic each part of only numbers is one number, if it has a value, and in
-- which negations between `and` are one
abbrev pub folded_truth : TruthTree → TruthTree
folded_truth (compared c a b) = compared c (folded_number a) (folded_number b)
folded_truth (denied a) = denied (folded_truth a)
folded_truth (joined j a b) = joined_truth j (folded_truth a) (folded_truth b)
folded_truth a = a

-- the expression of which code is emitted
abbrev pub folded_expression : Expression → Expression
folded_expression empty = empty
folded_expression (truth a) = truth (folded_truth a)

-- ---- the same of nodes, of which the latest comes first

-- appends a negation, or replaces a constant by its negative
abbrev pub with_negation : List Node → List Node
with_negation (Node.Literal k ∷ ns) = Node.Literal ((2 ^ 32 - k) % 2 ^ 32) ∷ ns
with_negation ns = Node.Negate ∷ ns

-- appends an operator, or replaces two constants by its result, if there is one
abbrev pub with_operator : Operator → List Node → List Node
with_operator operator (Node.Literal y ∷ Node.Literal x ∷ ns) =
    option_map_or (λ k. Node.Literal k ∷ ns) (result_of operator x y)
    (Node.Apply operator ∷ Node.Literal y ∷ Node.Literal x ∷ ns)
with_operator operator ns = Node.Apply operator ∷ ns

-- the number of trees still needed once this node is read
abbrev pub and_operands : Node → ℕ → ℕ
and_operands (Node.Join j) need = suc (suc need)
and_operands (Node.Compare c) need = suc (suc need)
and_operands (Node.Apply o) need = suc (suc need)
and_operands Node.Not need = suc need
and_operands Node.Negate need = suc need
and_operands (Node.Load p s) need = suc need
and_operands n need = need

-- nodes that are held, the earliest first, and those that were written before them
pub record Held : Type 0 where
  pub held : List Node
  pub rest : List Node

-- the latest nodes are held, as many trees as are needed
abbrev pub hold : ℕ → List Node → List Node → Held
hold need held [] = record { held = held; rest = [] }
hold zero held (n ∷ ns) = record { held = held; rest = n ∷ ns }
hold (suc need) held (n ∷ ns) = hold (and_operands n need) (n ∷ held) ns

-- what was held is put back
abbrev pub put_back : List Node → List Node → List Node
put_back [] ns = ns
put_back (h ∷ held) ns = put_back held (h ∷ ns)

-- `and` comes after a negation, of which what is denied is held
abbrev pub with_held : List Node → List Node → List Node
with_held held (Node.Not ∷ ns) = Node.Not ∷ Node.Join Or ∷ put_back held ns
with_held held (Node.Join And ∷ Node.Not ∷ ns) =
    Node.Join And ∷ Node.Not ∷ Node.Join Or ∷ put_back held ns
with_held held ns = Node.Join And ∷ Node.Not ∷ put_back held ns

-- `and` comes
abbrev pub with_conjunction : List Node → List Node
with_conjunction (Node.Not ∷ ns) = let h = hold 1 [] ns in with_held h.held h.rest
with_conjunction ns = Node.Join And ∷ ns

-- one more node, after its operands; a name, and arithmetic of only numbers that has a value, become
-- one number
abbrev pub with_folded : List Node → Node → List Node
with_folded ns (Node.Named k) = Node.Literal k ∷ ns
with_folded ns Node.Negate = with_negation ns
with_folded ns (Node.Apply operator) = with_operator operator ns
with_folded ns (Node.Join And) = with_conjunction ns
with_folded ns n = n ∷ ns

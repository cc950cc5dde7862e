-- An expression with its arithmetic of numbers folded means the same, and counts no more.
use Rattle.flt_gen.proofs.Common.{◌≡◌, ℕ, ◌+◌, ◌%◌, ◌^◌, ◌≤◌, List, [], ◌∷◌, Option, Some, refl, sym, ap, ap₂, ◌∙◌, arith, fold, ◌||◌, Operator, Protocol}
use Rattle.flt_gen.proofs.Common.{field, Node, NumberTree, literal, load, negated, applied, TruthTree, compared, denied, joined, Expression, empty, truth}
use Rattle.flt_gen.proofs.Common.{number_size, number_words, number_tests, truth_size, truth_words, truth_tests, bound_of, words_of, number_nodes, truth_nodes}
use Rattle.flt_gen.proofs.Common.{expr_nodes, number_onto, truth_onto, expr_onto, is_unfilled, any_primitive, some_primitive, Link, with, reading_of, compares}
use Rattle.flt_gen.proofs.Common.{width_of, base, number, accessors, Compare, negation, reads, checked_formula, constant, formula, holds, short_bound_of}
use Rattle.flt_gen.proofs.Common.{negated_constant, applied_constant, negated_number, applied_number, folded_number, joined_truth, folded_truth}
use Rattle.flt_gen.proofs.{Common.folded_expression, Common.with_negation, Common.with_operator, Common.with_folded, Once.both_again, Once.checked_same}
use Rattle.flt_gen.proofs.{Held.held_truth, Held.none_held, Held.back_truth, Numbers.constant_is, Leads.by_operand}
use Rattle.flt_words.specs.declared.token.Join.{Join}

negated_some : (u : Option ℕ) (k : ℕ) → negated_constant u ≡ Some k → (x : ℕ) × (u ≡ Some x)
negated_some u k e = grind arith

applied_some : (o : Operator) (v u : Option ℕ) (k : ℕ) → applied_constant o u v ≡ Some k → (x : ℕ) × (y : ℕ) × (u ≡ Some x) × (v ≡ Some y)
applied_some o v u k e = grind arith

-- a number alone has no accessors
constant_alone : (a : NumberTree) (k : ℕ) (rest : List Protocol) → constant a ≡ Some k → accessors a rest ≡ rest
constant_alone a k rest e = grind arith

module _ (p : List ℕ) (n : ℕ) (link : Link) where
  negated_is : (a : NumberTree) (u : Option ℕ) → constant a ≡ u → (k : ℕ) → negated_constant u ≡ Some k → number link (negated a) p n ≡ Some k
  negated_is a u c k e = grind (arith, constant_is)

  applied_is : (o : Operator) (a b : NumberTree) (v u : Option ℕ) → constant a ≡ u → constant b ≡ v → (k : ℕ) → applied_constant o u v ≡ Some k
      → number link (applied o a b) p n ≡ Some k
  applied_is o a b v u c d k e = grind (arith, constant_is)

-- a number in the place of another one: it counts no more, has the same accessors and the same value
record Replaces (b a : NumberTree) : Type 0 where
  counts : (number_size b ≤ number_size a) × (number_words b ≤ number_words a) × (number_tests b ≤ number_tests a)
  accessors_are : (rest : List Protocol) → accessors b rest ≡ accessors a rest
  same : (p : List ℕ) (n : ℕ) (link : Link) → number link b p n ≡ number link a p n

operands_same : (o : Operator) (c a d b : NumberTree) → Replaces c a → Replaces d b → (p : List ℕ) (n : ℕ) (link : Link) → number link (applied o c d)
    p n ≡ number link (applied o a b) p n
operands_same o c a d b h g p n link = grind arith

number_folded : (a : NumberTree) → Replaces (folded_number a) a
number_folded (load q s a) =
    let h = number_folded a in
    record {
      counts = omega (arith, h.counts);
      accessors_are = λ rest. ap (λ ps. q ∷ ps) (h.accessors_are rest);
      same = λ p n link. ap (λ o. with o (λ v. with (base link q p) (λ at. field p ((at + v) % 2 ^ 32) (width_of s)))) (h.same p n link);
    }
number_folded (negated a) =
    let h = number_folded a in let b = folded_number a in
    by_operand (λ t. Replaces t (negated a)) (negated_constant (constant b)) literal (negated b) (λ k e. let s = negated_some (constant b) k e in record {
      counts = omega arith;
      accessors_are = λ rest. sym (constant_alone b s.0 rest s.1) ∙ h.accessors_are rest;
      same = λ p n link. sym (negated_is p n link b (constant b) refl k e) ∙ ap (λ o. negated_constant o) (h.same p n link);
    }) (record { counts = omega (arith, h.counts); accessors_are = h.accessors_are; same = λ p n link. ap (λ o. negated_constant o) (h.same p n link) })
number_folded (applied o a b) =
    let h = number_folded a in let g = number_folded b in let c = folded_number a in let d = folded_number b in
    let all = λ (rest : List Protocol). ap (accessors c) (g.accessors_are rest) ∙ h.accessors_are (accessors b rest) in
    by_operand (λ t. Replaces t (applied o a b)) (applied_constant o (constant c) (constant d)) literal (applied o c d)
    (λ k e. let s = applied_some o (constant d) (constant c) k e in record {
      counts = omega arith;
      accessors_are = λ rest. sym (ap (accessors c) (constant_alone d s.1 rest s.3) ∙ constant_alone c s.0 rest s.2) ∙ all rest;
      same = λ p n link. sym (applied_is p n link o c d (constant d) (constant c) refl refl k e) ∙ operands_same o c a d b h g p n link;
    }) (record { counts = omega (arith, h.counts, g.counts); accessors_are = all; same = operands_same o c a d b h g })
number_folded _ = record { counts = omega arith; accessors_are = λ rest. refl; same = λ p n link. refl }

-- a truth in the place of another one: it counts no more, has primitives that lack qualifiers only if that has, and reads the same
record Stands (a b : TruthTree) : Type 0 where
  counts : (truth_size a ≤ truth_size b) × (truth_words a ≤ truth_words b) × (truth_tests a ≤ truth_tests b)
  filled : any_primitive is_unfilled a ≡ any_primitive is_unfilled b
  same : (p : List ℕ) (n : ℕ) (link : Link) → reads link (formula link a) p n ≡ reads link (formula link b) p n

itself : (a : TruthTree) → Stands a a
itself a = record { counts = omega arith; filled = refl; same = λ p n link. refl }

joined_stands : (j : Join) (a b : TruthTree) → Stands (joined_truth j a b) (joined j a b)
joined_stands j a b = grind (arith, both_again, itself)

both_same : (j : Join) (a c b d : TruthTree) → Stands a c → Stands b d → (p : List ℕ) (n : ℕ) (link : Link) → reads link (formula link (joined j a b))
    p n ≡ reads link (formula link (joined j c d)) p n
both_same j a c b d h g p n link = grind arith

truth_folded : (a : TruthTree) → Stands (folded_truth a) a
truth_folded (compared c a b) =
    let h = number_folded a in let g = number_folded b in
    record {
      counts = omega (arith, h.counts, g.counts);
      filled = refl;
      same = λ p n link.
          ap (λ ps. reads link (checked_formula link ps (Compare c (folded_number a) (folded_number b))) p n)
          (h.accessors_are (accessors (folded_number b) []) ∙ ap (accessors a) (g.accessors_are []))
          ∙ checked_same link p n (accessors a (accessors b [])) (Compare c (folded_number a) (folded_number b)) (Compare c a b)
          (ap₂ (λ o q. reading_of (with o (λ x. with q (λ y. Some (compares c x y))))) (h.same p n link) (g.same p n link));
    }
truth_folded (denied a) = let h = truth_folded a in record { counts = h.counts; filled = h.filled; same = λ p n link. ap negation (h.same p n link) }
truth_folded (joined j a b) =
    let h = truth_folded a in let g = truth_folded b in let k = joined_stands j (folded_truth a) (folded_truth b) in
    record {
      counts = omega (arith, h.counts, g.counts, k.counts);
      filled = k.filled ∙ ap₂ (λ x y. x || y) h.filled g.filled;
      same = λ p n link. k.same p n link ∙ both_same j (folded_truth a) a (folded_truth b) b h g p n link;
    }
truth_folded a = itself a

-- an expression that is folded, in the place of itself
pub record Folds (e : Expression) : Type 0 where
  pub words : words_of (folded_expression e) ≤ words_of e
  pub bound : bound_of (folded_expression e) ≤ bound_of e
  pub short : short_bound_of (folded_expression e) ≤ short_bound_of e
  pub filled : some_primitive is_unfilled (folded_expression e) ≡ some_primitive is_unfilled e
  pub same : (p : List ℕ) (n : ℕ) (link : Link) → holds (folded_expression e) link p n ≡ holds e link p n

pub expression_folded : (e : Expression) → Folds e
expression_folded empty = record { words = omega arith; bound = omega arith; short = omega arith; filled = refl; same = λ p n link. refl }
expression_folded (truth a) =
    let h = truth_folded a in
    record { words = omega (arith, h.counts); bound = omega (arith, h.counts); short = omega (arith, h.counts); filled = h.filled; same = h.same }

-- ---- the nodes of the folded tree

with_negated : (a : NumberTree) (d : List Node) → with_negation (number_onto a d) ≡ number_onto (negated_number a) d
with_negated a d = grind arith

with_applied : (o : Operator) (b a : NumberTree) (d : List Node) → with_operator o (number_onto b (number_onto a d)) ≡ number_onto (applied_number o a b) d
with_applied o b a d = grind arith

number_put : (a : NumberTree) (d rest : List Node) → fold with_folded d (number_nodes a rest) ≡ fold with_folded (number_onto (folded_number a) d) rest
number_put (load p s a) d rest = number_put a d _
number_put (negated a) d rest = number_put a d _ ∙ ap (λ c. fold with_folded c rest) (with_negated (folded_number a) d)
number_put (applied o a b) d rest = number_put a d _ ∙ number_put b _ _ ∙ ap (λ c. fold with_folded c rest)
    (with_applied o (folded_number b) (folded_number a) d)
number_put _ d rest = refl

join_put : (j : Join) (b a : TruthTree) (d : List Node) → with_folded (truth_onto b (truth_onto a d)) (Node.Join j) ≡ truth_onto (joined_truth j a b) d
join_put j b a d = grind (arith, held_truth, none_held, back_truth)

truth_put : (a : TruthTree) (d rest : List Node) → fold with_folded d (truth_nodes a rest) ≡ fold with_folded (truth_onto (folded_truth a) d) rest
truth_put (compared c a b) d rest = number_put a d _ ∙ number_put b _ _
truth_put (denied a) d rest = truth_put a d _
truth_put (joined j a b) d rest = truth_put a d _ ∙ truth_put b _ _ ∙ ap (λ c. fold with_folded c rest) (join_put j (folded_truth b) (folded_truth a) d)
truth_put _ d rest = refl

pub nodes_folded : (e : Expression) → fold with_folded [] (expr_nodes e) ≡ expr_onto (folded_expression e)
nodes_folded empty = refl
nodes_folded (truth a) = truth_put a [] []

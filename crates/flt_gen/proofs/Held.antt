-- The nodes of a tree that are held, and put back.
use Rattle.flt_gen.proofs.Common.{◌≡◌, ℕ, suc, ◌+◌, List, [], ◌∷◌, refl, ap, ◌∙◌, arith, Node, NumberTree, load, negated, applied, TruthTree, compared, denied}
use Rattle.flt_gen.proofs.Common.{joined, number_nodes, truth_nodes, number_onto, truth_onto, hold, put_back}

pub one_more : (need : ℕ) → need + 1 ≡ suc need
one_more need = omega arith

pub two_more : (need : ℕ) → need + 2 ≡ suc (suc need)
two_more need = omega arith

pub none_held : (need : ℕ) (held ns : List Node) → need ≡ 0 → hold need held ns ≡ record { held = held; rest = ns }
none_held need held [] e = refl
none_held need held (n ∷ ns) e = ap (λ k. hold k held (n ∷ ns)) e

held_number : (a : NumberTree) (need : ℕ) (held d : List Node) → hold (suc need) held (number_onto a d) ≡ hold need (number_nodes a held) d
held_number (load p s a) need held d = held_number a need (Node.Load p s ∷ held) d
held_number (negated a) need held d = held_number a need (Node.Negate ∷ held) d
held_number (applied o a b) need held d =
    grind (arith, held_number b (suc need) (Node.Apply o ∷ held) (number_onto a d), held_number a need (number_nodes b (Node.Apply o ∷ held)) d)
held_number _ need held d = refl

pub held_truth : (a : TruthTree) (need : ℕ) (held d : List Node) → hold (suc need) held (truth_onto a d) ≡ hold need (truth_nodes a held) d
held_truth (compared c a b) need held d = grind (arith, held_number)
held_truth (denied a) need held d = held_truth a need (Node.Not ∷ held) d
held_truth (joined j a b) need held d =
    grind (arith, held_truth b (suc need) (Node.Join j ∷ held) (truth_onto a d), held_truth a need (truth_nodes b (Node.Join j ∷ held)) d)
held_truth _ need held d = refl

back_number : (a : NumberTree) (held ns : List Node) → put_back (number_nodes a held) ns ≡ put_back held (number_onto a ns)
back_number (load p s a) held ns = back_number a (Node.Load p s ∷ held) ns
back_number (negated a) held ns = back_number a (Node.Negate ∷ held) ns
back_number (applied o a b) held ns = back_number a (number_nodes b (Node.Apply o ∷ held)) ns ∙ back_number b (Node.Apply o ∷ held) (number_onto a ns)
back_number _ held ns = refl

pub back_truth : (a : TruthTree) (held ns : List Node) → put_back (truth_nodes a held) ns ≡ put_back held (truth_onto a ns)
back_truth (compared c a b) held ns = back_number a (number_nodes b (Node.Compare c ∷ held)) ns ∙ back_number b (Node.Compare c ∷ held) (number_onto a ns)
back_truth (denied a) held ns = back_truth a (Node.Not ∷ held) ns
back_truth (joined j a b) held ns = back_truth a (truth_nodes b (Node.Join j ∷ held)) ns ∙ back_truth b (Node.Join j ∷ held) (truth_onto a ns)
back_truth _ held ns = refl

-- The last of the nodes that are left are emitted, one or several at once: what is left to do then leads to the same walk.
use Rattle.flt_gen.proofs.Common.{◌++◌, drop, length-drop, zero, ◌<◌, Check, length-take, ◌≡◌, ℕ, ◌-◌, List, [], ◌∷◌, length, take, get_or, suc, ◌≤◌, Some}
use Rattle.flt_gen.proofs.Common.{None, Entry, Equal, Ether, sym, ap, ◌∙◌, arith, reverse, take-suc, reverse-append, Node, Link, Walk, emit_node}
use Rattle.flt_gen.proofs.Common.{emit_both_nodes, emit_nodes, unwrap_or, ◌+◌, add-one, Insn, Protocol, accessor_tests, block, emit_all, emit_accessor_tests}
use Rattle.flt_gen.proofs.Common.{rows_formula}
use Rattle.flt_gen.specs.inside.{Relations.relation, Relations.relation_in, Group.entry_formula, Code.emit_formula, Walk.emit_member}
use Rattle.std.proofs.{Math.Seq.drop-append_seam, lemmas.List.take_all, lemmas.List.take-append-drop, lemmas.List.length-reverse}

-- what is left of a list, turned round
pub reverse_taken : {A : Type 0} (xs : List A) (e : ℕ) → reverse (take e xs) ≡ drop (length (reverse xs) - e) (reverse xs)
reverse_taken xs e =
    let parts : reverse xs ≡ reverse (drop e xs) ++ reverse (take e xs) = ap reverse (sym (take-append-drop e xs)) ∙ reverse-append (take e xs) (drop e xs) in
    let n : length (reverse xs) - e ≡ length (reverse (drop e xs)) = omega (arith, length-reverse xs, length-reverse (drop e xs), length-drop e xs) in
    sym (ap (λ k. drop k (reverse xs)) n ∙ ap (λ ys. drop (length (reverse (drop e xs))) ys) parts ∙ drop-append_seam (reverse (drop e xs))
    (reverse (take e xs)))

never : {A B : Type 0} (v : A) → None ≡ Some v → B
never v e = cc

-- a relation is put at once
relation_walked : (link : Link) (w : Walk) (a b c d : Node) (ns : List Node) (e : Entry) → relation_in (a ∷ b ∷ c ∷ d ∷ ns) ≡ Some e
    → emit_nodes link w (a ∷ b ∷ c ∷ d ∷ ns) ≡ emit_nodes link (emit_member link e w) ns
relation_walked link w (Node.Compare Equal) (Node.Literal k) (Node.Load p s) (Node.Literal i) ns e is =
    (let same : relation p s i k ≡ e = cc in ap (λ x. emit_nodes link (emit_member link x w) ns) same)
relation_walked link w _ _ _ _ ns e is = never e is

both_walked : (link : Link) (w v : Walk) (n m : Node) (ns : List Node) → relation_in (n ∷ m ∷ ns) ≡ None → emit_both_nodes link w n m ≡ Some v
    → emit_nodes link w (n ∷ m ∷ ns) ≡ emit_nodes link v ns
both_walked link w v (Node.Compare Equal) (Node.Literal k) (Node.Load p s ∷ Node.Literal i ∷ ns) none e = never _ (sym none)
both_walked link w v (Node.Apply o) (Node.Literal k) ns none e = grind arith
both_walked link w v (Node.Compare c) (Node.Literal k) ns none e = ap (λ x. emit_nodes link (unwrap_or x w) ns) e
both_walked link w v (Node.Load p s) (Node.Literal k) ns none e = ap (λ x. emit_nodes link (unwrap_or x w) ns) e
both_walked link w v _ _ ns none e = never v e

one_walked : (link : Link) (w : Walk) (n m : Node) (ns : List Node) → emit_both_nodes link w n m ≡ None → emit_nodes link w (n ∷ m ∷ ns) ≡ emit_nodes
    link (emit_node link w n) (m ∷ ns)
one_walked link w n m ns e = grind arith

-- the last of the nodes that are left, and the last two or four
abbrev node : List Node → ℕ → Node
node ns k = get_or ns k (Check Ether)

one_put : (ns : List Node) (j i : ℕ) → j ≡ suc i → j ≤ length ns → reverse (take j ns) ≡ node ns i ∷ reverse (take i ns)
one_put ns j i e within = ap (λ k. reverse (take k ns)) e ∙ ap reverse (take-suc ns i (Check Ether) (omega arith)) ∙ reverse-append (take i ns) (node ns i ∷ [])

two_put : (ns : List Node) (j i h : ℕ) → j ≡ suc i → i ≡ suc h → j ≤ length ns → reverse (take j ns) ≡ node ns i ∷ node ns h ∷ reverse (take h ns)
two_put ns j i h e f within = one_put ns j i e within ∙ ap (λ xs. node ns i ∷ xs) (one_put ns i h f (omega arith))

four_put : (ns : List Node) (j : ℕ) → 4 ≤ j → j ≤ length ns → reverse (take j ns) ≡ node ns (j - 1) ∷ node ns (j - 2) ∷ node ns (j - 3) ∷
    node ns (j - 4) ∷ reverse (take (j - 4) ns)
four_put ns j some within = grind (arith, two_put)

pub last_four : (ns : List Node) → 4 ≤ length ns → reverse ns ≡ get_or ns (length ns - 1) (Check Ether) ∷ get_or ns (length ns - 2) (Check Ether) ∷
    get_or ns (length ns - 3) (Check Ether) ∷ get_or ns (length ns - 4) (Check Ether) ∷ reverse (take (length ns - 4) ns)
last_four ns l = ap reverse (sym (take_all (length ns) ns (omega arith))) ∙ four_put ns (length ns) l (omega arith)

pub relation_put : (link : Link) (ns : List Node) (j : ℕ) (w : Walk) (e : Entry) → 4 ≤ length (take j ns) → j ≤ length ns
    → relation_in (reverse (take j ns)) ≡ Some e → emit_nodes link (emit_member link e w) (reverse (take (j - 4) ns)) ≡ emit_nodes link w (reverse (take j ns))
relation_put link ns j w e some within is = grind (arith, length-take, four_put, relation_walked)

-- what is left to do after so many nodes
abbrev left_walk : Link → List Node → ℕ → Walk → Walk
left_walk link ns k w = emit_nodes link w (reverse (take k ns))

pub first_put : (link : Link) (ns : List Node) (left : ℕ) (w : Walk) → 0 < left → left ≤ length ns → left - 1 ≡ 0 → left_walk link ns (left - 1)
    (emit_node link w (get_or ns (left - 1) (Check Ether))) ≡ left_walk link ns left w
first_put link ns (suc zero) w some within first = grind (arith, one_put)
first_put link ns _ w some within first = absurd (omega arith)

pub node_put : (link : Link) (ns : List Node) (left : ℕ) (w : Walk) → 0 < left - 1 → left ≤ length ns → emit_both_nodes link w
    (get_or ns (left - 1) (Check Ether)) (get_or ns (left - 1 - 1) (Check Ether)) ≡ None → left_walk link ns (left - 1)
    (emit_node link w (get_or ns (left - 1) (Check Ether))) ≡ left_walk link ns left w
node_put link ns left w some within none =
    sym (ap (emit_nodes link w) (two_put ns left (left - 1) (left - 1 - 1) (omega arith) (omega arith) within)
    ∙ one_walked link w (node ns (left - 1)) (node ns (left - 1 - 1)) (reverse (take (left - 1 - 1) ns)) none
    ∙ ap (emit_nodes link (emit_node link w (node ns (left - 1)))) (sym (one_put ns (left - 1) (left - 1 - 1) (omega arith) (omega arith))))

pub both_put : (link : Link) (ns : List Node) (left : ℕ) (w v : Walk) → 0 < left - 1 → left ≤ length ns → relation_in (reverse (take left ns)) ≡ None
    → emit_both_nodes link w (get_or ns (left - 1) (Check Ether)) (get_or ns (left - 1 - 1) (Check Ether)) ≡ Some v → left_walk link ns (left - 1 - 1)
    v ≡ left_walk link ns left w
both_put link ns left w v some within none both = grind (arith, two_put, both_walked)

-- of what is left after each way to emit the last nodes
pub ruleset node_steps = (first_put, node_put, both_put, relation_put)

-- ---- tests of accessors and members of a group, one more at a time

-- one more, and the last is the first
turned : {A : Type 0} (xs : List A) (k : ℕ) (other : A) → k < length xs → reverse (take (k + 1) xs) ≡ get_or xs k other ∷ reverse (take k xs)
turned xs k other l =
    let taken : take (k + 1) xs ≡ take k xs ++ (get_or xs k other ∷ []) = ap (λ j. take j xs) (add-one k) ∙ take-suc xs k other l in
    ap reverse taken ∙ reverse-append (take k xs) (get_or xs k other ∷ [])

pub one_more : (link : Link) (ps : List Protocol) (k : ℕ) (other : Protocol) (hit miss : ℕ) (c : List Insn) → k < length ps → emit_accessor_tests link
    (reverse (take (k + 1) ps)) hit miss c ≡ (let e = emit_accessor_tests link (reverse (take k ps)) hit miss c in
    emit_all (accessor_tests link (get_or ps k other)) e.entry miss e.code)
one_more link ps k other hit miss c l = ap (λ qs. emit_accessor_tests link qs hit miss c) (turned ps k other l)

pub one_more_row : (link : Link) (es : List Entry) (k : ℕ) (other : Entry) (hit miss : ℕ) (c d d' : List Insn) (entry entry' : ℕ) → k < length es
    → emit_formula link (rows_formula link (reverse (take k es))) hit miss c ≡ block d entry
    → emit_formula link (entry_formula link (get_or es k other)) hit entry d ≡ block d' entry'
    → emit_formula link (rows_formula link (reverse (take (k + 1) es))) hit miss c ≡ block d' entry'
one_more_row link es k other hit miss c d d' entry entry' l h n = grind (arith, turned)

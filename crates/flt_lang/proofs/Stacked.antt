-- The parser's frames and operand represent the tokens read so far.
use Rattle.std.proofs.Common.{◌≡◌, ℕ, suc, zero, ◌+◌, ◌≤◌, ◌⊎◌, inl, inr, ⊎_elim, List, [], ◌∷◌, refl, sym, ap, ◌∙◌, subst, arith, Option, Some, None, Bool}
use Rattle.std.proofs.Common.{true, false, nat_le, if◌then◌else◌, lit≤, zero-le}
use Rattle.flt_lang.proofs.Common.{leb-true, Subtract, Divide, TokenKind, Node, Frame, Operand, number_onto, truth_onto, Value, order}
use Rattle.flt_ast.specs.Tree.{NumberTree, literal, negated, applied, TruthTree, bare, compared, denied, joined}
use Rattle.flt_lang.specs.Values.{no_mask, number}
use Rattle.flt_lang.specs.Grammar.{level, is_accessor, Number, of_literal, minus, single, chain, Truth, of_bare, relation, denial, term, terms}
use Rattle.flt_lang.specs.inside.Parser.{◌>>=◌, precedence, operand_precedence, prefix_mask, as_number, as_truth, Read, fill_frame, Reduced, reduce}
use Rattle.flt_lang.proofs.ValuesBack.{carried, level_small}
use Rattle.flt_words.specs.declared.token.TokenKind.TheVariants as token
use Rattle.flt_ast.specs.declared.node.Node.TheVariants as node
use Rattle.flt_lang.specs.declared.frame.Frame.TheVariants as frame
use Rattle.flt_lang.specs.declared.frame.Operand.TheVariants as operand

-- a chain of steps that succeeds has a first step that does
pub some_first : {A B : Type 0} (o : Option A) (f : A → Option B) (z : B) → (o >>= f) ≡ Some z → (w : A) × (o ≡ Some w) × (f w ≡ Some z)
some_first None f z e = cc
some_first (Some w) f z e = (w, refl, e)

-- a test is true if its other branch fails
pub some_then : {A : Type 0} (b : Bool) (o : Option A) (z : A) → (if b then o else None) ≡ Some z → (b ≡ true) × (o ≡ Some z)
some_then true o z e = (refl, e)
some_then false o z e = cc

-- a number of one level is one of each looser level
pub widened : (k j : ℕ) (ts rest : List TokenKind) (a : NumberTree) → k ≤ j → Number k ts a rest → Number j ts a rest
widened k zero ts rest a h n = search arith
widened k (suc j) ts rest a h n =
    ⊎_elim
    (λ below. single (widened k j ts rest a (omega arith) n))
    (λ above. let same : k ≡ suc j = omega arith in subst (λ i. Number i ts a rest) same n)
    (order k (suc j))

-- the tokens before here, as the frames and the nodes d have them
abbrev pub Stacked : List Frame → List Node → List TokenKind → List TokenKind → Type 0
Stacked [] d start here = (start ≡ here) × (d ≡ [])
Stacked (frame.Negate ∷ fs) d start here = Stacked fs d start (token.Operator Subtract ∷ here)
Stacked (frame.Apply o ∷ fs) d start here = (e : List Node) × (mid : List TokenKind) × (a : NumberTree) × Stacked fs e start mid
    × (d ≡ number_onto a e) × Number (suc (level o)) mid a (token.Operator o ∷ here) × (level o + 1 ≤ operand_precedence fs)
Stacked (frame.Compare c ∷ fs) d start here = (e : List Node) × (mid : List TokenKind) × (a : NumberTree) × Stacked fs e start mid
    × (d ≡ number_onto a e) × Number 4 mid a (token.Comparison c ∷ here)
Stacked (frame.Not ∷ fs) d start here = Stacked fs d start (token.Not ∷ here)
Stacked (frame.Join j ∷ fs) d start here = (e : List Node) × (mid : List TokenKind) × (a : TruthTree) × Stacked fs e start mid × (d ≡ truth_onto a e)
    × Truth 1 mid a (token.Join j ∷ here) × (7 ≤ operand_precedence fs)
Stacked (frame.Open ∷ fs) d start here = Stacked fs d start (token.Open ∷ here)
Stacked (frame.Load p ∷ fs) d start here = (is_accessor p ≡ true) × Stacked fs d start (token.Protocol p ∷ token.OpenBracket ∷ here)

-- a number that may have the length of a prefix after it, as a number and as a truth
abbrev pub either_number : ℕ → Option ℕ → NumberTree
either_number n None = literal n
either_number n (Some m) = applied Divide (literal n) (literal m)

abbrev pub either_truth : ℕ → Option ℕ → TruthTree
either_truth n m = bare (Value.Number n (prefix_mask m))

-- an operand between two places: a number no looser than m and than there is room for, or a truth,
-- which is a chain only where both allow it
abbrev pub Between : ℕ → ℕ → Operand → List Node → List Node → List TokenKind → List TokenKind → Type 0
Between m r operand.Number d e mid rest = (k : ℕ) × (a : NumberTree) × (k ≤ m) × (k ≤ r) × (k ≤ 4) × Number k mid a rest × (e ≡ number_onto a d)
Between m r operand.Truth d e mid rest = (a : TruthTree) × (Truth 0 mid a rest ⊎ ((7 ≤ m) × (7 ≤ r) × Truth 1 mid a rest)) × (e ≡ truth_onto a d)
Between m r (operand.Plain n) d e mid rest = (mid ≡ token.Number n ∷ rest) × (e ≡ d)
Between m r (operand.Either n l) d e mid rest = (k : ℕ) × (k ≤ m) × (k ≤ r) × (k ≤ 4) × Number k mid (either_number n l) rest
    × Truth 0 mid (either_truth n l) rest × (e ≡ d)

pub record NumberBetween (m r : ℕ) (d e : List Node) (mid rest : List TokenKind) : Type 0 where
  pub precedence_of : ℕ
  pub tree : NumberTree
  pub in_reach : precedence_of ≤ m
  pub in_room : precedence_of ≤ r
  pub small : precedence_of ≤ 4
  pub reads : Number precedence_of mid tree rest
  pub nodes : e ≡ number_onto tree d

pub number_between : (m r : ℕ) (x : Operand) (d e f : List Node) (mid rest : List TokenKind) → Between m r x d e mid rest → as_number x e ≡ Some f
    → NumberBetween m r d f mid rest
number_between m r operand.Truth d e f mid rest b h = cc
number_between m r operand.Number d e f mid rest (k, a, in_reach, in_room, small, reads, nodes) h = search arith
number_between m r (operand.Plain n) d e f mid rest (is, nodes) h =
    record {
      precedence_of = 0;
      tree = literal n;
      in_reach = omega arith;
      in_room = omega arith;
      small = omega arith;
      reads =
          subst (λ ts. Number 0 ts (literal n) rest) (sym is) of_literal;
      nodes = cc;
    }
number_between m r (operand.Either n None) d e f mid rest (k, in_reach, in_room, small, reads, reads_truth, nodes) h = search (arith, literal)
number_between m r (operand.Either n (Some l)) d e f mid rest (k, in_reach, in_room, small, reads, reads_truth, nodes) h = search (arith, applied, literal)

pub record TruthBetween (m r : ℕ) (d e : List Node) (mid rest : List TokenKind) : Type 0 where
  pub tree : TruthTree
  pub reads : Truth 0 mid tree rest ⊎ ((7 ≤ m) × (7 ≤ r) × Truth 1 mid tree rest)
  pub nodes : e ≡ truth_onto tree d

pub truth_between : (m r : ℕ) (x : Operand) (d e f : List Node) (mid rest : List TokenKind) → Between m r x d e mid rest → as_truth x e ≡ Some f
    → TruthBetween m r d f mid rest
truth_between m r operand.Number d e f mid rest b h = cc
truth_between m r operand.Truth d e f mid rest (a, reads, nodes) h = record { tree = a; reads = reads; nodes = cc }
truth_between m r (operand.Plain n) d e f mid rest (is, nodes) h =
    record { tree = either_truth n None; reads = inl (subst (λ ts. Truth 0 ts (either_truth n None) rest) (sym is) (of_bare (number no_mask))); nodes = cc }
truth_between m r (operand.Either n l) d e f mid rest (k, in_reach, in_room, small, reads, reads_truth, nodes) h = search (arith, inl)

-- a truth where a chain has no room is a term
term_of : {m r : ℕ} {mid rest : List TokenKind} {a : TruthTree} → r ≤ 6 → Truth 0 mid a rest ⊎ ((7 ≤ m) × (7 ≤ r) × Truth 1 mid a rest) → Truth 0 mid a rest
term_of h reads = ⊎_elim (λ t. t) (λ (_, roomy, _). absurd (omega arith)) reads

pub chain_of : {m r : ℕ} {mid rest : List TokenKind} {a : TruthTree} → Truth 0 mid a rest ⊎ ((7 ≤ m) × (7 ≤ r) × Truth 1 mid a rest) → Truth 1 mid a rest
chain_of reads = ⊎_elim (λ t. term t) (λ (_, _, t). t) reads

-- an operand after some frames
abbrev pub Following : ℕ → List Frame → Operand → List Node → List TokenKind → List TokenKind → Type 0
Following m fs x e start rest = (d : List Node) × (mid : List TokenKind) × Stacked fs d start mid × Between m (operand_precedence fs) x d e mid rest

moved : (m : ℕ) (fs : List Frame) (start rest : List TokenKind) (y z : Operand) (g h : List Node) → Following m fs y g start rest
    → ◌≡◌ {A = Option Read} (Some (y, g)) (Some (z, h)) → Following m fs z h start rest
moved m fs start rest y z g h b same = carried (λ (r : Read). Following m fs r.0 r.1 start rest) b same

-- a frame with its operand is an operand
fill_sound : (m : ℕ) (f : Frame) (fs : List Frame) (x y : Operand) (e g : List Node) (start rest : List TokenKind) → precedence f ≤ m
    → Following m (f ∷ fs) x e start rest → fill_frame f x e ≡ Some (y, g) → Following m fs y g start rest
fill_sound m frame.Negate fs x y e g start rest h (d, mid, stacked, between) filled =
    let (i, is_number, is_rest) = some_first (as_number x e) (λ i. Some (operand.Number, node.Negate ∷ i)) (y, g) filled in
    let n = number_between m 0 x d e i mid rest between is_number in
    moved m fs start rest operand.Number y (node.Negate ∷ i) g (
      d,
      (token.Operator Subtract ∷ mid),
      stacked,
      (
        0,
        negated n.tree,
        zero-le,
        zero-le,
        zero-le,
        minus (widened n.precedence_of 0 mid rest n.tree n.in_room n.reads),
        ap (λ l. node.Negate ∷ l)
            n.nodes,
      ),
    ) is_rest
fill_sound m (frame.Apply o) fs x y e g start rest h (d, mid, (d', mid', a, stacked, d_is, left, roomy), between) filled =
    let (i, is_number, is_rest) = some_first (as_number x e) (λ i. Some (operand.Number, node.Apply o ∷ i)) (y, g) filled in
    let n = number_between m (level o) x d e i mid rest between is_number in
    let right = widened n.precedence_of (level o) mid rest n.tree n.in_room n.reads in
    moved m fs start rest operand.Number y (node.Apply o ∷ i) g (
      d',
      mid',
      stacked,
      (
        suc (level o),
        applied o a n.tree,
        omega arith,
        omega arith,
        omega (arith, level_small o),
        chain left refl right,
        ap (λ l. node.Apply o ∷ l) (n.nodes ∙ ap (λ l. number_onto n.tree l) d_is),
      ),
    ) is_rest
fill_sound m (frame.Compare c) fs x y e g start rest h (d, mid, (d', mid', a, stacked, d_is, left), between) filled =
    let (i, is_number, is_rest) = some_first (as_number x e) (λ i. Some (operand.Truth, node.Compare c ∷ i)) (y, g) filled in
    let n = number_between m 4 x d e i mid rest between is_number in
    let right = widened n.precedence_of 4 mid rest n.tree n.small n.reads in
    moved m fs start rest operand.Truth y (node.Compare c ∷ i) g (
      d',
      mid',
      stacked,
      (
        compared c a n.tree,
        inl (relation left right),
        ap (λ l. node.Compare c ∷ l)
            (n.nodes ∙ ap (λ l. number_onto n.tree l) d_is),
      ),
    ) is_rest
fill_sound m frame.Not fs x y e g start rest h (d, mid, stacked, between) filled =
    let (i, is_truth, is_rest) = some_first (as_truth x e) (λ i. Some (operand.Truth, node.Not ∷ i)) (y, g) filled in
    let t = truth_between m 6 x d e i mid rest between is_truth in
    moved m fs start rest operand.Truth y (node.Not ∷ i) g
    (d, (token.Not ∷ mid), stacked, (denied t.tree, inl (denial (term_of (lit≤ tt) t.reads)), ap (λ l. node.Not ∷ l) t.nodes)) is_rest
fill_sound m (frame.Join j) fs x y e g start rest h (d, mid, (d', mid', a, stacked, d_is, left, roomy), between) filled =
    let (i, is_truth, is_rest) = some_first (as_truth x e) (λ i. Some (operand.Truth, node.Join j ∷ i)) (y, g) filled in
    let t = truth_between m 6 x d e i mid rest between is_truth in
    moved m fs start rest operand.Truth y (node.Join j ∷ i) g (
      d',
      mid',
      stacked,
      (
        joined j a t.tree,
        inr (h, roomy, terms left (term_of (lit≤ tt) t.reads)),
        ap (λ l. node.Join j ∷ l)
            (t.nodes ∙ ap (λ l. truth_onto t.tree l) d_is),
      ),
    ) is_rest
fill_sound m frame.Open fs x y e g start rest h b filled = cc
fill_sound m (frame.Load p) fs x y e g start rest h b filled = cc

reduce_one : (m : ℕ) (f : Frame) (fs : List Frame) (x : Operand) (e : List Node) (start rest : List TokenKind) (s : Reduced) (q : Bool)
    → nat_le (precedence f) m ≡ q → Following m (f ∷ fs) x e start rest → ((y : Operand) (g : List Node) → Following m fs y g start rest
    → reduce m fs y g ≡ Some s → Following m s.0 s.1 s.2 start rest)
    → (if q then (fill_frame f x e >>= λ r. reduce m fs r.0 r.1) else Some (f ∷ fs, x, e)) ≡ Some s → Following m s.0 s.1 s.2 start rest
reduce_one m f fs x e start rest s true is_tight b others h =
    let (r, filled, settles) = some_first (fill_frame f x e) (λ r. reduce m fs r.0 r.1) s h in
    others r.0 r.1 (fill_sound m f fs x r.0 e r.1 start rest (leb-true _ _ is_tight) b filled) settles
reduce_one m f fs x e start rest s false is_loose b others h = carried (λ (s : Reduced). Following m s.0 s.1 s.2 start rest) b h

pub reduce_sound : (m : ℕ) (fs : List Frame) (x : Operand) (e : List Node) (start rest : List TokenKind) (s : Reduced) → Following m fs x e start rest
    → reduce m fs x e ≡ Some s → Following m s.0 s.1 s.2 start rest
reduce_sound m [] x e start rest s b reduced = search (arith, carried)
reduce_sound m (f ∷ fs) x e start rest s b reduced =
    reduce_one m f fs x e start rest s (nat_le (precedence f) m) refl b (λ y g c h. reduce_sound m fs y g start rest s c h) reduced

pub loosened : (m r : ℕ) (x : Operand) (d e : List Node) (mid rest : List TokenKind) → 1 ≤ m → Between 1 r x d e mid rest → Between m r x d e mid rest
loosened m r operand.Number d e mid rest h (k, a, in_reach, in_room, small, reads, nodes) = (k, a, omega arith, in_room, small, reads, nodes)
loosened m r operand.Truth d e mid rest h (a, reads, nodes) = search (arith, inl)
loosened m r (operand.Plain n) d e mid rest h b = b
loosened m r (operand.Either n l) d e mid rest h (k, in_reach, in_room, small, reads, reads_truth, nodes) =
    (k, omega arith, in_room, small, reads, reads_truth, nodes)

-- The grammar reads whatever the parser reads: if the parser returns nodes, they are those of a
-- tree.
use Rattle.std.proofs.Common.{◌≡◌, ℕ, suc, zero, ◌-◌, length, drop, inl, List, [], ◌∷◌, refl, sym, ap, ◌∙◌, subst, Option, Some, None, true, nat_le, zero-le}
use Rattle.std.proofs.Common.{◌+◌, ◌≤◌, arith, Bool, false, if◌then◌else◌, lit≤, reverse}
use Rattle.flt_lang.proofs.Common.{Protocol, Subtract, TokenKind, Value, Qualifiers, Node, Frame, Operand, truth_onto, leb-true, Divide, expr_onto, Size}
use Rattle.flt_ast.specs.Tree.{len, named, TruthTree, check, cast, sized, bare, valued, literal, load, Expression, empty, truth}
use Rattle.flt_lang.specs.Values.{is_written, no_mask, prefix, number}
use Rattle.flt_lang.specs.inside.Values.{qualifiers_of, value_of}
use Rattle.flt_lang.specs.Grammar.{stands_alone, has_casts, of_len, of_name, Truth, of_check, of_cast, of_protocol_cast, of_sized, of_valued, of_bare, level}
use Rattle.flt_lang.specs.Grammar.{Number, of_literal, enclosed, of_load, of_sized_load, single, chain, enclosed_truth, term, IsReadAs, no_tokens, all_tokens}
use Rattle.flt_lang.specs.inside.Parser.{operand_precedence, Begun, begin, valued_of, valued_or, check_of, primitive, bare_of, with_frames, ◌>>=◌}
use Rattle.flt_lang.specs.inside.Parser.{token_precedence, next_precedence, as_number, as_truth, reduce, after_token, whole, finish, run, nodes_of_tokens}
use Rattle.flt_lang.specs.inside.Parser.{enclosed_operand, next_of, after_operand}
use Rattle.flt_lang.proofs.Stacked.{some_first, some_then, Stacked, Following, widened, either_number, either_truth, Between, number_between, truth_between}
use Rattle.flt_lang.proofs.Stacked.{chain_of, reduce_sound, loosened}
use Rattle.flt_lang.proofs.Valued.{left_after, qualifiers_sound, side_written, value_left, value_sound}
use Rattle.flt_lang.proofs.{ValuesBack.carried, Complete.complete}
use Rattle.flt_ast.{specs.inside.Nodes.tree_back, specs.inside.Nodes.IsTree, specs.Nodes.expr_nodes, specs.Nodes.tree_of, proofs.NodesBack.expr_turned}
use Rattle.flt_words.specs.declared.token.TokenKind.TheVariants as token
use Rattle.flt_ast.specs.declared.node.Node.TheVariants as node
use Rattle.flt_lang.specs.declared.frame.Frame.TheVariants as frame
use Rattle.flt_lang.specs.declared.frame.Operand.TheVariants as operand

-- what is read so far, with or without an operand
abbrev pub SoFar : Option Operand → List Frame → List Node → List TokenKind → List TokenKind → Type 0
SoFar None fs d start here = Stacked fs d start here
SoFar (Some x) fs d start here = Following 1 fs x d start here

-- it is still true after a step
abbrev pub After : Begun → List TokenKind → List TokenKind → Type 0
After r start ts = SoFar r.1.1 r.1.0 r.1.2 start (drop r.0 ts)

pub begun : (ts start : List TokenKind) (r s : Begun) → After r start ts → ◌≡◌ {A = Option Begun} (Some r) (Some s) → After s start ts
begun ts start r s b same = carried (λ r. After r start ts) b same

-- a complete truth
truth_begun : (t : TokenKind) (ts : List TokenKind) (fs : List Frame) (d : List Node) (start : List TokenKind) (r : Begun) (k : ℕ) (n : Node)
    (a : TruthTree) → Stacked fs d start (t ∷ ts) → Truth 0 (t ∷ ts) a (drop k ts) → n ∷ d ≡ truth_onto a d → ◌≡◌ {A = Option Begun}
    (Some (k, (fs, Some operand.Truth, n ∷ d))) (Some r) → After r start ts
truth_begun t ts fs d start r k n a stacked reads nodes h = search (arith, begun, inl)

check_sound : (t : TokenKind) (ts : List TokenKind) (fs : List Frame) (d : List Node) (start : List TokenKind) (r : Begun)
    → Stacked fs d start (t ∷ ts) → with_frames fs (check_of (t ∷ ts) d) ≡ Some r → After r start ts
check_sound (token.Protocol p) ts fs d start r stacked h =
    let (w, checked, is) = some_first (check_of (token.Protocol p ∷ ts) d) (λ r. Some (r.0, (fs, r.1, r.2))) r h in
    let (allowed, is_w) = some_then (stands_alone p) (Some (0, Some operand.Truth, node.Check p ∷ d)) w checked in
    truth_begun (token.Protocol p) ts fs d start r 0 (node.Check p) (check p) stacked (of_check allowed) refl (ap (with_frames fs) is_w ∙ is)
check_sound _ ts fs d start r stacked h = cc

valued_sound : (t : TokenKind) (ts : List TokenKind) (fs : List Frame) (d : List Node) (start : List TokenKind) (q : Qualifiers × Value × ℕ)
    → Stacked fs d start (t ∷ ts) → is_written (qualifiers_of (t ∷ ts)).0 ≡ true → valued_of (t ∷ ts) ≡ Some q → SoFar (Some operand.Truth) fs
    (node.Valued q.0 q.1 ∷ d) start (drop q.2 ts)
valued_sound t ts fs d start q stacked w h =
    let (v, value_is, is) = some_first (value_of (qualifiers_of (t ∷ ts)).1)
    (λ r. Some ((qualifiers_of (t ∷ ts)).0, r.0, length (t ∷ ts) - length r.1 - 1)) q h in
    let P : Qualifiers × Value × ℕ → Type 0 = λ q. SoFar (Some operand.Truth) fs (node.Valued q.0 q.1 ∷ d) start (drop q.2 ts) in
    let reads_qualifiers = qualifiers_sound (t ∷ ts) in
    let reads_value = value_sound (qualifiers_of (t ∷ ts)).1 v value_is in
    let rest_is = left_after t ts (qualifiers_of (t ∷ ts)).1 v.1 (qualifiers_of (t ∷ ts)).0 v.0 reads_qualifiers reads_value in
    let reads : Truth 0 (t ∷ ts) (valued (qualifiers_of (t ∷ ts)).0 v.0) (drop (length (t ∷ ts) - length v.1 - 1) ts) =
    subst (λ us. Truth 0 (t ∷ ts) (valued (qualifiers_of (t ∷ ts)).0 v.0) us) (sym rest_is) (of_valued reads_qualifiers w reads_value) in
    carried P (d, (t ∷ ts), stacked, (valued (qualifiers_of (t ∷ ts)).0 v.0, inl reads, refl)) is

primitive_or : (t : TokenKind) (ts : List TokenKind) (fs : List Frame) (d : List Node) (start : List TokenKind) (r : Begun)
    (o : Option (Qualifiers × Value × ℕ)) → valued_of (t ∷ ts) ≡ o → Stacked fs d start (t ∷ ts) → is_written (qualifiers_of (t ∷ ts)).0 ≡ true
    → with_frames fs (valued_or o (t ∷ ts) d) ≡ Some r → After r start ts
primitive_or t ts fs d start r None e stacked w h = check_sound t ts fs d start r stacked h
primitive_or t ts fs d start r (Some q) e stacked w h = search (arith, begun, valued_sound)

primitive_sound : (t : TokenKind) (ts : List TokenKind) (fs : List Frame) (d : List Node) (start : List TokenKind) (r : Begun)
    → Stacked fs d start (t ∷ ts) → is_written (qualifiers_of (t ∷ ts)).0 ≡ true → with_frames fs (primitive (t ∷ ts) d) ≡ Some r → After r start ts
primitive_sound t ts fs d start r stacked w h = search (arith, primitive_or)

bare_sound : (t : TokenKind) (ts : List TokenKind) (fs : List Frame) (d : List Node) (start : List TokenKind) (r : Begun)
    → Stacked fs d start (t ∷ ts) → with_frames fs (bare_of (t ∷ ts) d) ≡ Some r → After r start ts
bare_sound t ts fs d start r stacked h =
    let (w, found, is) = some_first (bare_of (t ∷ ts) d) (λ r. Some (r.0, (fs, r.1, r.2))) r h in
    let (v, value_is, is_w) = some_first (value_of (t ∷ ts)) (λ r. Some (length (t ∷ ts) - length r.1 - 1, Some operand.Truth, node.Bare r.0 ∷ d)) w found in
    let reads_value = value_sound (t ∷ ts) v value_is in
    let rest_is = value_left t ts v.1 v.0 reads_value in
    let reads : Truth 0 (t ∷ ts) (bare v.0) (drop (length (t ∷ ts) - length v.1 - 1) ts) = subst (λ us. Truth 0 (t ∷ ts) (bare v.0) us) (sym rest_is)
    (of_bare reads_value) in
    truth_begun t ts fs d start r (length (t ∷ ts) - length v.1 - 1) (node.Bare v.0) (bare v.0) stacked reads refl (ap (with_frames fs) is_w ∙ is)

protocol_sound : (p : Protocol) (ts : List TokenKind) (fs : List Frame) (d : List Node) (start : List TokenKind) (r : Begun)
    → Stacked fs d start (token.Protocol p ∷ ts) → begin (token.Protocol p ∷ ts) fs d ≡ Some r → After r start ts
protocol_sound p (token.OpenBracket ∷ ts) fs d start r stacked h = search (arith, some_then, begun)
protocol_sound p (token.Cast c ∷ ts) fs d start r stacked h =
    let (allowed, is) = some_then (has_casts p) (Some (1, (fs, Some operand.Truth, node.Cast (Some p) c ∷ d))) r h in
    truth_begun (token.Protocol p) (token.Cast c ∷ ts) fs d start r 1 (node.Cast (Some p) c) (cast (Some p) c) stacked (of_protocol_cast allowed) refl is
protocol_sound p ts fs d start r stacked h = primitive_sound (token.Protocol p) ts fs d start r stacked refl h

number_sound : (n : ℕ) (ts : List TokenKind) (fs : List Frame) (d : List Node) (start : List TokenKind) (r : Begun)
    → Stacked fs d start (token.Number n ∷ ts) → begin (token.Number n ∷ ts) fs d ≡ Some r → After r start ts
number_sound n (token.Mask ∷ token.Dotted a p ∷ ts) fs d start r stacked h = search (arith, bare_sound)
number_sound n ts fs d start r stacked h = search (arith, begun)

sized_sound : (s : Size) (ts : List TokenKind) (fs : List Frame) (d : List Node) (start : List TokenKind) (r : Begun)
    → Stacked fs d start (token.Size s ∷ ts) → begin (token.Size s ∷ ts) fs d ≡ Some r → After r start ts
sized_sound s (token.Number n ∷ ts) fs d start r stacked h = truth_begun (token.Size s) (token.Number n ∷ ts) fs d start r 1 (node.Sized s n)
    (sized s n) stacked of_sized refl h
sized_sound s _ fs d start r stacked h = cc

pub begin_sound : (t : TokenKind) (ts : List TokenKind) (fs : List Frame) (d : List Node) (start : List TokenKind) (r : Begun)
    → Stacked fs d start (t ∷ ts) → begin (t ∷ ts) fs d ≡ Some r → After r start ts
begin_sound (token.Protocol p) ts fs d start r stacked h = protocol_sound p ts fs d start r stacked h
begin_sound (token.Side s) ts fs d start r stacked h = search (arith, primitive_sound, side_written)
begin_sound (token.ValueType k) ts fs d start r stacked h = primitive_sound (token.ValueType k) ts fs d start r stacked refl h
begin_sound (token.Cast c) ts fs d start r stacked h = truth_begun (token.Cast c) ts fs d start r 0 (node.Cast None c) (cast None c) stacked of_cast refl h
begin_sound (token.Size s) ts fs d start r stacked h = sized_sound s ts fs d start r stacked h
begin_sound (token.Number n) ts fs d start r stacked h = number_sound n ts fs d start r stacked h
begin_sound (token.Dotted a p) ts fs d start r stacked h = bare_sound (token.Dotted a p) ts fs d start r stacked h
begin_sound (token.Ip6 a) ts fs d start r stacked h = bare_sound (token.Ip6 a) ts fs d start r stacked h
begin_sound (token.Mac a) ts fs d start r stacked h = bare_sound (token.Mac a) ts fs d start r stacked h
begin_sound (token.Range a b) ts fs d start r stacked h = bare_sound (token.Range a b) ts fs d start r stacked h
begin_sound token.Len ts fs d start r stacked h = begun ts start (0, (fs, Some operand.Number, node.Len ∷ d)) r
    (d, (token.Len ∷ ts), stacked, (0, len, zero-le, zero-le, zero-le, of_len, refl)) h
begin_sound (token.Name n) ts fs d start r stacked h = begun ts start (0, (fs, Some operand.Number, node.Named n ∷ d)) r
    (d, (token.Name n ∷ ts), stacked, (0, named n, zero-le, zero-le, zero-le, of_name, refl)) h
begin_sound token.Not ts fs d start r stacked h = search (arith, begun, some_then)
begin_sound (token.Operator Subtract) ts fs d start r stacked h = begun ts start (0, (frame.Negate ∷ fs, None, d)) r stacked h
begin_sound token.Open ts fs d start r stacked h = begun ts start (0, (frame.Open ∷ fs, None, d)) r stacked h
begin_sound _ ts fs d start r stacked h = cc

-- an operand in parentheses
enclosed_between : (m r q : ℕ) (x : Operand) (d e : List Node) (mid rest : List TokenKind) → Between m r x d e mid (token.Close ∷ rest)
    → Between 1 q (enclosed_operand x) d e (token.Open ∷ mid) rest
enclosed_between m r q operand.Number d e mid rest (k, a, in_reach, in_room, small, reads, nodes) =
    (0, a, zero-le, zero-le, zero-le, enclosed (widened k 4 mid (token.Close ∷ rest) a small reads), nodes)
enclosed_between m r q operand.Truth d e mid rest (a, reads, nodes) = (a, inl (enclosed_truth (chain_of reads)), nodes)
enclosed_between m r q (operand.Plain n) d e mid rest (is, nodes) =
    let reads = subst (λ ts. Number 0 ts (literal n) (token.Close ∷ rest)) (sym is) of_literal in
    let reads_truth = subst (λ ts. Truth 0 ts (either_truth n None) (token.Close ∷ rest)) (sym is) (of_bare (number no_mask)) in
    (0, zero-le, zero-le, zero-le, enclosed (widened 0 4 mid (token.Close ∷ rest) (literal n) zero-le reads), enclosed_truth (term reads_truth), nodes)
enclosed_between m r q (operand.Either n l) d e mid rest (k, in_reach, in_room, small, reads, reads_truth, nodes) =
    search (arith, zero-le, enclosed, widened, enclosed_truth, term)

-- the tokens after an operand
place_sound : (t : TokenKind) (ts : List TokenKind) (fs : List Frame) (x : Operand) (e : List Node) (start : List TokenKind) (r : Begun)
    → Following (next_precedence (t ∷ ts)) fs x e start (t ∷ ts) → after_token (t ∷ ts) fs x e ≡ Some r → After r start ts
place_sound (token.Operator o) ts fs x e start r (d, mid, stacked, between) h =
    let (roomy, placed_is) = some_then (nat_le (level o + 1) (operand_precedence fs)) (as_number x e >>= λ i. Some (0, (frame.Apply o ∷ fs, None, i))) r h in
    let (i, is_number, is_rest) = some_first (as_number x e) (λ i. Some (0, (frame.Apply o ∷ fs, None, i))) r placed_is in
    let n = number_between (level o + 1) (operand_precedence fs) x d e i mid (token.Operator o ∷ ts) between is_number in
    begun ts start (0, (frame.Apply o ∷ fs, None, i)) r (
      d,
      mid,
      n.tree,
      stacked,
      n.nodes,
      widened n.precedence_of (suc (level o)) mid
          (token.Operator o ∷ ts) n.tree (omega (arith, n.in_reach)) n.reads,
      leb-true _ _ roomy,
    ) is_rest
place_sound (token.Comparison c) ts fs x e start r (d, mid, stacked, between) h =
    let (roomy, placed_is) = some_then (nat_le 5 (operand_precedence fs)) (as_number x e >>= λ i. Some (0, (frame.Compare c ∷ fs, None, i))) r h in
    let (i, is_number, is_rest) = some_first (as_number x e) (λ i. Some (0, (frame.Compare c ∷ fs, None, i))) r placed_is in
    let n = number_between 5 (operand_precedence fs) x d e i mid (token.Comparison c ∷ ts) between is_number in
    begun ts start (0, (frame.Compare c ∷ fs, None, i)) r (
      d,
      mid,
      n.tree,
      stacked,
      n.nodes,
      widened n.precedence_of 4 mid (token.Comparison c ∷ ts)
          n.tree n.small n.reads,
    ) is_rest
place_sound (token.Join j) ts fs x e start r (d, mid, stacked, between) h =
    let (roomy, placed_is) = some_then (nat_le 7 (operand_precedence fs)) (as_truth x e >>= λ i. Some (0, (frame.Join j ∷ fs, None, i))) r h in
    let (i, is_truth, is_rest) = some_first (as_truth x e) (λ i. Some (0, (frame.Join j ∷ fs, None, i))) r placed_is in
    let t = truth_between 7 (operand_precedence fs) x d e i mid (token.Join j ∷ ts) between is_truth in
    begun ts start (0, (frame.Join j ∷ fs, None, i)) r (d, mid, t.tree, stacked, t.nodes, chain_of t.reads, leb-true _ _ roomy) is_rest
place_sound token.Close ts (frame.Open ∷ fs) x e start r (d, mid, stacked, between) h = search (arith, begun, enclosed_between)
place_sound token.CloseBracket ts (frame.Load p ∷ fs) x e start r (d, mid, (allowed, stacked), between) h =
    let (i, is_number, is_rest) = some_first (as_number x e) (λ i. Some (0, (fs, Some operand.Number, node.Load p 1 ∷ i))) r h in
    let n = number_between 8 4 x d e i mid (token.CloseBracket ∷ ts) between is_number in
    begun ts start (0, (fs, Some operand.Number, node.Load p 1 ∷ i)) r (
      d,
      (token.Protocol p ∷ token.OpenBracket ∷ mid),
      stacked,
      (
        0,
        load p 1 n.tree,
        zero-le,
        zero-le,
        zero-le,
        of_load allowed (widened n.precedence_of 4 mid (token.CloseBracket ∷ ts) n.tree n.small
            n.reads),
        ap (λ l. node.Load p 1 ∷ l) n.nodes,
      ),
    ) is_rest
place_sound token.Colon (token.Number s ∷ token.CloseBracket ∷ ts) (frame.Load p ∷ fs) x e start r (d, mid, (allowed, stacked), between) h =
    let (i, is_number, is_rest) = some_first (as_number x e) (λ i. Some (2, (fs, Some operand.Number, node.Load p s ∷ i))) r h in
    let n = number_between 8 4 x d e i mid (token.Colon ∷ token.Number s ∷ token.CloseBracket ∷ ts) between is_number in
    begun (token.Number s ∷ token.CloseBracket ∷ ts) start (2, (fs, Some operand.Number, node.Load p s ∷ i)) r (
      d,
      (token.Protocol p ∷ token.OpenBracket ∷ mid),
      stacked,
      (
        0,
        load p s n.tree,
        zero-le,
        zero-le,
        zero-le,
        of_sized_load allowed (widened n.precedence_of 4 mid (token.Colon ∷ token.Number s ∷ token.CloseBracket ∷ ts) n.tree n.small n.reads),
        ap (λ l. node.Load p s ∷ l) n.nodes,
      ),
    ) is_rest
place_sound _ ts fs x e start r b h = cc

reach_some : (t : TokenKind) → 1 ≤ token_precedence t
reach_some (token.Operator o) = omega arith
reach_some _ = lit≤ tt

-- once the tight frames have taken the operand
next_sound : (t : TokenKind) (ts : List TokenKind) (fs : List Frame) (x : Operand) (d : List Node) (start : List TokenKind) (r : Begun)
    → SoFar (Some x) fs d start (t ∷ ts) → next_of (t ∷ ts) fs x d ≡ Some r → After r start ts
next_sound t ts fs x d start r (e, mid, stacked, between) h =
    let (q, settles, places) = some_first (reduce (token_precedence t) fs x d) (λ q. after_token (t ∷ ts) q.0 q.1 q.2) r h in
    let reduced = reduce_sound (token_precedence t) fs x d start (t ∷ ts) q (
      e,
      mid,
      stacked,
      loosened (token_precedence t) (operand_precedence fs) x
          e d mid (t ∷ ts) (reach_some t) between,
    ) settles in
    place_sound t ts q.0 q.1 q.2 start r reduced places

-- a plain number and a length
prefix_sound : (n m : ℕ) (ts : List TokenKind) (fs : List Frame) (d : List Node) (start : List TokenKind) → 1 ≤ operand_precedence fs
    → SoFar (Some (operand.Plain n)) fs d start (token.Operator Divide ∷ token.Number m ∷ ts) → SoFar (Some (operand.Either n (Some m))) fs d start ts
prefix_sound n m ts fs d start roomy (e, mid, stacked, (is, nodes)) =
    let reads = subst (λ us. Number 1 us (either_number n (Some m)) ts) (sym is) (chain (single of_literal) refl of_literal) in
    let reads_truth = subst (λ us. Truth 0 us (either_truth n (Some m)) ts) (sym is) (of_bare (number prefix)) in
    (e, mid, stacked, (1, lit≤ tt, roomy, lit≤ tt, reads, reads_truth, nodes))

go_on_sound : (t : TokenKind) (ts : List TokenKind) (fs : List Frame) (x : Operand) (d : List Node) (start : List TokenKind) (r : Begun)
    → SoFar (Some x) fs d start (t ∷ ts) → after_operand (t ∷ ts) fs x d ≡ Some r → After r start ts
go_on_sound (token.Operator Divide) (token.Number m ∷ ts) fs (operand.Plain n) d start r b h =
    go (nat_le 1 (operand_precedence fs)) refl h
  where
    go : (q : Bool) → nat_le 1 (operand_precedence fs) ≡ q → ◌≡◌ {A = Option Begun} (if q then Some (1, (fs, Some (operand.Either n (Some m)), d))
        else next_of (token.Operator Divide ∷ token.Number m ∷ ts) fs (operand.Plain n) d) (Some r) → After r start (token.Number m ∷ ts)
    go true roomy h = begun (token.Number m ∷ ts) start (1, (fs, Some (operand.Either n (Some m)), d)) r
        (prefix_sound n m ts fs d start (leb-true _ _ roomy) b) h
    go false tight h = next_sound (token.Operator Divide) (token.Number m ∷ ts) fs (operand.Plain n) d start r b h
go_on_sound t ts fs (operand.Plain n) d start r b h = next_sound t ts fs (operand.Plain n) d start r b h
go_on_sound t ts fs x d start r b h = next_sound t ts fs x d start r b h

-- the tokens are read as a tree with these nodes
abbrev pub Found : List TokenKind → List Node → Type 0
Found start out = (tree : Expression) × IsReadAs start tree × (out ≡ expr_onto tree)

whole_sound : (fs : List Frame) (x : Operand) (e : List Node) (start : List TokenKind) (out : List Node) → Following 8 fs x e start []
    → whole fs x e ≡ Some out → Found start out
whole_sound [] x e start out (d, mid, (start_is, d_is), between) h =
    let t = truth_between 8 7 x d e out mid [] between h in
    (truth t.tree, all_tokens (subst (λ ts. Truth 1 ts t.tree []) (sym start_is) (chain_of t.reads)), t.nodes ∙ ap (λ l. truth_onto t.tree l) d_is)
whole_sound (f ∷ fs) x e start out b h = cc

finish_sound : (fs : List Frame) (x : Option Operand) (d : List Node) (start : List TokenKind) (out : List Node) → SoFar x fs d start []
    → finish x fs d ≡ Some out → Found start out
finish_sound fs None d start out b h = cc
finish_sound fs (Some x) d start out (e, mid, stacked, between) h =
    let (r, settles, is_whole) = some_first (reduce 8 fs x d) (λ r. whole r.0 r.1 r.2) out h in
    whole_sound r.0 r.1 r.2 start out
    (reduce_sound 8 fs x d start [] r (e, mid, stacked, loosened 8 (operand_precedence fs) x e d mid [] (lit≤ tt) between) settles) is_whole

run_sound : (ts : List TokenKind) (k : ℕ) (fs : List Frame) (x : Option Operand) (d : List Node) (start : List TokenKind) (out : List Node)
    → SoFar x fs d start (drop k ts) → run ts k fs x d ≡ Some out → Found start out
run_sound [] zero fs x d start out b h = finish_sound fs x d start out b h
run_sound [] (suc k) fs x d start out b h = finish_sound fs x d start out b h
run_sound (t ∷ ts) (suc k) fs x d start out b h = run_sound ts k fs x d start out b h
run_sound (t ∷ ts) zero fs None d start out b h =
    let (r, begins, runs) = some_first (begin (t ∷ ts) fs d) (λ r. run ts r.0 r.1.0 r.1.1 r.1.2) out h in
    run_sound ts r.0 r.1.0 r.1.1 r.1.2 start out (begin_sound t ts fs d start r b begins) runs
run_sound (t ∷ ts) zero fs (Some x) d start out b h =
    let (r, goes, runs) = some_first (after_operand (t ∷ ts) fs x d) (λ r. run ts r.0 r.1.0 r.1.1 r.1.2) out h in
    run_sound ts r.0 r.1.0 r.1.1 r.1.2 start out (go_on_sound t ts fs x d start r b goes) runs

-- what the machine gives are the nodes of a tree of the tokens
pub sound : (tokens : List TokenKind) (out : List Node) → nodes_of_tokens tokens ≡ Some out → Found tokens out
sound [] out h = (empty, no_tokens, cc)
sound (t ∷ ts) out h = run_sound (t ∷ ts) 0 [] None [] (t ∷ ts) out (refl, refl) h

-- where the machine fails there is no tree
pub no_tree : (tokens : List TokenKind) → nodes_of_tokens tokens ≡ None → (tree : Expression) → IsReadAs tokens tree → ⊥
no_tree tokens h tree reads = let e = complete reads in cc

-- where it gives nodes, they are those of a tree
tree_found : (tokens : List TokenKind) (nodes : List Node) → nodes_of_tokens tokens ≡ Some nodes → (tree : Expression) × IsReadAs tokens tree
    × (reverse nodes ≡ expr_nodes tree)
tree_found tokens nodes h = search (arith, sound, expr_turned)

pub found_is_tree : (tokens : List TokenKind) (nodes : List Node) → nodes_of_tokens tokens ≡ Some nodes → IsTree (reverse nodes)
found_is_tree tokens nodes h = search (arith, tree_found, tree_back)

pub found_reads : (tokens : List TokenKind) (nodes : List Node) → nodes_of_tokens tokens ≡ Some nodes → IsReadAs tokens (tree_of (reverse nodes))
found_reads tokens nodes h = search (arith, tree_found, tree_back)

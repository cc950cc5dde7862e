-- The parser reads whatever the grammar reads.
use Rattle.std.proofs.Common.{◌≡◌, ◌≢◌, ℕ, ◌+◌, ◌<◌, ◌≤◌, List, [], ◌∷◌, refl, sym, ◌∙◌, subst, ◌⊎◌, inl, inr, ⊎_elim, arith, Some, None, true, lit≤}
use Rattle.flt_lang.proofs.Common.{Protocol, Operator, Divide, Join, TokenKind, Value, Node, Frame, Operand, number_onto, truth_onto, expr_onto, Sort}
use Rattle.flt_ast.specs.Tree.{NumberTree, literal, TruthTree, bare, Expression}
use Rattle.flt_lang.specs.Values.{no_mask, prefix, ReadsValue, number}
use Rattle.flt_lang.specs.Grammar.{level, is_accessor, stands_alone, has_casts, Number, of_literal, of_len, of_name, enclosed, of_load, of_sized_load, minus}
use Rattle.flt_lang.specs.Grammar.{single, chain, Truth, of_check, of_cast, of_protocol_cast, of_sized, of_valued, of_bare, relation, denial, enclosed_truth}
use Rattle.flt_lang.specs.Grammar.{term, terms, IsReadAs, no_tokens, all_tokens}
use Rattle.flt_lang.specs.inside.Parser.{precedence, operand_precedence, next_precedence, as_number, as_truth, as_sort, fill_frame, run, nodes_of_tokens}
use Rattle.flt_lang.specs.inside.Parser.{enclosed_operand, number_with_prefix, next_of, after_operand, IsLoose}
use Rattle.flt_lang.proofs.Valued.{IsNoMask, no_mask_at, plain_runs, value_runs, valued_runs}
use Rattle.flt_words.specs.declared.token.{Cast.Cast, Comparison.Comparison}
use Rattle.flt_lang.proofs.{Reducing.le_true, Reducing.le_false, Reducing.reduce_stays, ValuesBack.level_small}
use Rattle.flt_words.specs.declared.token.TokenKind.TheVariants as token
use Rattle.flt_ast.specs.declared.node.Node.TheVariants as node
use Rattle.flt_lang.specs.declared.frame.Frame.TheVariants as frame
use Rattle.flt_lang.specs.declared.frame.Operand.TheVariants as operand

-- a frame as tight as a division has no room for one
tight_operand : (f : Frame) (fs : List Frame) → precedence f ≤ 1 → operand_precedence (f ∷ fs) < 1
tight_operand frame.Negate fs h = omega arith
tight_operand (frame.Apply o) fs h = omega arith
tight_operand _ fs h = absurd (omega arith)

-- after a frame that the next token makes took its operand, no value continues it
no_prefix : (x : Operand) (ts : List TokenKind) (f : Frame) (fs : List Frame) (d : List Node) → precedence f ≤ next_precedence ts
    → after_operand ts (f ∷ fs) x d ≡ next_of ts (f ∷ fs) x d
no_prefix (operand.Plain n) (token.Operator Divide ∷ token.Number m ∷ ts) f fs d h = search (arith, le_false, tight_operand)
no_prefix _ _ f fs d h = refl

-- a frame that binds as tightly as the next token takes the operand
take_frame : (f : Frame) (fs : List Frame) (x y : Operand) (d e : List Node) (ts : List TokenKind) → precedence f ≤ next_precedence ts
    → fill_frame f x d ≡ Some (y, e) → number_with_prefix y ts ≡ None → run ts 0 (f ∷ fs) (Some x) d ≡ run ts 0 fs (Some y) e
take_frame f fs x y d e [] h filled other = rw (le_true (precedence f) 8 h, filled)
take_frame f fs x y d e (t ∷ ts) h filled other = search (arith, no_prefix, le_true)

-- frames with room for an operand as loose as m are looser; no token is as loose as a denial
loose : (m : ℕ) (fs : List Frame) → 1 ≤ m → m ≢ 6 → m ≤ operand_precedence fs → IsLoose m fs
loose m [] some other h = tt
loose m (frame.Negate ∷ fs) some other h = absurd (omega arith)
loose m _ some other h = omega arith

operator_step : (o : Operator) (ts : List TokenKind) (fs : List Frame) (x : Operand) (d e : List Node) → level o + 1 ≤ operand_precedence fs
    → as_number x d ≡ Some e → number_with_prefix x (token.Operator o ∷ ts) ≡ None → run (token.Operator o ∷ ts) 0 fs (Some x) d ≡ run ts 0
    (frame.Apply o ∷ fs) None e
operator_step o ts fs x d e h is_num other = search (arith, loose, level_small, reduce_stays, le_true)

-- only an operator makes a value go on
abbrev IsNoOperator : TokenKind → Type 0
IsNoOperator (token.Operator o) = ⊥
IsNoOperator _ = Unit {0}

no_prefix_at : (t : TokenKind) (ts : List TokenKind) (x : Operand) → IsNoOperator t → number_with_prefix x (t ∷ ts) ≡ None
no_prefix_at (token.Operator o) ts (operand.Plain n) h = absurd h
no_prefix_at _ ts (operand.Plain n) h = refl
no_prefix_at t ts _ h = refl

comparison_step : (c : Comparison) (ts : List TokenKind) (fs : List Frame) (x : Operand) (d e : List Node) → 6 ≤ operand_precedence fs
    → as_number x d ≡ Some e → run (token.Comparison c ∷ ts) 0 fs (Some x) d ≡ run ts 0 (frame.Compare c ∷ fs) None e
comparison_step c ts fs x d e h is_num = search (arith, no_prefix_at, reduce_stays, loose, le_true)

join_step : (j : Join) (ts : List TokenKind) (fs : List Frame) (x : Operand) (d e : List Node) → 7 ≤ operand_precedence fs → as_truth x d ≡ Some e
    → run (token.Join j ∷ ts) 0 fs (Some x) d ≡ run ts 0 (frame.Join j ∷ fs) None e
join_step j ts fs x d e h truth = search (arith, no_prefix_at, reduce_stays, loose, le_true)

-- the machine comes from the tokens ts with nothing read to rest with an operand that is the
-- number, or the truth
record Reaches (s : Sort) (ts : List TokenKind) (fs : List Frame) (d : List Node) (e : List Node) (rest : List TokenKind) : Type 0 where
  operand : Operand
  nodes : List Node
  runs : run ts 0 fs None d ≡ run rest 0 fs (Some operand) nodes
  value : as_sort s operand nodes ≡ Some e

close_step : (ts : List TokenKind) (fs : List Frame) (x : Operand) (d : List Node) → run (token.Close ∷ ts) 0 (frame.Open ∷ fs) (Some x) d ≡ run ts 0
    fs (Some (enclosed_operand x)) d
close_step ts fs (operand.Plain n) d = refl
close_step ts fs _ d = refl

enclosed_value : (s : Sort) (x : Operand) (d : List Node) → as_sort s (enclosed_operand x) d ≡ as_sort s x d
enclosed_value Sort.Number (operand.Plain n) d = refl
enclosed_value Sort.Truth (operand.Plain n) d = refl
enclosed_value _ _ d = refl

bracket_step : (p : Protocol) (ts : List TokenKind) (fs : List Frame) (x : Operand) (d e : List Node) → as_number x d ≡ Some e
    → run (token.CloseBracket ∷ ts) 0 (frame.Load p ∷ fs) (Some x) d ≡ run ts 0 fs (Some operand.Number) (node.Load p 1 ∷ e)
bracket_step p ts fs x d e is_num = rw (no_prefix_at token.CloseBracket ts x tt, is_num)

colon_step : (p : Protocol) (n : ℕ) (ts : List TokenKind) (fs : List Frame) (x : Operand) (d e : List Node) → as_number x d ≡ Some e
    → run (token.Colon ∷ token.Number n ∷ token.CloseBracket ∷ ts) 0 (frame.Load p ∷ fs) (Some x) d ≡ run ts 0 fs (Some operand.Number) (node.Load p n ∷ e)
colon_step p n ts fs x d e is_num = search (arith, no_prefix_at)

-- where a bracket may follow
load_step : (p : Protocol) (ts : List TokenKind) (fs : List Frame) (d : List Node) → is_accessor p ≡ true
    → run (token.Protocol p ∷ token.OpenBracket ∷ ts) 0 fs None d ≡ run ts 0 (frame.Load p ∷ fs) None d
load_step p ts fs d h = rw h refl

-- a plain number with a division by a number is a value, and else an operator is an operator
record IsPrefix (o : Operator) (ts : List TokenKind) (x : Operand) : Type 0 where
  number : ℕ
  len_of : ℕ
  rest : List TokenKind
  divides : o ≡ Divide
  tokens : ts ≡ token.Number len_of ∷ rest
  plain : x ≡ operand.Plain number

prefix_or_not : (o : Operator) (ts : List TokenKind) (x : Operand) → IsPrefix o ts x ⊎ (number_with_prefix x (token.Operator o ∷ ts) ≡ None)
prefix_or_not Divide (token.Number m ∷ ts) (operand.Plain n) = search (arith, inl)
prefix_or_not _ _ (operand.Plain n) = inr refl
prefix_or_not _ _ _ = inr refl

-- a unary that begins with a number is that number
record IsLiteral (m : ℕ) (b : NumberTree) (rest here : List TokenKind) : Type 0 where
  tree : b ≡ literal m
  left : rest ≡ here

literal_first : {k : ℕ} {ts rest : List TokenKind} {b : NumberTree} → Number k ts b rest → (m : ℕ) (here : List TokenKind) → k ≡ 0
    → ts ≡ token.Number m ∷ here → IsLiteral m b rest here
literal_first of_literal m here unary tokens = record { tree = cc; left = cc }
literal_first (single inner) m here unary tokens = absurd (omega arith)
literal_first (chain left at_level right) m here unary tokens = absurd (omega arith)
literal_first _ m here unary tokens = cc

prefix_step : (n m : ℕ) (ts : List TokenKind) (fs : List Frame) (d : List Node) → 1 ≤ operand_precedence fs
    → run (token.Operator Divide ∷ token.Number m ∷ ts) 0 fs (Some (operand.Plain n)) d ≡ run ts 0 fs (Some (operand.Either n (Some m))) d
prefix_step n m ts fs d h = rw (le_true 1 (operand_precedence fs) h)

-- a number and a length after it, read as a value
as_prefix : (o : Operator) (ts mid rest : List TokenKind) (fs : List Frame) (d e nodes : List Node) (x : Operand) (b : NumberTree)
    → run ts 0 fs None d ≡ run (token.Operator o ∷ mid) 0 fs (Some x) nodes → as_number x nodes ≡ Some e → Number (level o) mid b rest
    → 1 ≤ operand_precedence fs → IsPrefix o mid x → Reaches Sort.Number ts fs d (node.Apply o ∷ number_onto b e) rest
as_prefix o ts mid rest fs d e nodes x b runs is_num right roomy is = search (arith, literal_first, literal, prefix_step)

reads_number : {k : ℕ} {ts rest : List TokenKind} {a : NumberTree} → Number k ts a rest → (fs : List Frame) (d : List Node) → k ≤ operand_precedence
    fs → k ≤ next_precedence rest → IsNoMask rest → Reaches Sort.Number ts fs d (number_onto a d) rest
reads_number (of_literal {n = n} {rest = rest}) fs d roomy reaches unmasked =
    record { operand = operand.Plain n; nodes = d; runs = plain_runs n rest fs d unmasked; value = refl }
reads_number of_len fs d roomy reaches unmasked = record { operand = operand.Number; nodes = node.Len ∷ d; runs = refl; value = refl }
reads_number of_name fs d roomy reaches unmasked = record { operand = operand.Number; nodes = node.Named _ ∷ d; runs = refl; value = refl }
reads_number (enclosed {rest = rest} inner) fs d roomy reaches unmasked =
    search (arith, close_step, enclosed_value, (reads_number inner (frame.Open ∷ fs) d (lit≤ tt) (lit≤ tt) tt))
reads_number (of_load {p = p} {ts = ts} {rest = rest} accessor inner) fs d roomy reaches unmasked =
    search (arith, load_step, bracket_step, (reads_number inner (frame.Load p ∷ fs) d (lit≤ tt) (lit≤ tt) tt))
reads_number (of_sized_load {p = p} {n = n} {ts = ts} {rest = rest} accessor inner) fs d roomy reaches unmasked =
    search (arith, load_step, colon_step, (reads_number inner (frame.Load p ∷ fs) d (lit≤ tt) (lit≤ tt) tt))
reads_number (minus inner) fs d roomy reaches unmasked =
    let r = reads_number inner (frame.Negate ∷ fs) d (lit≤ tt) reaches unmasked in
    record { operand = operand.Number; nodes = _; runs = r.runs ∙ take_frame frame.Negate fs _ _ _ _ _ reaches (rw r.value refl) refl; value = refl }
reads_number (single inner) fs d roomy reaches unmasked = reads_number inner fs d (omega arith) (omega arith) unmasked
reads_number (chain {k = k} {ts = ts} {mid = mid} {rest = rest} {a = a} {b = b} {o = o} left at_level right) fs d roomy reaches unmasked =
    let l = reads_number left fs d roomy (omega arith) tt in
    let r = reads_number right (frame.Apply o ∷ fs) (number_onto a d) (omega arith) (omega arith) unmasked in
    ⊎_elim
    (λ is. as_prefix o ts mid rest fs d (number_onto a d) l.nodes l.operand b l.runs l.value (subst (λ i. Number i mid b rest) (sym at_level) right)
    (omega arith) is)
    (λ other. record {
      operand = operand.Number;
      nodes = node.Apply o ∷ number_onto b (number_onto a d);
      runs = l.runs ∙ operator_step o mid fs l.operand l.nodes (number_onto a d) (omega arith) l.value other ∙ r.runs ∙ take_frame (frame.Apply o) fs
          r.operand operand.Number r.nodes (node.Apply o ∷ number_onto b (number_onto a d)) rest (omega arith) (rw r.value refl) refl;
      value = refl;
    })
    (prefix_or_not o mid l.operand)

-- a protocol with what may follow a truth after it is a check
check_runs : (p : Protocol) (rest : List TokenKind) (fs : List Frame) (d : List Node) → stands_alone p ≡ true → 6 ≤ next_precedence rest
    → run (token.Protocol p ∷ rest) 0 fs None d ≡ run rest 0 fs (Some operand.Truth) (node.Check p ∷ d)
check_runs p [] fs d is h = rw is refl
check_runs p (token.Join j ∷ ts) fs d is h = rw is refl
check_runs p (token.Close ∷ ts) fs d is h = rw is refl
check_runs p (token.CloseBracket ∷ ts) fs d is h = rw is refl
check_runs p (token.Colon ∷ ts) fs d is h = rw is refl
check_runs p (token.Operator o ∷ ts) fs d is h = absurd (omega (arith, level_small o))
check_runs p (_ ∷ ts) fs d is h = absurd (omega arith)

cast_runs : (p : Protocol) (c : Cast) (rest : List TokenKind) (fs : List Frame) (d : List Node) → has_casts p ≡ true
    → run (token.Protocol p ∷ token.Cast c ∷ rest) 0 fs None d ≡ run rest 0 fs (Some operand.Truth) (node.Cast (Some p) c ∷ d)
cast_runs p c rest fs d is = rw is refl

not_step : (ts : List TokenKind) (fs : List Frame) (d : List Node) → 6 ≤ operand_precedence fs → run (token.Not ∷ ts) 0 fs None d ≡ run ts 0
    (frame.Not ∷ fs) None d
not_step ts fs d h = rw (le_true 6 (operand_precedence fs) h)

whole_truth : {ts rest : List TokenKind} {fs : List Frame} {d e : List Node} → run ts 0 fs None d ≡ run rest 0 fs (Some operand.Truth) e
    → Reaches Sort.Truth ts fs d e rest
whole_truth runs = search arith

reads_bare : {ts rest : List TokenKind} {v : Value} → ReadsValue ts v rest → (fs : List Frame) (d : List Node) → 6 ≤ operand_precedence fs
    → 6 ≤ next_precedence rest → Reaches Sort.Truth ts fs d (truth_onto (bare v) d) rest
reads_bare (number {n = n} {rest = rest} no_mask) fs d roomy reaches =
    record { operand = operand.Plain n; nodes = d; runs = plain_runs n rest fs d (no_mask_at rest (omega arith)); value = refl }
reads_bare (number {n = n} {rest = rest} (prefix {m = m})) fs d roomy reaches = record {
  operand = operand.Either n (Some m);
  nodes = d;
  runs =
      prefix_step n m rest fs d (omega arith);
  value = refl;
}
reads_bare v fs d roomy reaches = whole_truth (value_runs v refl fs d reaches)

reads_truth : {k : ℕ} {ts rest : List TokenKind} {a : TruthTree} → Truth k ts a rest → (fs : List Frame) (d : List Node) → k + 6 ≤ operand_precedence
    fs → k + 6 ≤ next_precedence rest → Reaches Sort.Truth ts fs d (truth_onto a d) rest
reads_truth (of_check {p = p} {rest = rest} is) fs d roomy reaches = whole_truth (check_runs p rest fs d is reaches)
reads_truth of_cast fs d roomy reaches = whole_truth refl
reads_truth (of_protocol_cast {p = p} {c = c} {rest = rest} is) fs d roomy reaches = whole_truth (cast_runs p c rest fs d is)
reads_truth of_sized fs d roomy reaches = whole_truth refl
reads_truth (of_valued qs written vs) fs d roomy reaches = whole_truth (valued_runs qs written vs fs d reaches)
reads_truth (of_bare vs) fs d roomy reaches = reads_bare vs fs d roomy reaches
reads_truth (relation {c = c} {mid = mid} {rest = rest} {a = a} {b = b} left right) fs d roomy reaches =
    let l = reads_number left fs d (omega arith) (lit≤ tt) tt in
    let r = reads_number right (frame.Compare c ∷ fs) (number_onto a d) (lit≤ tt) (omega arith) (no_mask_at rest (omega arith)) in
    record {
      operand = operand.Truth;
      nodes = node.Compare c ∷ number_onto b (number_onto a d);
      runs = l.runs ∙ comparison_step c mid fs l.operand l.nodes (number_onto a d) roomy l.value ∙ r.runs ∙ take_frame (frame.Compare c) fs r.operand
          operand.Truth r.nodes (node.Compare c ∷ number_onto b (number_onto a d)) rest (omega arith) (rw r.value refl) refl;
      value = refl;
    }
reads_truth (denial {ts = ts} {rest = rest} {a = a} inner) fs d roomy reaches =
    let r = reads_truth inner (frame.Not ∷ fs) d (lit≤ tt) reaches in
    record {
      operand = operand.Truth;
      nodes = node.Not ∷ truth_onto a d;
      runs = not_step ts fs d roomy ∙ r.runs ∙ take_frame frame.Not fs r.operand
          operand.Truth r.nodes (node.Not ∷ truth_onto a d) rest reaches (rw r.value refl) refl;
      value = refl;
    }
reads_truth (enclosed_truth {rest = rest} inner) fs d roomy reaches =
    search (arith, close_step, enclosed_value, (reads_truth inner (frame.Open ∷ fs) d (lit≤ tt) (lit≤ tt)))
reads_truth (term inner) fs d roomy reaches = reads_truth inner fs d (omega arith) (omega arith)
reads_truth (terms {mid = mid} {rest = rest} {a = a} {b = b} {j = j} left right) fs d roomy reaches =
    let l = reads_truth left fs d roomy (lit≤ tt) in
    let r = reads_truth right (frame.Join j ∷ fs) (truth_onto a d) (lit≤ tt) (omega arith) in
    record {
      operand = operand.Truth;
      nodes = node.Join j ∷ truth_onto b (truth_onto a d);
      runs = l.runs ∙ join_step j mid fs l.operand l.nodes (truth_onto a d) roomy l.value ∙ r.runs ∙ take_frame (frame.Join j) fs r.operand
          operand.Truth r.nodes (node.Join j ∷ truth_onto b (truth_onto a d)) rest reaches (rw r.value refl) refl;
      value = refl;
    }

-- the machine reads each expression, and gives the nodes of its tree
pub complete : {tokens : List TokenKind} {tree : Expression} → IsReadAs tokens tree → nodes_of_tokens tokens ≡ Some (expr_onto tree)
complete no_tokens = refl
complete (all_tokens {ts = []} reads) =
    let r = reads_truth reads [] [] (lit≤ tt) (lit≤ tt) in
    let no = r.runs ∙ r.value in
    cc
complete (all_tokens {ts = t ∷ ts} reads) =
    let r = reads_truth reads [] [] (lit≤ tt) (lit≤ tt) in
    r.runs ∙ r.value

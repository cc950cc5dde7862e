-- What each step of the reader's loop needs to be a step of the defined parser.
use Rattle.std.proofs.Common.{◌≡◌, ℕ, ◌+◌, ◌-◌, ◌<◌, ◌≤◌, ◌⊎◌, inl, inr, List, [], ◌∷◌, length, take, drop, get_or, ap, arith, Some, None, one-add, sym, ◌∙◌}
use Rattle.std.proofs.Common.{refl, Option, ◌==◌, slice_get, false, Result, Ok, Err, IfErr, IsErrAnd}
use Rattle.flt_lang.proofs.Common.{TokenKind, Value, Node, Frame, Operand, NetMask, Divide, Either}
use Rattle.flt_lang.specs.Grammar.{kinds_of}
use Rattle.flt_lang.specs.inside.Values.{value_of, mask_of, Takes, prefix_of}
use Rattle.flt_lang.specs.inside.Parser.{State, run, after_operand, begin_at, next_of, number_with_prefix, operand_precedence, token_precedence, reduce}
use Rattle.flt_lang.specs.inside.Parser.{Reduced, ◌>>=◌, nodes_of_tokens, finish, as_truth, IsReadFault, Reads, with_prefix, after_token_at}
use Rattle.flt_words.specs.declared.{token.Token.Token, fault.ExprFault.ExprFault}
use Rattle.std.proofs.lemmas.{List.take_rest, List.drop-map, List.drop-drop, List.drop_all, Result.err_from_is_err_and}
use Rattle.flt_lang.proofs.{Reducing.le_true, Reducing.le_false, Valued.run_begins, Valued.run_skip}
use Rattle.flt_words.specs.declared.token.TokenKind.TheVariants as token

-- the first token and those after it are all
pub first_and_rest : (ts : List Token) (t : Token) → 0 < length ts → (get_or ts 0 t).kind ∷ kinds_of (take (length ts - 1) (drop 1 ts)) ≡ kinds_of ts
first_and_rest [] t h = absurd (omega arith)
first_and_rest (u ∷ ts) t h = ap (λ us. u.kind ∷ kinds_of us) (take_rest (u ∷ ts) 1)

-- a value is read from them all
pub found_value : (ts : List Token) (t : Token) (v : Value) (k : ℕ) → 0 < length ts
    → value_of ((get_or ts 0 t).kind ∷ kinds_of (take (length ts - 1) (drop 1 ts))) ≡ Some (v, kinds_of (drop k (take (length ts - 1) (drop 1 ts))))
    → value_of (kinds_of ts) ≡ Some (v, kinds_of (drop (1 + k) ts))
found_value [] t v k h e = absurd (omega arith)
found_value (u ∷ ts) t v k h e = rw one-add (rw (take_rest (u ∷ ts) 1) at e)

-- or there is none
pub no_value : (ts : List Token) (t : Token) → 0 < length ts → value_of ((get_or ts 0 t).kind ∷ kinds_of (take (length ts - 1) (drop 1 ts))) ≡ None
    → value_of (kinds_of ts) ≡ None
no_value ts t h e = rw (first_and_rest ts t h) at e

-- what comes after an operand
pub run_goes_on : (ts : List Token) (t : Token) (fs : List Frame) (x : Operand) (d : List Node) (k : ℕ) (s : State) → 0 < length ts
    → after_operand ((get_or ts 0 t).kind ∷ kinds_of (take (length ts - 1) (drop 1 ts))) fs x d ≡ Some (k, s) → run (kinds_of ts) 0 fs (Some x) d ≡
    run (kinds_of (drop (1 + k) ts)) 0 s.0 s.1 s.2
run_goes_on [] t fs x d k s h e = absurd (omega arith)
run_goes_on (u ∷ ts) t fs x d k s h e =
    let goes : after_operand (kinds_of (u ∷ ts)) fs x d ≡ Some (k, s) = ap (λ us. after_operand us fs x d) (sym (first_and_rest (u ∷ ts) t h)) ∙ e in
    rw (goes, one-add, ← drop-map) (run_skip (kinds_of ts) k s.0 s.1 s.2)

-- where an operand begins
pub run_begins_on : (ts : List Token) (t : Token) (fs : List Frame) (d : List Node) (k : ℕ) (s : State) → 0 < length ts
    → begin_at (get_or ts 0 t).kind (kinds_of ts) fs d ≡ Some (k, s) → run (kinds_of ts) 0 fs None d ≡ run (kinds_of (drop (1 + k) ts)) 0 s.0 s.1 s.2
run_begins_on [] t fs d k s h e = absurd (omega arith)
run_begins_on (u ∷ ts) t fs d k s h e = rw (one-add, ← drop-map) (run_begins (kinds_of (u ∷ ts)) fs d k s (omega arith) e)

-- reading the remaining tokens is reading those after the step
pub runs_on : (ts : List Token) (at used : ℕ) (fs gs : List Frame) (x y : Option Operand) (d e : List Node) (all : Option (List Node))
    → run (kinds_of (take (length ts - at) (drop at ts))) 0 fs x d ≡ run (kinds_of (drop used (take (length ts - at) (drop at ts)))) 0 gs y e
    → run (kinds_of (drop at ts)) 0 fs x d ≡ all → run (kinds_of (drop (at + used) ts)) 0 gs y e ≡ all
runs_on ts at used fs gs x y d e all step before = search (arith, take_rest, drop-drop)

-- a reader stops where one that it calls does
pub failed : {A B C D : Type 0} {given : Option B} {made : A → B} {left : Option D} {kept : C → D} {e : ExprFault} (result : Result C ExprFault)
    → Reads given made (Err e) → IsErrAnd result (λ f. f ≡ e) → (given ≡ None → left ≡ None) → Reads left kept result
failed result h is none = search (arith, err_from_is_err_and)

-- the same is given
pub same_given : {A B : Type 0} {given other : Option B} {made : A → B} {result : Result A ExprFault} → given ≡ other → Reads other made result
    → Reads given made result
same_given same h = rw same h

-- nothing follows the operand, or nothing begins
pub run_stops : (ts : List Token) (t : Token) (fs : List Frame) (x : Operand) (d : List Node) → 0 < length ts
    → after_operand ((get_or ts 0 t).kind ∷ kinds_of (take (length ts - 1) (drop 1 ts))) fs x d ≡ None → run (kinds_of ts) 0 fs (Some x) d ≡ None
run_stops [] t fs x d h e = absurd (omega arith)
run_stops (u ∷ ts) t fs x d h e =
    let stops : after_operand (kinds_of (u ∷ ts)) fs x d ≡ None = ap (λ us. after_operand us fs x d) (sym (first_and_rest (u ∷ ts) t h)) ∙ e in
    rw stops

pub run_begins_none : (ts : List Token) (t : Token) (fs : List Frame) (d : List Node) → 0 < length ts → begin_at (get_or ts 0 t).kind (kinds_of ts) fs
    d ≡ None → run (kinds_of ts) 0 fs None d ≡ None
run_begins_none [] t fs d h e = absurd (omega arith)
run_begins_none (u ∷ ts) t fs d h e = rw e

-- a number takes the length of a prefix
pub prefix_taken : (ts : List TokenKind) (fs : List Frame) (x : Operand) (d : List Node) (n m : ℕ) → number_with_prefix x ts ≡ Some (n, m)
    → 1 ≤ operand_precedence fs → Reads (after_operand ts fs x d) (λ (r : ℕ × Option Operand). (r.0, (fs, r.1, d))) (Ok (1, Some (Either n (Some m))))
prefix_taken ts fs x d n m found h = search (arith, le_true)

-- or doesn't
prefix_left : (ts : List TokenKind) (fs : List Frame) (x : Operand) (d : List Node) (o : Option (ℕ × ℕ)) → (o ≡ None) ⊎ (operand_precedence fs < 1)
    → with_prefix o ts fs x d ≡ next_of ts fs x d
prefix_left ts fs x d None h = refl
prefix_left ts fs x d (Some p) (inl h) = cc
prefix_left ts fs x d (Some p) (inr h) = rw (le_false 1 (operand_precedence fs) h) refl

-- and the frames take it first
pub next_read : (t : TokenKind) (ts : List TokenKind) (fs : List Frame) (x : Operand) (d : List Node) (p : ℕ) (o : Option Reduced)
    → (number_with_prefix x (t ∷ ts) ≡ None) ⊎ (operand_precedence fs < 1) → p ≡ token_precedence t → reduce p fs x d ≡ o → after_operand (t ∷ ts) fs
    x d ≡ (o >>= λ r. after_token_at t ts r.0 r.1 r.2)
next_read t ts fs x d p o left is reduced = prefix_left (t ∷ ts) fs x d _ left ∙ rw (sym is, reduced) refl

-- the loop begins with all tokens, if there is one
pub run_whole : (ts : List Token) (fs : List Frame) (d : List Node) → fs ≡ [] → d ≡ [] → false ≡ (length ts == 0) → run (kinds_of (drop 0 ts)) 0 fs
    None d ≡ nodes_of_tokens (kinds_of ts)
run_whole [] fs d no_frames no_nodes h = cc
run_whole (t ∷ ts) fs d no_frames no_nodes h = rw (no_frames, no_nodes) refl

-- it stops where a step does
pub read_stops : {C : Type 0} (ts : List Token) (at : ℕ) (fs : List Frame) (x : Option Operand) (d : List Node) (e : ExprFault)
    (all : Option (List Node)) (left : List Node) (result : Result C ExprFault)
    → (◌≡◌ {A = Result (ℕ × Option Operand) ExprFault} (Err e) (Err ExprFault.NotAnExpression) → run (kinds_of (take (length ts - at) (drop at ts))) 0
    fs x d ≡ None) → IsReadFault e → run (kinds_of (drop at ts)) 0 fs x d ≡ all → IsErrAnd result (λ f. f ≡ e) → Reads all (λ _. left) result
read_stops ts at fs x d e all left result none fault before is = search (arith, err_from_is_err_and, take_rest)

-- and ends after the last token
pub run_ends : (ts : List Token) (at : ℕ) (fs : List Frame) (x : Option Operand) (d : List Node) (all : Option (List Node))
    → length ts ≤ at → run (kinds_of (drop at ts)) 0 fs x d ≡ all → all ≡ finish x fs d
run_ends ts at fs x d all h before = search (arith, drop_all)

-- the faults of the reader are among those of the parser, and none is of the nesting
pub parse_fault : {A : Type 0} (r : Result A ExprFault) → IfErr r IsReadFault
    → IfErr r (λ f. (f ≡ ExprFault.NestedTooDeep) ⊎ (f ≡ ExprFault.NotAnExpression) ⊎ (f ≡ ExprFault.Memory))
parse_fault (Ok a) h = tt
parse_fault (Err e) h = inr h

pub not_too_deep : {A : Type 0} (r : Result A ExprFault) → IfErr r IsReadFault → r ≡ Err ExprFault.NestedTooDeep → ⊥
not_too_deep (Ok a) h e = cc
not_too_deep (Err f) (inl h) e = cc
not_too_deep (Err f) (inr h) e = cc

-- without a frame, the whole expression is the operand
pub finish_reads : (x : Option Operand) (read y : Operand) (fs gs : List Frame) (d e f : List Node) → x ≡ Some read → reduce 8 fs read d ≡ Some
    (gs, y, e) → gs ≡ [] → f ≡ e → finish x fs d ≡ as_truth y f
finish_reads x read y fs gs d e f is reduced gone kept = rw (is, reduced, gone, kept) refl

-- a mask is read from its two tokens
two_kinds : (ts : List Token) (t u : TokenKind) → slice_get (kinds_of ts) 0 ≡ Some t → slice_get (kinds_of ts) 1 ≡ Some u
    → (kinds_of ts ≡ t ∷ u ∷ kinds_of (drop 2 ts)) × (2 ≤ length ts)
two_kinds [] t u a b = let no : ⊥ = cc in absurd no
two_kinds (v ∷ []) t u a b = let no : ⊥ = cc in absurd no
two_kinds (v ∷ w ∷ ts) t u a b = (cc, omega arith)

pub prefix_at : (ts : List Token) (n : ℕ) → slice_get (kinds_of ts) 0 ≡ Some (token.Operator Divide) → slice_get (kinds_of ts) 1 ≡ Some
    (token.Number n) → Takes (prefix_of (kinds_of ts)) ts (Some n, 2)
prefix_at ts n a b = search (arith, two_kinds)

pub mask_prefix_at : (ts : List Token) (n : ℕ) → slice_get (kinds_of ts) 0 ≡ Some (token.Operator Divide) → slice_get (kinds_of ts) 1 ≡ Some
    (token.Number n) → Takes (mask_of (kinds_of ts)) ts (NetMask.Prefix n, 2)
mask_prefix_at ts n a b = search (arith, two_kinds)

pub mask_at : (ts : List Token) (address parts : ℕ) → slice_get (kinds_of ts) 0 ≡ Some token.Mask → slice_get (kinds_of ts) 1 ≡ Some
    (token.Dotted address parts) → Takes (mask_of (kinds_of ts)) ts (NetMask.Mask (record { address = address; parts = parts }), 2)
mask_at ts address parts a b = search (arith, two_kinds)

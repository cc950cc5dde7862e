-- The lexer, the parser and the checks together decide whether a text is an expression, and why it
-- is refused.
use Rattle.std.proofs.Common.{◌≡◌, ◌≢◌, ◌↔◌, ◌⊎◌, inl, inr, List, ℕ, None, Some, Result, Ok, Err, ◌∙◌, sym, ap}
use Rattle.std.specs.Result.{IfOk, IfErr}
use Rattle.flt_words.specs.{declared.token.Token.Token, Tokens.Tokens, declared.fault.ExprFault.ExprFault}
use Rattle.flt_ast.specs.{Tree.Expression, Checks.check_fault, Filled.fill_expression, Resolved.fill_fault}
use Rattle.flt_lang.specs.{Grammar.IsReadAs, Grammar.kinds_of, Nesting.IsTooDeep}
use Rattle.cap_filter.specs.Expressions.{HasTree, IsSettled, HasFault, IsExpression, IsTextRefused, by_tokens, too_deep, no_tree, by_tree, IsTextFault}

pub reason : (text : List ℕ) (refusal : ExprFault) → IsTextRefused text refusal → IsTextFault text refusal
reason text ExprFault.Memory refused = tt
reason text refusal refused = refused

pub lexed-reason : (text : List ℕ) (refusal : ExprFault) → (refusal ≢ ExprFault.Memory → Tokens text (Err refusal)) → IsTextFault text refusal
lexed-reason text ExprFault.Memory tells = tt
lexed-reason text refusal tells = by_tokens (tells (λ same. cc))

pub parsed-reads : (text : List ℕ) (tokens : List Token) (r : Result Expression ExprFault) → Tokens text (Ok tokens)
    → (r ≡ Err ExprFault.NestedTooDeep) ↔ IsTooDeep tokens → IfOk r (λ tree. IsReadAs (kinds_of tokens) tree) → IfOk r (λ tree. HasTree text tree)
parsed-reads text tokens (Ok tree) lexed deep reads = record {
  tokens = tokens;
  lexed = lexed;
  shallow = λ d. cc (deep.1 d);
  reads = reads;
}
parsed-reads text tokens (Err refusal) lexed deep reads = tt

pub parsed-refused : (text : List ℕ) (tokens : List Token) (r : Result Expression ExprFault) → Tokens text (Ok tokens)
    → (r ≡ Err ExprFault.NestedTooDeep) ↔ IsTooDeep tokens
    → (r ≡ Err ExprFault.NotAnExpression → (tree : Expression) → IsReadAs (kinds_of tokens) tree → ⊥)
    → IfErr r (λ f. (f ≡ ExprFault.NestedTooDeep) ⊎ (f ≡ ExprFault.NotAnExpression) ⊎ (f ≡ ExprFault.Memory))
    → IfErr r (IsTextFault text)
parsed-refused text tokens (Ok tree) lexed deep none why = tt
parsed-refused text tokens (Err refusal) lexed deep none why =
    elim why [
      | inl is ↦ rw is (too_deep lexed (deep.0 (ap Err is)))
      | inr (inl is) ↦ rw is (no_tree lexed (λ d. cc (is, deep.1 d)) (none (ap Err is)))
      | inr (inr is) ↦ rw is tt
    ]

pub settled-ok : {X : Type 0} (of : X → Expression) (tree e : Expression) (r : Result X ExprFault) → e ≡ fill_expression tree → fill_fault tree ≡ None
    → IfOk r (λ x. of x ≡ e) → IfOk r (λ x. check_fault e ≡ None) → IfOk r (λ x. IsSettled tree (of x))
settled-ok of tree e (Ok x) fills fits same sound = record { fits = fits; fills = same ∙ fills; sound = ap check_fault same ∙ sound }
settled-ok of tree e (Err refusal) fills fits same sound = tt

pub settled-refused : {X : Type 0} (tree e : Expression) (r : Result X ExprFault) → e ≡ fill_expression tree → fill_fault tree ≡ None
    → IfErr r (λ f. check_fault e ≡ Some f) → IfErr r (HasFault tree)
settled-refused tree e (Ok x) fills fits why = tt
settled-refused tree e (Err refusal) fills fits why = inr (fits, sym (ap check_fault fills) ∙ why)

pub expression-ok : {X : Type 0} (of : X → Expression) (text : List ℕ) (tree : Expression) (r : Result X ExprFault) → HasTree text tree
    → IfOk r (λ x. IsSettled tree (of x)) → IfOk r (λ x. IsExpression text (of x))
expression-ok of text tree (Ok x) read settled = record { tree = tree; read = read; settled = settled }
expression-ok of text tree (Err refusal) read settled = tt

pub expression-refused : {X : Type 0} (text : List ℕ) (tree : Expression) (r : Result X ExprFault) → HasTree text tree
    → IfErr r (HasFault tree) → IfErr r (IsTextFault text)
expression-refused text tree (Ok x) read why = tt
expression-refused text tree (Err refusal) read why = reason text refusal (by_tree read why)

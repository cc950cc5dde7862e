-- Which texts are expressions, which programs are valid, and why other texts are refused.
use Rattle.std.specs.Prelude.{◌≡◌, ◌⊎◌, List, ℕ, None, Some, Ok, Err}
use Rattle.flt_words.specs.{Tokens.Tokens, declared.fault.ExprFault.ExprFault, declared.token.Token.Token}
use Rattle.flt_ast.specs.{Checks.check_fault, Filled.fill_expression, Resolved.fill_fault, Tree.Expression}
use Rattle.flt_lang.specs.{Grammar.IsReadAs, Grammar.kinds_of, Nesting.IsTooDeep}
use Rattle.flt_bpf.specs.{Valid.IsValid, declared.insn.Insn.Insn}
use Rattle.flt_ast.specs.Tree as tree
use Rattle.cap_octet.specs.declared.link.Link.{Link}
use Rattle.flt_gen.specs.Correct.{IsProgramOf}

-- the text has tokens that aren't nested too deep, and they have this tree
pub record HasTree (text : List ℕ) (tree : Expression) : Type 0 where
  pub tokens : List Token
  pub lexed : Tokens text (Ok tokens)
  pub shallow : ¬ IsTooDeep tokens
  pub reads : IsReadAs (kinds_of tokens) tree

-- the tree has no fault of trees, and `e` is it with the omitted qualifiers filled in
pub record IsSettled (tree e : Expression) : Type 0 where
  pub fits : fill_fault tree ≡ None
  pub fills : e ≡ fill_expression tree
  pub sound : check_fault e ≡ None

-- the first fault of a tree: one in a value (E7 to E9), else one of the whole (E10 to E12);
-- docs/inside/COMPILER.md explains these numbers
abbrev pub HasFault : Expression → ExprFault → Type 0
HasFault tree refusal =
    (fill_fault tree ≡ Some refusal)
    ⊎ ((fill_fault tree ≡ None) × (check_fault (fill_expression tree) ≡ Some refusal))

-- the text is an expression, and `e` is its tree with the omitted qualifiers filled in
pub record IsExpression (text : List ℕ) (e : Expression) : Type 0 where
  pub tree : Expression
  pub read : HasTree text tree
  pub settled : IsSettled tree e

-- the text is refused with the first of its faults: one of its tokens (E1 to E4), of their nesting
-- (E6), of the grammar (E5) or of their tree
pub data IsTextRefused (text : List ℕ) : ExprFault → Type 0 where
  by_tokens : {refusal : ExprFault} → Tokens text (Err refusal) → IsTextRefused text refusal
  too_deep : {tokens : List Token} → Tokens text (Ok tokens) → IsTooDeep tokens
      → IsTextRefused text ExprFault.NestedTooDeep
  no_tree : {tokens : List Token} → Tokens text (Ok tokens) → ¬ IsTooDeep tokens
      → ((tree : Expression) → IsReadAs (kinds_of tokens) tree → ⊥)
      → IsTextRefused text ExprFault.NotAnExpression
  by_tree : {tree : Expression} {refusal : ExprFault} → HasTree text tree → HasFault tree refusal
      → IsTextRefused text refusal

-- Why a text isn't compiled: it is refused, or, for any text, memory ran out.
abbrev pub IsTextFault : List ℕ → ExprFault → Type 0
IsTextFault text ExprFault.Memory = Unit {0}
IsTextFault text refusal = IsTextRefused text refusal

-- a valid program for an expression: on packets of this link it accepts exactly those that match,
-- and it has at most as many instructions as the expression's bound
pub record IsCompiled (text : List ℕ) (link : Link) (prog : List Insn) : Type 0 where
  pub e : tree.Expression
  pub expression : IsExpression text e
  pub valid : IsValid prog
  pub program : IsProgramOf prog e link

-- The result of the call that returns an expression's bound.
use Rattle.std.specs.Prelude.{◌≡◌, ◌≤◌, ℕ, List, length}
use Rattle.flt_bpf.specs.declared.insn.Insn.{Insn}
use Rattle.flt_ast.specs.{Counts.bound_of, Tree.Expression}
use Rattle.cap_filter.specs.Expressions.{IsExpression}
use Rattle.capkit_c.specs.Compiling.{IsFor, IsTextFailure, Tells}

-- `number` is the bound of the expression: no program compiled from it has more instructions, for
-- any link type
pub record IsBound (text : List ℕ) (number : ℕ) : Type 0 where
  pub e : Expression
  pub expression : IsExpression text e
  pub is_bound : number ≡ bound_of e
  pub most : (link_type : ℕ) (prog : List Insn) → IsFor text link_type prog → length prog ≤ number

-- status 0 and the bound, or another status and the place of the fault (0 if it has none)
abbrev pub BoundLeaves : List ℕ → (number status : ℕ) → Type 0
BoundLeaves text number status = Tells (IsBound text) (IsTextFailure text) number status

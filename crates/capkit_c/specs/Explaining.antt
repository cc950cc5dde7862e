-- The result of the call that explains an expression.
use Rattle.std.specs.Prelude.{◌≡◌, ℕ, List, length}
use Rattle.flt_ast.specs.Tree.{Expression}
use Rattle.flt_explain.specs.Explained.{explained_text}
use Rattle.cap_filter.specs.Expressions.{IsExpression}
use Rattle.capkit_c.specs.{Compiling.IsTextFailure, Compiling.Tells, Texts.put_text}

-- `meaning` is the meaning of the expression, written out
pub record Explains (text meaning : List ℕ) : Type 0 where
  pub e : Expression
  pub expression : IsExpression text e
  pub is_text : meaning ≡ explained_text e

-- as much of the meaning as fits is in the buffer, and `number` is its full length
pub record PutsMeaning (text old new : List ℕ) (number : ℕ) : Type 0 where
  pub meaning : List ℕ
  pub explains : Explains text meaning
  pub put : new ≡ put_text meaning old
  pub count : number ≡ length meaning

-- status 0 and the meaning; or another status and the place of the fault (0 if it has none), and
-- the buffer is unchanged
abbrev pub ExplainLeaves : (text old new : List ℕ) → (number status : ℕ) → Type 0
ExplainLeaves text old new number status =
    Tells (PutsMeaning text old new) (λ failure. IsTextFailure text failure × (new ≡ old)) number
    status

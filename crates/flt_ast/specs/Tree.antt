-- What an expression means: trees of two sorts, truths and numbers.
use Rattle.std.specs.Prelude.{ℕ, Option}
use Rattle.flt_words.specs.declared.token.{Cast.Cast, Comparison.Comparison}
use Rattle.flt_words.specs.declared.token.{Join.Join, Operator.Operator, Protocol.Protocol, Size.Size}
use Rattle.flt_ast.specs.declared.qualifiers.{CompleteQualifiers.CompleteQualifiers, Qualifiers.Qualifiers}
use Rattle.flt_ast.specs.declared.value.Value.{Value}

-- an accessor, `load`, has its protocol, its size in bytes and its index
pub data NumberTree : Type 0 where
  literal : ℕ → NumberTree
  len : NumberTree
  named : ℕ → NumberTree
  load : Protocol → ℕ → NumberTree → NumberTree
  negated : NumberTree → NumberTree
  applied : Operator → NumberTree → NumberTree → NumberTree

-- a value has no qualifiers, those given before it, or all its qualifiers
pub data TruthTree : Type 0 where
  check : Protocol → TruthTree
  cast : Option Protocol → Cast → TruthTree
  sized : Size → ℕ → TruthTree
  bare : Value → TruthTree
  valued : Qualifiers → Value → TruthTree
  qualified : CompleteQualifiers → Value → TruthTree
  compared : Comparison → NumberTree → NumberTree → TruthTree
  denied : TruthTree → TruthTree
  joined : Join → TruthTree → TruthTree → TruthTree

-- the empty expression isn't an operand of any other
pub data Expression : Type 0 where
  empty : Expression
  truth : TruthTree → Expression

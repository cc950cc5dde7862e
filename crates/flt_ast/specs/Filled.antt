-- What a bare value inherits, and what omitted qualifiers are.
use Rattle.std.specs.Prelude.{Some, None, unwrap_or}
use Rattle.flt_words.specs.declared.token.{Join.Join, ValueType.ValueType, ValueType.TheVariants.Host}
use Rattle.flt_ast.specs.Tree.{TruthTree, bare, valued, qualified, denied, joined, Expression, empty, truth}
use Rattle.flt_ast.specs.declared.{node.Node.Node, qualifiers.CompleteQualifiers.CompleteQualifiers}
use Rattle.flt_ast.specs.declared.qualifiers.{Direction.Direction, Qualifiers.Qualifiers}

-- the qualifiers of the last value in a tree that has any, else q
abbrev pub latest : Qualifiers → TruthTree → Qualifiers
latest q (valued p v) = p
latest q (denied a) = latest q a
latest q (joined j a b) = latest (latest q a) b
latest q _ = q

-- each bare value gets the qualifiers of the nearest value to its left that has any, even from
-- inside parentheses or under `not`; or q if there is none
abbrev pub with_inherited : Qualifiers → TruthTree → TruthTree
with_inherited q (bare v) = valued q v
with_inherited q (denied a) = denied (with_inherited q a)
with_inherited q (joined j a b) = joined j (with_inherited q a) (with_inherited (latest q a) b)
with_inherited q a = a

-- the given type; `host` if it is omitted
abbrev pub type_or_host : Qualifiers → ValueType
type_or_host q = unwrap_or q.value_type Host

-- qualifiers with the omitted ones filled in: the type `host`, the direction `src or dst`
abbrev pub completed_qualifiers : Qualifiers → CompleteQualifiers
completed_qualifiers q =
    record {
      protocol = q.protocol;
      direction = unwrap_or q.direction (Direction.Both Join.Or);
      value_type = type_or_host q;
    }

-- each value with some qualifiers gets the omitted ones
abbrev pub complete : TruthTree → TruthTree
complete (valued q v) = qualified (completed_qualifiers q) v
complete (denied a) = denied (complete a)
complete (joined j a b) = joined j (complete a) (complete b)
complete a = a

-- the qualifiers of a bare value if no value to its left has any: `host`
abbrev pub only_host : Qualifiers
only_host = record { protocol = None; direction = None; value_type = Some Host }

-- an expression after its bare values have inherited qualifiers
abbrev pub expr_inherited : Expression → Expression
expr_inherited empty = empty
expr_inherited (truth a) = truth (with_inherited only_host a)

-- an expression whose values have all qualifiers, as `flt_lang::resolve` returns it
abbrev pub fill_expression : Expression → Expression
fill_expression empty = empty
fill_expression (truth a) = truth (complete (with_inherited only_host a))

-- a node whose value has some qualifiers gets the omitted ones; others are unchanged
abbrev pub completed_node : Node → Node
completed_node (Node.Valued q v) = Node.Qualified (completed_qualifiers q) v
completed_node n = n

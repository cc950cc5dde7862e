-- Re-exports the names that most proofs of this crate cite; declares nothing.
pub use Rattle.std.proofs.lemmas.Bool.{false≢true, leb-true, or_parts, or_from}
pub use Rattle.flt_words.specs.declared.token.Operator.TheVariants.{Subtract, Divide}
pub use Rattle.flt_words.specs.declared.token.Side.TheVariants.{Source, Destination}
pub use Rattle.flt_ast.specs.declared.qualifiers.{Direction.Direction, Qualifiers.Qualifiers}
pub use Rattle.flt_words.specs.declared.token.{Size.Size, Join.Join, Operator.Operator, Protocol.Protocol, Side.Side, TokenKind.TokenKind, ValueType.ValueType}
pub use Rattle.flt_lang.specs.declared.frame.{Operand.Operand, Operand.TheVariants.Either, Frame.Frame, Sort.Sort}
pub use Rattle.flt_ast.specs.inside.{Nodes.truth_onto, Nodes.number_onto, Nodes.expr_onto, Checks.some_zero_divisor, Heights.climb}
pub use Rattle.std.proofs.{Math.Bool.or-false, Math.Bool.or_assoc, lemmas.List.Sums.sum_by-cons, str.Laws.order}
pub use Rattle.flt_ast.specs.{declared.node.Node.Node, declared.value.NetMask.NetMask, declared.value.Value.Value, Counts.words_of, Filled.fill_expression}

-- Re-exports the names that most proofs of this crate cite; declares nothing.
pub use Rattle.std.specs.List.{AllByRecursion, list_all, join_with_byte}
pub use Rattle.flt_explain.specs.declared.spelling.Following.{Following, TheVariants.Other}
pub use Rattle.flt_words.specs.declared.token.{ValueType.ValueType, Join.Join, Operator.Operator, Protocol.Protocol, Token.Token, TokenKind.TokenKind}
pub use Rattle.std.proofs.lemmas.Bool.{Decides.nat_tests, ltb-true, lt-ltb, or_parts}
pub use Rattle.flt_explain.specs.{Writable.IsDottedAddress, Writable.has_name, inside.Writable.IsSpellable, declared.backward.Pending.Pending}
pub use Rattle.flt_ast.specs.declared.{qualifiers.Direction.Direction, qualifiers.Qualifiers.Qualifiers, value.NetMask.NetMask, value.Value.Value}
pub use Rattle.std.proofs.{Common.suc, Common.arith, Math.Bool.or-true}

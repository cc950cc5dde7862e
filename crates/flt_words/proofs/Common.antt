-- Re-exports the names that most proofs of this crate cite; declares nothing.
pub use Rattle.flt_words.specs.Characters.{within_word, is_blank, is_inside, starts_word}
pub use Rattle.flt_words.specs.Tokens.PieceMeans.{symbol_meaning, word_meaning}
pub use Rattle.flt_words.specs.Tokens.TokensFrom.{at_end, blank, refused, token}
pub use Rattle.flt_words.specs.Numbers.{IsRange.joined, WritesNumber, is_word_sized, IsNumber, IsRange, WritesDecimal, IsNumber.decimal}
pub use Rattle.std.proofs.lemmas.Bool.{eqb-true, false≢true, cases_lt, or_parts, and_parts, not-true, ltb-true, Decides.nat_tests}
pub use Rattle.flt_words.specs.Addresses.{AreGroups, IsGroup, group_values, AreIp6Ends, IsIp6, IsWholeIp6, IsDotted, IsMac, IsIp6.shortened, IsIp6.whole}
pub use Rattle.flt_words.specs.declared.{token.Token.Token, token.TokenKind.TokenKind, fault.ExprFault.ExprFault, number.WordFault.WordFault}
pub use Rattle.flt_words.specs.inside.{Addresses.base_of, Addresses.IsDoubleColon, Characters.has, Numbers.FindsMeaning, Numbers.both_known}
pub use Rattle.flt_words.specs.Tokens.{IsPiece.symbol, IsPiece.word, IsRefused.bad_piece, IsRefused.no_piece}
pub use Rattle.flt_words.specs.Words.{WordMeans.known, WordMeans.too_large, WordMeans.unknown, Spells, fits, WordMeans, Spells.keyword}
pub use Rattle.std.proofs.{lemmas.List.take_rest, lemmas.Result.err_from_is_err_and, Math.Seq.take-add, Math.Bool.and-false}
pub use Rattle.flt_words.specs.{Spellings.symbol_of, Spellings.keyword_of, declared.address.Group.Group, declared.address.JoinedGroups.JoinedGroups}

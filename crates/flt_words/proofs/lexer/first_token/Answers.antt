-- The first token is a word if one begins here, otherwise a symbol.
use Rattle.std.proofs.Common.{arith, sym, ◌∙◌}
use Rattle.flt_words.proofs.{Common.err_from_is_err_and, Common.bad_piece, Common.no_piece, Common.symbol_meaning, Common.word_meaning, Pieces.longest_is_word}
use Rattle.flt_words.proofs.lexer.first_token.Goals as goal

pub returns-then-starts_word : goal.returns-then-starts_word
returns-then-starts_word c = search (arith, word_meaning, longest_is_word)

pub returns-in_err-kind : goal.returns-in_err-kind
returns-in_err-kind c =
    let begins = sym c.starts_word.ensures ∙ c.if-starts_word.true in
    let p = err_from_is_err_and c.from_residual.result c.from_residual.ensures.1 in
    rw (p.1, p.2) (bad_piece c.first_word_len-len.ensures (word_meaning (longest_is_word c.first_word_len-len.ensures begins) c.in_err-kind.ensures))

pub returns-in-Some : goal.returns-in-Some
returns-in-Some c = search (arith, symbol_meaning)

pub returns-in-None : goal.returns-in-None
returns-in-None c = no_piece c.in-None.ensures

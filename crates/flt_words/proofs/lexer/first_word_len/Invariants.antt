-- The bytes so far may be in the word, and the last one that can end it is just before `len`.
use Rattle.flt_words.proofs.Pieces.{IsScanned}
use Rattle.flt_words.proofs.lexer.first_word_len.Given as goal

abbrev pub invariant-loop-i : goal.invariant-loop-i
invariant-loop-i l = IsScanned l.inside l.rest l.len l.i

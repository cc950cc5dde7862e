-- No word so far is read before it is written.
use Rattle.std.proofs.Common.{◌≡◌}
use Rattle.capkit_c.specs.Portable.{none_read_unwritten}
use Rattle.capkit_c.proofs.portable.no_word_read_unwritten.Given as goal

abbrev pub invariant-loop-word : goal.invariant-loop-word
invariant-loop-word l = l.all ≡ none_read_unwritten l.word l.insns

-- The words so far are ranges, which are read.
use Rattle.capkit.proofs.Common.{◌≡◌, Some, map, take, range_of}
use Rattle.capkit.proofs.edit_line.ranges_in.Given as goal

abbrev pub invariant-loop-word : goal.invariant-loop-word
invariant-loop-word l = map Some l.ranges.items ≡ map range_of (map (λ word. word.now) (take l.word-index l.words))

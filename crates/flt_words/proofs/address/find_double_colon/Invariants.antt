-- No two colons are before the place.
use Rattle.std.proofs.Common.{◌+◌, ◌<◌, ℕ}
use Rattle.flt_words.proofs.Common.{IsDoubleColon}
use Rattle.flt_words.proofs.address.find_double_colon.Given as goal

abbrev pub invariant-loop-i : goal.invariant-loop-i
invariant-loop-i l = (k : ℕ) → k + 1 < l.i → IsDoubleColon l.word k → ⊥

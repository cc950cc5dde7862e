-- Too many prefix operators in a row begin at no token so far.
use Rattle.std.proofs.Common.{◌<◌, ℕ, drop}
use Rattle.flt_lang.specs.Nesting.{BeginsWithLongPrefix}
use Rattle.flt_lang.proofs.nesting.has_long_prefix.Given as goal

abbrev pub invariant-loop-i : goal.invariant-loop-i
invariant-loop-i l = (k : ℕ) → k < l.i → BeginsWithLongPrefix (drop k l.tokens) → ⊥

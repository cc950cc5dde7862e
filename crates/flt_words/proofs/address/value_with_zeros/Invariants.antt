-- The number has the zeros so far.
use Rattle.std.proofs.Common.{◌≡◌, ◌*◌, ◌^◌}
use Rattle.flt_words.proofs.Common.{base_of}
use Rattle.flt_words.proofs.address.value_with_zeros.Given as goal

abbrev pub invariant-loop-done : goal.invariant-loop-done
invariant-loop-done l = l.value ≡ l.fn.joined.value * base_of l.form ^ l._done

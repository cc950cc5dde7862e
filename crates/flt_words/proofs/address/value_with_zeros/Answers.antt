-- Eight groups fit 128 bits.
use Rattle.std.proofs.Common.{arith}
use Rattle.flt_words.proofs.AddressValues.{zero_fits, zero_value}
use Rattle.flt_words.proofs.address.value_with_zeros.Goals as goal

pub overflow_mul-value : goal.overflow_mul-value
overflow_mul-value c = search (arith, zero_fits)

pub loop-done-preserved : goal.loop-done-preserved
loop-done-preserved c = search (arith, zero_value)

-- Six groups are 48 bits.
use Rattle.{std.proofs.Common.arith, flt_words.proofs.AddressValues.whole_below}
use Rattle.flt_words.proofs.address.parse_mac.Goals as goal

pub overflow_cast-result : goal.overflow_cast-result
overflow_cast-result c = omega (arith, whole_below c.in_ok-parse_whole.ensures)

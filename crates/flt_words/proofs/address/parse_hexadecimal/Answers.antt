-- Four hexadecimal digits are a number that fits 16 bits.
use Rattle.{std.proofs.Common.arith, flt_words.proofs.AddressValues.small_answer}
use Rattle.flt_words.proofs.address.parse_hexadecimal.Goals as goal

pub returns : goal.returns
returns c = search (arith, small_answer)

-- Four parts are 32 bits.
use Rattle.std.proofs.Common.{arith, length, ap}
use Rattle.flt_words.proofs.Common.{Group}
use Rattle.flt_words.proofs.AddressValues.{dotted_below, read_dotted, reads_below, same_groups}
use Rattle.flt_words.proofs.address.parse_dotted.Goals as goal

pub returns-then-joined-lt2 : goal.returns-then-joined-lt2
returns-then-joined-lt2 c = λ address parts dotted.
    let same = ap length (same_groups dotted.are c.in_ok-joined.ensures.1) in
    omega (arith, c.in_ok-joined.ensures.3)

pub value_with_zeros-address-requires-clause-small : goal.value_with_zeros-address-requires-clause-small
value_with_zeros-address-requires-clause-small c = reads_below Group.Octet c.args.word.now c.in_ok-joined.joined c.in_ok-joined.ensures

pub overflow_cast-result : goal.overflow_cast-result
overflow_cast-result c = omega (arith, (dotted_below (read_dotted c.in_ok-joined.ensures (omega arith) (omega arith))).0, c.value_with_zeros-address.ensures)

pub returns : goal.returns
returns c = search (arith, read_dotted)

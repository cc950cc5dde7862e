-- The omitted groups are zeros after the first ones.
use Rattle.std.proofs.Common.{arith, length, ap}
use Rattle.flt_words.proofs.Common.{Group}
use Rattle.flt_words.proofs.AddressValues.{ends_fit, ends_value, reads_below, same_groups}
use Rattle.flt_words.proofs.address.parse_shortened_ip6.Goals as goal

pub returns-then-first-last-gt7 : goal.returns-then-first-last-gt7
returns-then-first-last-gt7 c = λ address ends.
    let first = ap length (same_groups ends.are_first c.in_ok-first.ensures.1) in
    let last = ap length (same_groups ends.are_last c.in_ok-last.ensures.1) in
    omega (arith, ends.at_most_seven, c.in_ok-first.ensures.3, c.in_ok-last.ensures.3)

pub value_with_zeros-requires-clause-small : goal.value_with_zeros-requires-clause-small
value_with_zeros-requires-clause-small c = reads_below Group.Quad c.args.front.now c.in_ok-first.first c.in_ok-first.ensures

pub overflow_add-result : goal.overflow_add-result
overflow_add-result c =
    let first = c.in_ok-first.first in
    let last = c.in_ok-last.last in
    let below = reads_below Group.Quad c.args.front.now first c.in_ok-first.ensures in
    let last_below = reads_below Group.Quad c.args.back.now last c.in_ok-last.ensures in
    let fits = ends_fit first.value first.count last.value last.count below last_below (omega arith) in
    omega (arith, c.value_with_zeros.ensures)

pub returns : goal.returns
returns c = search (arith, ends_value)

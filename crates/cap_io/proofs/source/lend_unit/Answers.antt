-- A record at hand that fails no check is lent.
use Rattle.cap_io.proofs.{Hands.unit-lent, Common.arith, FirstUnits.packet-first}
use Rattle.cap_io.proofs.source.lend_unit.Goals as goal

pub lend_unit-requires-clause-there : goal.lend_unit-requires-clause-there
lend_unit-requires-clause-there g c = rw (← c.next_bytes-hand.ensures.held) ((c.in-Ok.ensures.ok c.args.table.now).there)

pub returns-clause-lent : goal.returns-clause-lent
returns-clause-lent g c = λ lent.
    let packet = c.in-Ok.packet in
    let begins = packet-first _ _ c.args.table.now c.next_bytes-hand.result.now _ packet tt (c.in-Ok.ensures.ok c.args.table.now) in
    grind (arith, unit-lent)

-- Units without packets are skipped up to the next packet, the end or a fault.
use Rattle.std.proofs.Common.{◌∙◌, ap, Ok}
use Rattle.cap_io.proofs.Common.{arith, err_from_is_err_and}
use Rattle.cap_io.proofs.Passing.{FindsEnd-then, FindsPacket-then, IsBroken-then, SkipsUnits-then, bounds-then, no-unit-end, stays}
use Rattle.cap_io.proofs.source.Source.skip_to_packet.Goals as goal

pub loop-init : goal.loop-init
loop-init g c = grind (arith, stays, no-unit-end)

pub returns-in_err-read_unit-clause-packets : goal.returns-in_err-read_unit-clause-packets
returns-in_err-read_unit-clause-packets g c =
    let p = err_from_is_err_and c.from_residual.result c.from_residual.ensures.1 in
    rw (p.1, p.2) (λ t. IsBroken-then c.args.self.now c.loop.self c.read_unit.new.self c.in_err-read_unit.field-0.0 (c.loop.invariant.packets t)
    c.loop.invariant.between.block c.loop.invariant.counted (c.in_err-read_unit.ensures.packets t))

pub returns-in-Packet-clause-packets : goal.returns-in-Packet-clause-packets
returns-in-Packet-clause-packets g c = λ t.
    FindsPacket-then c.args.self.now c.loop.self c.read_unit.new.self (c.loop.invariant.packets t) c.loop.invariant.between.block
    (rw c.in-Packet.is at (c.in_ok-read_unit.ensures.packets t))

pub returns-in-End-clause-packets : goal.returns-in-End-clause-packets
returns-in-End-clause-packets g c = λ t.
    FindsEnd-then c.args.self.now c.loop.self c.read_unit.new.self (c.loop.invariant.packets t) c.loop.invariant.between.block
    (rw c.in-End.is at (c.in_ok-read_unit.ensures.packets t))

pub loop-preserved : goal.loop-preserved
loop-preserved g c =
    let bounds = c.in_ok-read_unit.ensures.bounds in
    let passed = bounds.passed _ (ap Ok c.in-Other.is) in record {
      packets = λ t. SkipsUnits-then c.args.self.now c.loop.self c.read_unit.new.self _ (c.loop.invariant.packets t) c.loop.invariant.between.block
          (rw c.in-Other.is at (c.in_ok-read_unit.ensures.packets t));
      between = passed.2;
      given = omega (arith, c.loop.invariant.given, bounds.given);
      failures = bounds.failures ∙ omega (arith, c.loop.invariant.failures);
      sure = bounds.sure ∙ c.loop.invariant.sure;
      room = omega (arith, c.loop.invariant.room, bounds.room);
      counted = omega (arith, bounds.counted, c.loop.invariant.counted);
    }

pub returns-in_err-read_unit-clause-bounds : goal.returns-in_err-read_unit-clause-bounds
returns-in_err-read_unit-clause-bounds g c = grind (arith, err_from_is_err_and, bounds-then)

pub returns-in-Packet-clause-bounds : goal.returns-in-Packet-clause-bounds
returns-in-Packet-clause-bounds g c = grind (arith, bounds-then)

pub returns-in-End-clause-bounds : goal.returns-in-End-clause-bounds
returns-in-End-clause-bounds g c = grind (arith, bounds-then)

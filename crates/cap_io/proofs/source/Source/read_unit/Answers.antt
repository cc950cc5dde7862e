-- Reading a unit takes it from those that the file has left.
use Rattle.std.proofs.Common.{◌+◌, ◌∙◌, Err, length, refl, ap}
use Rattle.cap_io.proofs.Common.{arith, length-take-le, err_from_is_err_and, length-take, Stage}
use Rattle.cap_io.specs.Source.{SourceView, block_at, unit_at, view_of}
use Rattle.cap_io.proofs.Hands.{packet-there}
use Rattle.cap_io.proofs.Passing.{FindsEnd-next, FindsPacket-next, IsBroken-next, SkipsUnits-next, bounds-next, no-unit-end, stage_between}
use Rattle.cap_io.proofs.source.Source.read_unit.Goals as goal

pub returns-in_err-unit-clause-packets : goal.returns-in_err-unit-clause-packets
returns-in_err-unit-clause-packets g c =
    let p = err_from_is_err_and c.from_residual.result c.from_residual.ensures.1 in
    let declared = ap (λ (v : SourceView). v.declared) c.self.view_is in
    let new = view_of g.I.Input c.self.inside.stage c.next_unit.new.self c.self.inside.offset in
    let between = stage_between c.self.inside.stage c.self.inside.reader.spans (unit_at g.I.Input c.self.inside.stage c.self.inside.reader)
    (ap (λ (v : SourceView). v.phase) c.self.view_is ∙ c.requires.between.phase)
    (ap (λ (v : SourceView). v.block) c.self.view_is ∙ c.requires.between.block) c.self.invariant.lies in
    rw (p.1, p.2) (λ t. IsBroken-next c.args.self.now new c.in_err-unit.field-0.0 c.requires.between
    (rw (declared, ap (λ (v : SourceView). v.unread) c.self.view_is) at (c.in_err-unit.ensures.err t))
    (grind arith) (ap (λ (v : SourceView). v.offset) c.self.view_is)
    (omega (arith, c.in_err-unit.ensures.grown, ap (λ (v : SourceView). v.room) c.self.view_is))
    (λ e. rw (declared, ap (λ (v : SourceView). v.unread) c.self.view_is) at (c.in_err-unit.ensures.memory (ap Err e) t))
    (c.in_err-unit.ensures.moves.told t ∙ ap (λ (v : SourceView). v.given + length v.unread) c.self.view_is)
    (grind (arith, block_at))
    (grind arith))

pub returns-in-Packet-clause-packets : goal.returns-in-Packet-clause-packets
returns-in-Packet-clause-packets g c = λ t.
    let declared = ap (λ (v : SourceView). v.declared) c.self.view_is in
    let new = view_of g.I.Input Stage.Current c.next_unit.new.self c.self.inside.offset in
    rw c.in-Packet.is (FindsPacket-next c.args.self.now new c.next_unit.new.self.spans c.next_unit.new.self.buffer.items
    (rw (declared, ap (λ (v : SourceView). v.unread) c.self.view_is) at (rw c.in-Packet.is at (c.in_ok-unit.ensures.ok t))) refl refl
    (no-unit-end c.args.self.now _ c.requires.between (ap (λ (v : SourceView). v.offset) c.self.view_is))
    (omega (arith, c.in_ok-unit.ensures.grown, ap (λ (v : SourceView). v.room) c.self.view_is))
    (omega (arith, length-take c.next_unit.new.self.spans.size c.next_unit.new.self.buffer.items)) refl)

pub returns-in-Other-clause-packets : goal.returns-in-Other-clause-packets
returns-in-Other-clause-packets g c = λ t.
    let declared = ap (λ (v : SourceView). v.declared) c.self.view_is in
    let new = view_of g.I.Input c.self.inside.stage c.next_unit.new.self (c.self.inside.offset + c.in-Other.size) in
    SkipsUnits-next c.args.self.now new c.in-Other.size c.requires.between
    (rw (declared, ap (λ (v : SourceView). v.unread) c.self.view_is) at (rw c.in-Other.is at (c.in_ok-unit.ensures.ok t)))
    (ap (λ (v : SourceView). v.offset + c.in-Other.size) c.self.view_is)
    (omega (arith, c.in_ok-unit.ensures.grown, ap (λ (v : SourceView). v.room) c.self.view_is))
    (rw (declared) at (rw c.in-Other.is at c.in_ok-unit.ensures.fits))

pub returns-in-End-clause-packets : goal.returns-in-End-clause-packets
returns-in-End-clause-packets g c = λ t.
    let declared = ap (λ (v : SourceView). v.declared) c.self.view_is in
    let new = view_of g.I.Input Stage.Ended c.next_unit.new.self c.self.inside.offset in
    rw c.in-End.is (FindsEnd-next c.args.self.now new c.requires.between
    (rw (declared, ap (λ (v : SourceView). v.unread) c.self.view_is) at (rw c.in-End.is at (c.in_ok-unit.ensures.ok t)))
    (ap (λ (v : SourceView). v.offset) c.self.view_is) (omega (arith, c.in_ok-unit.ensures.grown, ap (λ (v : SourceView). v.room) c.self.view_is))
    refl refl refl)

pub returns-in_err-unit-clause-bounds : goal.returns-in_err-unit-clause-bounds
returns-in_err-unit-clause-bounds g c = grind (arith, err_from_is_err_and, stage_between, bounds-next)

pub returns-in-Packet-clause-bounds : goal.returns-in-Packet-clause-bounds
returns-in-Packet-clause-bounds g c = grind (arith, stage_between, bounds-next, length-take, length-take-le, packet-there)

pub returns-in-Other-clause-bounds : goal.returns-in-Other-clause-bounds
returns-in-Other-clause-bounds g c = grind (arith, stage_between, bounds-next)

pub returns-in-End-clause-bounds : goal.returns-in-End-clause-bounds
returns-in-End-clause-bounds g c = grind (arith, stage_between, bounds-next)

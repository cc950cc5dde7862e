-- A packet at hand is the file's next one.
use Rattle.std.proofs.Common.{refl, drop, length, ap, ap₂, true, ◌≡◌, rules}
use Rattle.cap_io.specs.Source.{view_of, SourceView}
use Rattle.cap_io.proofs.{Common.arith, Hands.takes-next}
use Rattle.cap_io.proofs.source.Source.take_next.Goals as goal

pub returns-clause-found : goal.returns-clause-found
returns-clause-found g c =
    let took : c.lend_unit.result ≡ true = search rules in
    let lent = c.lend_unit.ensures.lent took in
    let lends = lent.lends in
    let new = c.lend_unit.new in
    let inside = c.self.inside in
    let size = ap (λ (v : SourceView). length v.block) c.self.view_is in
    λ is. rw (← c.self.view_is)
    (takes-next g.I.Input.tells new.spans (drop inside.reader.input.lent (g.I.Input.held inside.reader.input.input)) (g.I.Input.held new.input.input)
    (view_of g.I.Input inside.stage inside.reader inside.offset) _ lent.begins lends.stays lent.comes (ap₂ drop lends.is lends.rest) refl
    (omega (arith, lent.fits, c.len-room.ensures)) (omega (arith, lends.given, lends.is)) (omega (arith, lends.bounded, lends.is)) lends.failures
    lends.sure lends.enough refl c.self.invariant.bounded refl refl (omega (arith, c.from.ensures, c.current_size-size.ensures, size)) refl)

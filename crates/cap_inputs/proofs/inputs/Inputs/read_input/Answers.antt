-- A read advances only its cursor, and keeps the order sound.
use Rattle.std.proofs.Common.{ap, ◌∙◌}
use Rattle.cap_inputs.proofs.Cursors.{get-among, fetches-by, read_input-steps-by, schedule-order}
use Rattle.cap_inputs.proofs.{Placed.goes-on, Placed.read-idle, Common.ordering_of, Common.InputView, Leasts.room-for}
use Rattle.cap_inputs.proofs.inputs.Inputs.read_input.Goals as goal

pub returns-clause-exact : goal.returns-clause-exact
returns-clause-exact g c = λ ti. rw (← c.self.view_is)
    (fetches-by _ c.args.input c.advance-result.result c.index_mut-cursor.result.now c.advance-result.new.self (ordering_of c.update_after_read.new.schedule)
    (ap ordering_of c.update_after_read.ensures.schedule ∙ schedule-order c.self.inside.schedule c.args.input c.advance-result.result)
    (rw (← c.self.view_is) at c.requires.within) c.index_mut-cursor.ensures.value (c.advance-result.ensures.exact ti) c.advance-result.ensures.steps
    c.advance-result.ensures.is)

pub returns-clause-steps : goal.returns-clause-steps
returns-clause-steps g c = rw (← c.self.view_is)
    (read_input-steps-by _ c.args.input c.advance-result.result c.index_mut-cursor.result.now c.advance-result.new.self
    (ordering_of c.update_after_read.new.schedule)
    (ap ordering_of c.update_after_read.ensures.schedule ∙ schedule-order c.self.inside.schedule c.args.input c.advance-result.result)
    (rw (← c.self.view_is) at c.requires.within) c.index_mut-cursor.ensures.value c.advance-result.ensures.steps c.advance-result.ensures.phase
    c.advance-result.ensures.upper_bound c.advance-result.ensures.is)

pub update_after_read-requires-clause-room : goal.update_after_read-requires-clause-room
update_after_read-requires-clause-room g c =
    let a = get-among c.self.inside.cursors.items c.args.input c.index_mut-cursor.result.now (rw (← c.self.view_is) at c.requires.within)
    c.index_mut-cursor.ensures.value in
    room-for c.self.inside.schedule c.self.inside.cursors.items c.args.input c.index_mut-cursor.result.now _ c.self.inside.queue a
    (read-idle _ c.self.inside.cursors.items c.args.input c.index_mut-cursor.result.now a (rw (← c.self.view_is) at c.requires.next)) c.self.invariant.0

pub invariant_of-self : goal.invariant_of-self
invariant_of-self g c =
    let a = get-among c.self.inside.cursors.items c.args.input c.index_mut-cursor.result.now (rw (← c.self.view_is) at c.requires.within)
    c.index_mut-cursor.ensures.value in
    goes-on c.self.inside.schedule c.update_after_read.new.schedule c.self.inside.cursors.items c.args.input c.index_mut-cursor.result.now
    c.advance-result.new.self c.advance-result.result c.self.inside.queue c.update_after_read.new.queue
    a (rw (← c.self.view_is) at c.requires.next) (ap (λ (h : InputView). h.waiting) c.advance-result.ensures.is)
    (ap (λ (h : InputView). h.source.phase) c.advance-result.ensures.is ∙ c.advance-result.ensures.phase) c.update_after_read.ensures.schedule
    (rw c.key-time.ensures at c.update_after_read.ensures.queue) c.self.invariant

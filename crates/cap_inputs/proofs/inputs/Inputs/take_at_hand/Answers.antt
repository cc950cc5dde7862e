-- Taking the next packet of an input at hand is reading that input on.
use Rattle.std.proofs.Common.{rules, ◌≡◌, true, Ok, ap, ◌∙◌}
use Rattle.cap_inputs.proofs.Cursors.{taken-of, get-among, fetches-by, read_input-steps-by, schedule-order}
use Rattle.cap_inputs.proofs.{Placed.goes-on, Placed.read-idle, Common.ordering_of, Common.InputView, Leasts.room-for}
use Rattle.std.{proofs.lemmas.List.set-get_or, specs.List.slice_set}
use Rattle.cap_inputs.proofs.inputs.Inputs.take_at_hand.Goals as goal

pub returns-clause-exact : goal.returns-clause-exact
returns-clause-exact g c = λ is ti.
    let took : c.take_at_hand.result ≡ true = search rules in
    let takes = taken-of g.I.Input.tells c.take_at_hand.result _ _ took c.take_at_hand.ensures.takes in
    rw (← c.self.view_is)
    (fetches-by _ c.args.input (Ok true) c.index_mut-cursor.result.now c.take_at_hand.new.self (ordering_of c.update_after_packet.new.schedule)
    (ap ordering_of c.update_after_packet.ensures.schedule ∙ schedule-order c.self.inside.schedule c.args.input (Ok true))
    (rw (← c.self.view_is) at c.requires.within) c.index_mut-cursor.ensures.value (takes.0 ti) takes.1 (c.take_at_hand.ensures.is took))

pub returns-clause-steps : goal.returns-clause-steps
returns-clause-steps g c = λ is.
    let took : c.take_at_hand.result ≡ true = search rules in
    let takes = taken-of g.I.Input.tells c.take_at_hand.result _ _ took c.take_at_hand.ensures.takes in
    rw (← c.self.view_is)
    (read_input-steps-by _ c.args.input (Ok true) c.index_mut-cursor.result.now c.take_at_hand.new.self (ordering_of c.update_after_packet.new.schedule)
    (ap ordering_of c.update_after_packet.ensures.schedule ∙ schedule-order c.self.inside.schedule c.args.input (Ok true))
    (rw (← c.self.view_is) at c.requires.within) c.index_mut-cursor.ensures.value takes.1 takes.2 c.take_at_hand.ensures.upper_bound
    (c.take_at_hand.ensures.is took))

pub update_after_packet-requires-clause-room : goal.update_after_packet-requires-clause-room
update_after_packet-requires-clause-room g c =
    let a = get-among c.self.inside.cursors.items c.args.input c.index_mut-cursor.result.now (rw (← c.self.view_is) at c.requires.within)
    c.index_mut-cursor.ensures.value in
    room-for c.self.inside.schedule c.self.inside.cursors.items c.args.input c.index_mut-cursor.result.now true c.self.inside.queue a
    (read-idle _ c.self.inside.cursors.items c.args.input c.index_mut-cursor.result.now a (rw (← c.self.view_is) at c.requires.next)) c.self.invariant.0

pub invariant_of-self-2 : goal.invariant_of-self-2
invariant_of-self-2 g c =
    let took : c.take_at_hand.result ≡ true = search rules in
    let takes = taken-of g.I.Input.tells c.take_at_hand.result _ _ took c.take_at_hand.ensures.takes in
    let a = get-among c.self.inside.cursors.items c.args.input c.index_mut-cursor.result.now (rw (← c.self.view_is) at c.requires.within)
    c.index_mut-cursor.ensures.value in
    goes-on c.self.inside.schedule c.update_after_packet.new.schedule c.self.inside.cursors.items c.args.input c.index_mut-cursor.result.now
    c.take_at_hand.new.self (Ok true) c.self.inside.queue c.update_after_packet.new.queue
    a (rw (← c.self.view_is) at c.requires.next) (ap (λ (h : InputView). h.waiting) (c.take_at_hand.ensures.is took)) takes.2
    c.update_after_packet.ensures.schedule
    (rw c.key-time.ensures at c.update_after_packet.ensures.queue) c.self.invariant

pub invariant_of-self : goal.invariant_of-self
invariant_of-self g c =
    let same : slice_set c.self.inside.cursors.items c.args.input c.take_at_hand.new.self ≡ c.self.inside.cursors.items =
    ap (slice_set c.self.inside.cursors.items c.args.input) (c.take_at_hand.ensures.nothing (search rules) ∙ c.index_mut-cursor.ensures.value)
    ∙ set-get_or c.self.inside.cursors.items c.args.input _ in
    rw same c.self.invariant

-- Marking the packet as decided changes only its cursor and the order, and keeps both sound.
use Rattle.std.proofs.Common.{◌∙◌, refl, ap}
use Rattle.std.specs.List.{slice_set}
use Rattle.cap_inputs.specs.Inputs.{InputsView, with_cursor}
use Rattle.cap_inputs.proofs.Cursors.{following-order, get-among}
use Rattle.cap_inputs.proofs.{Placed.decided-waits, Placed.placed-decided, Common.ordering_of, Common.PacketOrder, Leasts.queue-decided}
use Rattle.cap_inputs.proofs.inputs.Inputs.mark_decided.Goals as goal

pub returns : goal.returns
returns g c =
    let old : InputsView = record { order = ordering_of c.self.inside.schedule; cursors = c.self.inside.cursors.items } in
    let made : PacketOrder → InputsView = λ o. record { order = o; cursors = slice_set c.self.inside.cursors.items c.args.input c.mark_decided.new.self } in
    rw (← c.self.view_is) (record {
      cursor = c.index_mut.result.now;
      among = get-among c.self.inside.cursors.items c.args.input c.index_mut.result.now (rw (← c.self.view_is) at c.requires.within) c.index_mut.ensures.value;
      is = ap made (ap ordering_of c.update_after_decision.ensures.schedule ∙ following-order c.self.inside.schedule c.args.input)
          ∙ ap (with_cursor old c.args.input) c.mark_decided.ensures.following;
    })

pub invariant_of-self : goal.invariant_of-self
invariant_of-self g c =
    let tells = rw (← c.self.view_is) at c.requires.next in
    let a = get-among c.self.inside.cursors.items c.args.input c.index_mut.result.now (rw (← c.self.view_is) at c.requires.within) c.index_mut.ensures.value in
    let reading = c.mark_decided.ensures.reading (decided-waits _ c.self.inside.cursors.items c.args.input c.index_mut.result.now a tells) in
    rw (c.update_after_decision.ensures.schedule, following-order, c.mark_decided.ensures.following) (
      queue-decided c.self.inside.schedule c.self.inside.cursors.items c.args.input _ c.self.inside.queue c.update_after_decision.new.queue tells refl
          c.update_after_decision.ensures.queue c.self.invariant.0,
      placed-decided c.self.inside.schedule c.self.inside.cursors.items c.args.input c.index_mut.result.now a tells reading c.self.invariant.1,
    )

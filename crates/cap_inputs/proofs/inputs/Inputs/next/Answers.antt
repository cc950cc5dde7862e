-- The next action is that of the order, by turn or by time.
use Rattle.cap_inputs.proofs.Placed.{next-is}
use Rattle.cap_inputs.proofs.inputs.Inputs.next.Goals as goal

pub returns-in-Turn : goal.returns-in-Turn
returns-in-Turn g c = rw (← c.self.view_is)
    (next-is c.self.inside.schedule c.self.inside.cursors.items c.next_in_turn.result c.self.invariant.1
    (rw c.in-Turn.is (rw c.deref.ensures.value at c.next_in_turn.ensures)))

pub returns-in-Merge : goal.returns-in-Merge
returns-in-Merge g c = rw (← c.self.view_is)
    (next-is c.self.inside.schedule c.self.inside.cursors.items c.next_by_time.result c.self.invariant.1
    (rw c.in-Merge.is (rw c.deref-in-Merge.ensures.value at c.next_by_time.ensures)))

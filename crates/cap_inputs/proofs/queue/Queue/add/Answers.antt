-- An added entry is once in the queue, which stays a heap.
use Rattle.cap_inputs.proofs.{Common.heap_items, Common.Reverse, Common.IsPermutation-map, Common.Waiting, Queues.once_added, Queues.bare}
use Rattle.cap_inputs.proofs.queue.Queue.add.Goals as goal

pub invariant_of-self : goal.invariant_of-self
invariant_of-self g c =
    let order = rw c.unwrap.ensures at c.push.ensures.heap_order in
    let moved = rw c.unwrap.ensures at c.push.ensures.permutation in
    let bare_moved = IsPermutation-map (λ (r : Reverse Waiting). r.0) _ _ moved in (
      order c.self.invariant.0,
      once_added c.args.entry (bare (heap_items c.self.inside.heap)) (bare (heap_items c.push.new.self))
          (rw (← c.self.view_is) at c.requires.alone) c.self.invariant.1 bare_moved,
    )

pub returns-clause-waiting : goal.returns-clause-waiting
returns-clause-waiting g c =
    let moved = rw c.unwrap.ensures at c.push.ensures.permutation in
    rw (← c.self.view_is) (IsPermutation-map (λ (r : Reverse Waiting). r.0) _ _ moved)

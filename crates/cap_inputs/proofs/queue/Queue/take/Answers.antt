-- The entry that is taken is the least one, and the others remain a heap.
use Rattle.cap_inputs.proofs.Common.{heap_items, Reverse, IsPermutation-map, Waiting}
use Rattle.{std.proofs.Common.refl, cap_inputs.proofs.Queues.taken_first}
use Rattle.cap_inputs.proofs.queue.Queue.take.Goals as goal

pub invariant_of-self-2 : goal.invariant_of-self-2
invariant_of-self-2 g c =
    let first = taken_first _ c.in-Some.field-0 (heap_items c.self.inside.heap) (heap_items c.pop.new.self) (λ x y. refl)
    (c.in-Some.ensures.below_top c.self.invariant.0) c.in-Some.ensures.permutation c.self.invariant.1 in
    ((c.in-Some.ensures.heap_order c.self.invariant.0).0, first.1)

pub returns-clause-waiting : goal.returns-clause-waiting
returns-clause-waiting g c = rw (← c.self.view_is) (IsPermutation-map (λ (r : Reverse Waiting). r.0) _ _ c.in-Some.ensures.permutation)

pub returns-clause-first : goal.returns-clause-first
returns-clause-first g c =
    (taken_first _ c.in-Some.field-0 (heap_items c.self.inside.heap) (heap_items c.pop.new.self) (λ x y. refl)
    (c.in-Some.ensures.below_top c.self.invariant.0) c.in-Some.ensures.permutation c.self.invariant.1).0

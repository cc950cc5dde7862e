-- The top of the heap is the least entry.
use Rattle.std.proofs.Common.{refl}
use Rattle.cap_inputs.proofs.{Common.heap_items, Queues.top_first}
use Rattle.cap_inputs.proofs.queue.Queue.peek.Goals as goal

pub returns : goal.returns
returns g c =
    rw (← c.self.view_is)
    (top_first _ c.in-Some.field-0.now (heap_items c.self.inside.heap) (λ x y. refl) (c.in-Some.ensures.greatest c.self.invariant.0)
    c.in-Some.ensures.item.3.0 (c.in-Some.ensures.item.3.1 _))

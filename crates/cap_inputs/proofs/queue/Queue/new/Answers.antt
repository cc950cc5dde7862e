-- An empty queue is a heap.
use Rattle.std.specs.List.{IsDistinct}
use Rattle.cap_inputs.proofs.queue.Queue.new.Goals as goal

pub invariant_of-result : goal.invariant_of-result
unfolding IsDistinct
invariant_of-result g c = (c.in-Ok.ensures.heap_order, rw c.in-Ok.ensures.items tt)

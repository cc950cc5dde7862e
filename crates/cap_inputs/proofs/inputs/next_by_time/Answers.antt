-- If every input was read, the earliest waiting packet is next, or the end.
use Rattle.std.proofs.Common.{inl, inr}
use Rattle.cap_inputs.proofs.Leasts.{first-least, empty-none}
use Rattle.cap_inputs.proofs.inputs.next_by_time.Goals.{else-next-last-via-then-next-last+else-next-cursors, else-next-last-via-else-next-last}
use Rattle.cap_inputs.proofs.inputs.next_by_time.Goals as goal

pub returns-in-Some : goal.returns-in-Some
returns-in-Some g c = (
  elim c.else-next-last.branch [
    | else-next-last-via-then-next-last+else-next-cursors w ↦ inr w.if-next-cursors.false
    | else-next-last-via-else-next-last w ↦ inl w.if-next-last.false
  ],
  first-least c.args.cursors.now c.args.queue.now c.in-Some.first c.requires c.in-Some.ensures,
)

pub returns-in-None : goal.returns-in-None
returns-in-None g c = (
  elim c.else-next-last.branch [
    | else-next-last-via-then-next-last+else-next-cursors w ↦ inr w.if-next-cursors.false
    | else-next-last-via-else-next-last w ↦ inl w.if-next-last.false
  ],
  empty-none c.args.cursors.now c.args.queue.now c.requires c.in-None.ensures,
)

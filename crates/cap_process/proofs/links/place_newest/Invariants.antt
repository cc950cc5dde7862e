-- The mark at `place` is about to displace the one `step` places before it.
use Rattle.std.proofs.Common.{◌≡◌, ℕ, ◌+◌, ◌-◌, ◌<◌, length}
use Rattle.cap_process.{specs.inside.Index.IsHung, proofs.Trees.IsPlacing}
use Rattle.cap_process.proofs.links.place_newest.Given as goal

abbrev pub decreases-loop-step : goal.decreases-loop-step
decreases-loop-step g l = l.place

abbrev pub invariant-loop-step : goal.invariant-loop-step
invariant-loop-step g l = record {
  long : length l.links.items ≡ length l.marks.items;
  capacity : l.links.capacity ≡ l.fn.links.capacity;
  counted : l.depth + l.place < length l.marks.items;
  placing : (mask : ℕ) → IsHung mask l.marks.items l.fn.links.items 0 (length l.marks.items - 1) l.fn.step
      → IsPlacing mask l.marks.items l.fn.links.items l.links.items (length l.marks.items - 1) l.depth l.place l.step;
}

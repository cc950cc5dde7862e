-- The marks from `place` on are those of the code from there on.
use Rattle.std.proofs.Common.{◌≡◌, ◌≤◌, drop, length}
use Rattle.capkit_c.specs.Portable.{live_places}
use Rattle.capkit_c.proofs.portable.mark_live.Given as goal

abbrev pub invariant-loop-place : goal.invariant-loop-place
invariant-loop-place l =
    (l.place ≤ length l.insns) × (length l.marks ≡ length l.insns)
    × (drop l.place l.marks ≡ live_places l.word (drop l.place l.insns))

abbrev pub decreases-loop-place : goal.decreases-loop-place
decreases-loop-place l = l.place

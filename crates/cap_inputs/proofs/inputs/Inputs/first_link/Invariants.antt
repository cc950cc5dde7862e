-- The link type is the first one that the cursors from `i` on declare.
use Rattle.std.proofs.Common.{◌≡◌, ◌≤◌, length, drop}
use Rattle.cap_inputs.specs.inside.Inputs.{first_declared_link}
use Rattle.cap_inputs.proofs.inputs.Inputs.first_link.Given as goal

abbrev pub invariant-loop-i : goal.invariant-loop-i
invariant-loop-i g l = (l.i ≤ length l.cursors) × (l.first ≡ first_declared_link (drop l.i l.cursors))

abbrev pub decreases-loop-i : goal.decreases-loop-i
decreases-loop-i g l = l.i

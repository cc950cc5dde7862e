-- The intervals so far begin before.
use Rattle.std.proofs.Common.{ℕ, ◌-◌, ◌<◌, ◌≤◌, length, get_or}
use Rattle.flt_gen.specs.inside.Intervals.{no_interval}
use Rattle.flt_gen.proofs.group.place_among.Given as goal

abbrev pub invariant-lower : goal.invariant-lower
invariant-lower l = record { within : l.at ≤ length l.numbers; lower : (k : ℕ) → k < l.at → (get_or l.numbers k no_interval).low < l.new.low }

abbrev pub decreases-lower : goal.decreases-lower
decreases-lower l = length l.numbers - l.at

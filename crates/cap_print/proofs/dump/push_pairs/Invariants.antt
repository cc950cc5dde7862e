-- What is appended so far, followed by the pairs of the remaining bytes, is the whole row.
use Rattle.std.proofs.Common.{◌≡◌, ◌+◌, ◌-◌, ◌*◌, ◌≤◌, ◌++◌, length, drop}
use Rattle.cap_print.specs.Dump.{pairs}
use Rattle.cap_print.proofs.dump.push_pairs.Given as goal

abbrev pub invariant-loop-at : goal.invariant-loop-at
invariant-loop-at l = record {
  within : l.at ≤ length l.bytes;
  bound : 2 * length l.text ≤ 2 * length l.fn.text + 5 * l.at;
  value : l.text ++ pairs (drop l.at l.bytes) ≡ l.fn.text ++ pairs l.bytes;
}

abbrev pub decreases-loop-at : goal.decreases-loop-at
decreases-loop-at l = length l.bytes - l.at

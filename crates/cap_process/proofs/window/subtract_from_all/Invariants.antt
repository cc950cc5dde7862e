-- The numbers so far are lowered, and the others unchanged.
use Rattle.std.proofs.Common.{◌≡◌, ℕ, ◌-◌, ◌<◌, ◌≤◌, get_or}
use Rattle.cap_process.proofs.window.subtract_from_all.Given as goal

abbrev pub invariant-loop-number : goal.invariant-loop-number
invariant-loop-number l = record {
  lowered : (i : ℕ) → i < l.number-index → get_or l.numbers i 0 ≡ get_or l.initial.numbers i 0 - l.less;
  same : (i : ℕ) → l.number-index ≤ i → get_or l.numbers i 0 ≡ get_or l.initial.numbers i 0;
}

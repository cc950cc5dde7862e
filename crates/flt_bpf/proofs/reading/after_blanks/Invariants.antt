-- All bytes so far are blanks.
use Rattle.std.proofs.Common.{◌≡◌, drop, ◌==◌}
use Rattle.flt_bpf.{proofs.Common.slice_split, specs.inside.Reading.later_numbers}
use Rattle.flt_bpf.proofs.reading.after_blanks.Given as goal

abbrev pub invariant-loop-at : goal.invariant-loop-at
invariant-loop-at l = later_numbers (slice_split (λ b. b == 32) l.text) ≡ later_numbers (slice_split (λ b. b == 32) (drop l.at l.text))

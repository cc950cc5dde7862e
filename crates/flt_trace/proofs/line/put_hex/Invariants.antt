-- The last digits are written, and the remaining ones come before them.
use Rattle.std.proofs.Common.{◌+◌, ◌≡◌, ◌≤◌, ◌<◌, ◌^◌, drop, false, length}
use Rattle.std.specs.Fmt.{digits, digits_onto}
use Rattle.flt_trace.proofs.line.put_hex.Given as goal

abbrev pub invariant-loop-rest : goal.invariant-loop-rest
invariant-loop-rest l = record {
  inside : l.start ≤ 7;
  eight : length l.digits ≡ 8;
  small : l.rest < 16 ^ (l.start + 1);
  value : digits_onto (57 + l.start) 16 false l.rest (drop (l.start + 1) l.digits) ≡ digits 16 false l.number;
}

abbrev pub decreases-loop-rest : goal.decreases-loop-rest
decreases-loop-rest l = l.rest

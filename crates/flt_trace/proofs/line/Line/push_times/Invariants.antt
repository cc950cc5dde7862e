-- The byte is appended as often as the loop has turned.
use Rattle.std.proofs.Common.{◌≡◌, ◌++◌, replicate}
use Rattle.flt_trace.proofs.line.Line.push_times.Given as goal

abbrev pub invariant-loop-pushed : goal.invariant-loop-pushed
invariant-loop-pushed l = l.self ≡ l.initial.self ++ replicate l._pushed l.byte

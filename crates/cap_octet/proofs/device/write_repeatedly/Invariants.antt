-- The first `written` bytes are written.
use Rattle.std.proofs.Common.{length, ◌-◌, ◌≡◌, ◌≤◌, ◌++◌, take, IsTrue}
use Rattle.cap_octet.proofs.device.write_repeatedly.Given as goal

abbrev pub invariant-loop-written : goal.invariant-loop-written
invariant-loop-written g l = record {
  within : l.written ≤ length l.buf;
  failed : g.O.Output.failures l.output ≡ g.O.Output.failures l.initial.output;
  room : g.O.Output.room l.output ≡ g.O.Output.room l.initial.output;
  exact : IsTrue g.O.Output.tells → g.O.Output.written l.output ≡ g.O.Output.written l.initial.output ++ take l.written l.buf;
}

abbrev pub decreases-loop-written : goal.decreases-loop-written
decreases-loop-written g l = length l.buf - l.written

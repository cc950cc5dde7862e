-- The run is at the instruction of the next step, and the steps before it are written.
use Rattle.std.proofs.Common.{◌-◌, length}
use Rattle.flt_trace.proofs.Tracing.{Standing, Written}
use Rattle.flt_trace.proofs.walk.trace.Given as goal

abbrev pub invariant-places : goal.invariant-places
invariant-places l = record {
  standing : Standing l.insns l.packet l.len l.place l.state l.count;
  written : Written l.insns l.packet l.len l.fn.steps l.steps l.count;
}

abbrev pub decreases-places : goal.decreases-places
decreases-places l = length l.insns - l.place

-- Before each instruction the run is in the machine's state.
use Rattle.{std.proofs.Common.length, flt_bpf.specs.inside.Position.RunStands}
use Rattle.flt_trace.proofs.walk.run_insns.Given as goal

abbrev pub invariant-turns : goal.invariant-turns
invariant-turns l = RunStands l.insns l.packet l.len l.at.rest.now l.state l.at.count

abbrev pub decreases-turns : goal.decreases-turns
decreases-turns l = length l.at.rest.now

-- A packet goes to the capture or to the lines; a text output ignores it.
use Rattle.std.proofs.Common.{arith}
use Rattle.cap_process.proofs.output.JobOutput.put.Goals as goal

pub returns-clause-exact : goal.returns-clause-exact
returns-clause-exact g c = grind arith

-- A report goes to the text output; the other outputs ignore it.
use Rattle.std.proofs.Common.{arith}
use Rattle.cap_process.proofs.output.JobOutput.report.Goals as goal

pub returns-clause-exact : goal.returns-clause-exact
returns-clause-exact g c = grind arith

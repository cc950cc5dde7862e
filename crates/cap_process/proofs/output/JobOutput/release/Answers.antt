-- A flush changes nothing of what contracts see of an output.
use Rattle.std.proofs.Common.{arith}
use Rattle.cap_process.proofs.output.JobOutput.release.Goals as goal

pub returns-clause-kept : goal.returns-clause-kept
returns-clause-kept g c = grind arith

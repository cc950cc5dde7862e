-- The parts that are written are the report's lines of sizes.
use Rattle.{std.proofs.Common.arith, cap_io.proofs.Parts.appends-as}
use Rattle.cap_process.proofs.report.write_sizes.Goals as goal

pub returns-clause-exact : goal.returns-clause-exact
returns-clause-exact g c = grind (arith, appends-as)

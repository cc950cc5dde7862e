-- A line of `compile` has no fault but lack of memory.
use Rattle.capkit.proofs.{Common.found_of, Common.rows_of, Saying.compile_faultless, Saying.memory_alone}
use Rattle.capkit.proofs.line.line_of_matches.Goals as goal

pub returns-in-Compile-clause-faultless : goal.returns-in-Compile-clause-faultless
returns-in-Compile-clause-faultless c = rw c.in-Compile.is (compile_faultless (rows_of (found_of c.args.matches.now)) c.compile_line.result)

pub returns-in-Compile-clause-fault : goal.returns-in-Compile-clause-fault
returns-in-Compile-clause-fault c = rw c.in-Compile.is (memory_alone (rows_of (found_of c.args.matches.now)) c.compile_line.result c.compile_line.ensures.fault)

-- The tests that are left.
use Rattle.std.proofs.Common.{length}
use Rattle.flt_gen.proofs.code.Code.+emit_tests.Given as goal

abbrev pub decreases-emit_tests : goal.decreases-emit_tests
decreases-emit_tests g l = length l.tests.now

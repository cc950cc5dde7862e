-- The cases that are left.
use Rattle.std.proofs.Common.{length}
use Rattle.flt_gen.proofs.code.Code.+emit_cases_in_turn.Given as goal

abbrev pub decreases-emit_cases_in_turn : goal.decreases-emit_cases_in_turn
decreases-emit_cases_in_turn g l = length l.cases.now

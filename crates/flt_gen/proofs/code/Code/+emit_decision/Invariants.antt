-- How often they are halved at most.
use Rattle.flt_gen.proofs.code.Code.+emit_decision.Given as goal

abbrev pub decreases-emit_decision : goal.decreases-emit_decision
decreases-emit_decision g l = l.most

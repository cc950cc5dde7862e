-- The numbers that are left.
use Rattle.std.proofs.Common.{length}
use Rattle.flt_gen.proofs.code.Code.+emit_chain.Given as goal

abbrev pub decreases-emit_chain : goal.decreases-emit_chain
decreases-emit_chain g l = length l.items.now

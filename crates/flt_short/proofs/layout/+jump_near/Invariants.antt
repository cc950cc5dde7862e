-- What is left.
use Rattle.std.proofs.Common.{length}
use Rattle.flt_short.proofs.layout.+jump_near.Given as goal

abbrev pub decreases-jump_near : goal.decreases-jump_near
decreases-jump_near l = length l.jumps.now

-- The entries that are left.
use Rattle.std.proofs.Common.{length}
use Rattle.flt_gen.proofs.waiting.+leave_out.Given as goal

abbrev pub decreases-leave_out : goal.decreases-leave_out
decreases-leave_out g l = length l.protocols.now

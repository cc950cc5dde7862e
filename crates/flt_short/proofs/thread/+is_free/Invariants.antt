-- What is left.
use Rattle.std.proofs.Common.{length}
use Rattle.flt_short.proofs.thread.+is_free.Given as goal

abbrev pub decreases-is_free : goal.decreases-is_free
decreases-is_free l = length l.code.now

-- What is left.
use Rattle.std.proofs.Common.{length}
use Rattle.flt_short.proofs.alike.+are_copies.Given as goal

abbrev pub decreases-are_copies : goal.decreases-are_copies
decreases-are_copies l = length l.one.now

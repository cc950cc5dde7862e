-- What is left.
use Rattle.flt_short.proofs.thread.+walk.Given as goal

abbrev pub decreases-walk : goal.decreases-walk
decreases-walk l = l.fuel

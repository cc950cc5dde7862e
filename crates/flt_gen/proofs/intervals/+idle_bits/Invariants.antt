-- The bits that are left.
use Rattle.flt_gen.proofs.intervals.+idle_bits.Given as goal

abbrev pub decreases-idle_bits : goal.decreases-idle_bits
decreases-idle_bits l = l.bits

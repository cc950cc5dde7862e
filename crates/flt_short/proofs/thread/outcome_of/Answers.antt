-- The bits are 0 or not.
use Rattle.flt_short.proofs.Threading.{decides_bits}
use Rattle.flt_short.proofs.thread.outcome_of.Goals as goal

pub returns-in-Some : goal.returns-in-Some
returns-in-Some c = rw c.in-AnyBit.is (decides_bits c.args.known.now c.args.held.now c.args.number c.in-Some.is_zero
    (rw c.masked_held.ensures at c.in-Some.ensures))

-- In the end nothing is pending.
use Rattle.flt_explain.proofs.{Common.arith, Writing.settled_end}
use Rattle.flt_explain.proofs.backward.Writer.write_pending.Goals as goal

pub returns : goal.returns
returns g c = grind (arith, settled_end)

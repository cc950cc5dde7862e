-- Code that isn't replaced is no longer than itself.
use Rattle.flt_short.proofs.Likeness.{itself}
use Rattle.flt_short.proofs.shorten.shortened.Goals as goal

pub returns-in-None : goal.returns-in-None
returns-in-None g c = itself c.args.insns.items

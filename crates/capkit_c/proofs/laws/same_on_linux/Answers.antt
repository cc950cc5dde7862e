-- The law is a lemma on portable programs.
use Rattle.capkit_c.proofs.Portables.{same_on_linux}
use Rattle.capkit_c.proofs.laws.same_on_linux.Goals as goal

pub returns : goal.returns
returns c = same_on_linux

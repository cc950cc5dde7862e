-- A read of fewer bytes than were asked for is a read into the first part of the buffer.
use Rattle.{std.proofs.Common.arith, cap_octet.proofs.Fronts.Reads-front}
use Rattle.cap_octet.proofs.trial.TrialInputInput.read.Goals as goal

pub returns-clause-exact : goal.returns-clause-exact
returns-clause-exact c = λ exact. Reads-front _ _ _ _ _ _ (omega arith) (λ room. omega arith) c.read.ensures.within (c.read.ensures.exact exact)

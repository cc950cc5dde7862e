-- The policy of an edit returns the edit's verdict.
use Rattle.cap_process.proofs.selector.Policy.keeps.Goals as goal

pub returns-in-Edit-clause-exact : goal.returns-in-Edit-clause-exact
returns-in-Edit-clause-exact g c = λ passed tally judges. rw c.in-Edit.is (c.edit_packet.ensures.exact passed tally)

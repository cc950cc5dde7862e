-- A copy of a copy has the same bytes, since what is written is read back.
use Rattle.cap_process.proofs.Wholes.{edits_alike}
use Rattle.cap_process.proofs.law.edit_again_is_alike.Goals as goal

pub returns : goal.returns
returns c = edits_alike c.items_back.ensures

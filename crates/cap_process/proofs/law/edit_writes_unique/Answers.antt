-- The law's two parts are lemmas of Wholes.
use Rattle.cap_process.proofs.Wholes.{edit_ends, edit_writes}
use Rattle.cap_process.proofs.law.edit_writes_unique.Goals as goal

pub returns : goal.returns
returns c = record { output = edit_writes; ends = edit_ends }

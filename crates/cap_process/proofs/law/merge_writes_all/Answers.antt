-- The law's two parts are lemmas of Wholes.
use Rattle.cap_process.proofs.Wholes.{merge_ends, merge_writes}
use Rattle.cap_process.proofs.law.merge_writes_all.Goals as goal

pub returns : goal.returns
returns c = record { output = merge_writes; ends = merge_ends }

-- The law follows from reading back what is written.
use Rattle.cap_process.proofs.Wholes.{copy_ends, edit_keeps}
use Rattle.cap_process.proofs.law.edit_keeps_what_is_carried.Goals as goal

pub returns : goal.returns
returns c = record { output = edit_keeps c.items_back.ensures; ends = copy_ends }

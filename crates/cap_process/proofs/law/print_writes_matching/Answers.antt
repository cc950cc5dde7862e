-- The law's two parts are lemmas of Wholes.
use Rattle.cap_process.proofs.Wholes.{print_ends, print_writes}
use Rattle.cap_process.proofs.law.print_writes_matching.Goals as goal

pub returns : goal.returns
returns c = record { output = print_writes; ends = print_ends }

-- The law is a lemma of Wholes.
use Rattle.cap_process.proofs.Wholes.{print_lines}
use Rattle.cap_process.proofs.law.print_has_their_lines.Goals as goal

pub returns : goal.returns
returns c = print_lines

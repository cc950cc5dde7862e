-- The law is a lemma on blocks that are written.
use Rattle.cap_pcapng.proofs.WrittenBack.{interface_back}
use Rattle.cap_pcapng.proofs.laws.interface_back.Goals as goal

pub returns : goal.returns
returns c = interface_back

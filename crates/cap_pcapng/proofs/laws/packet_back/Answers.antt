-- The law is a lemma on blocks that are written.
use Rattle.cap_pcapng.proofs.WrittenBack.{packet_back}
use Rattle.cap_pcapng.proofs.laws.packet_back.Goals as goal

pub returns : goal.returns
returns c = packet_back

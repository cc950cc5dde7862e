-- The law is a lemma on blocks that are written.
use Rattle.cap_pcapng.proofs.WrittenBack.{section_back}
use Rattle.cap_pcapng.proofs.laws.section_back.Goals as goal

pub returns : goal.returns
returns c = section_back

-- The law is a lemma on the bytes that are written.
use Rattle.cap_io.proofs.Texts.{by-packets, HasPackets-put}
use Rattle.cap_io.proofs.laws.put_extends_text.Goals as goal

pub returns : goal.returns
returns c = record { by_packets = by-packets; text = HasPackets-put }

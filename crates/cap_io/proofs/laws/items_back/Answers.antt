-- The law is a lemma on reading back what is written.
use Rattle.cap_io.proofs.{Common.Pcap, Common.NsecPcap, Common.Pcapng, Common.ItemsBack, PcapBack.pcap-back, PcapBack.nanoseconds-back, PcapngBack.pcapng-back}
use Rattle.cap_io.proofs.laws.items_back.Goals as goal

items-back : ItemsBack
items-back Pcap = pcap-back
items-back NsecPcap = nanoseconds-back
items-back Pcapng = pcapng-back

pub returns : goal.returns
returns c = items-back

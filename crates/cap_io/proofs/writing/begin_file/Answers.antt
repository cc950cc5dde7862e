-- A pcap file begins with its header.
use Rattle.cap_io.proofs.{Common.arith, Common.append-nil, Parts.appends-as, Parts.is-pcap, Parts.pcap-file_header}
use Rattle.cap_io.proofs.writing.begin_file.Goals as goal

pub returns-in-Pcap : goal.returns-in-Pcap
returns-in-Pcap g c = grind (arith, append-nil, pcap-file_header, is-pcap, appends-as)

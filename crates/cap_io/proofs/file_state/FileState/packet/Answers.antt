-- The packet of a unit has the fields of its record or block, and those of its interface.
use Rattle.cap_pcapng.proofs.Entered.{known_interface}
use Rattle.cap_io.proofs.{Common.common_steps, Common.arith, Passing.part-lent, Passing.pcap-lent, Passing.pcapng-lent}
use Rattle.cap_io.proofs.file_state.FileState.packet.Goals as goal

pub returns-in-Pcap-clause-packet : goal.returns-in-Pcap-clause-packet
returns-in-Pcap-clause-packet g c = grind (arith, pcap-lent, part-lent)

pub returns-in_ok-interface-in-Pcapng-clause-packet : goal.returns-in_ok-interface-in-Pcapng-clause-packet
returns-in_ok-interface-in-Pcapng-clause-packet g c = grind (arith, pcapng-lent, known_interface, part-lent)

pub returns-in-Pcap-clause-short : goal.returns-in-Pcap-clause-short
returns-in-Pcap-clause-short g c = grind (arith, common_steps)

pub returns-in_ok-interface-in-Pcapng-clause-short : goal.returns-in_ok-interface-in-Pcapng-clause-short
returns-in_ok-interface-in-Pcapng-clause-short g c = grind (arith, common_steps)

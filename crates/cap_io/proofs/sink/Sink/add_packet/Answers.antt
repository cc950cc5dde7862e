-- The bytes of the packet are written after those of the packets before it.
use Rattle.cap_io.proofs.Common.{arith, checked, AppendsOrStops, captured}
use Rattle.cap_io.specs.Sink.{added_in}
use Rattle.cap_io.proofs.Parts.{adds-failed, record-adds, block-adds}
use Rattle.cap_io.proofs.sink.Sink.add_packet.Goals.{in-Pcap, in-Pcapng+in_ok-interface-in-Pcapng}
use Rattle.cap_io.proofs.sink.Sink.add_packet.Goals as goal

pub returns-in_default-clause-bytes : goal.returns-in_default-clause-bytes
returns-in_default-clause-bytes g c = λ tells.
    let exact : AppendsOrStops c.match-self.written c.args.self.now.written (added_in c.args.self.now (captured c.args.packet.now))
    (g.O.Output.written c.match-self.self-inside.output) = rw (← c.self.view_is) (elim c.match-self.branch [
      | in-Pcap w ↦ grind (arith, record-adds)
      | in-Pcapng+in_ok-interface-in-Pcapng w ↦ rw (w.written-is, w.self-inside-is)
          (block-adds _ _ _ _ _ _ _ _ _ w.in-Pcapng.is w.in_ok-interface-in-Pcapng.ensures.number (w.write_block-written.ensures.appended tells))
    ]) in
    grind (arith, checked, captured, adds-failed)

pub returns-in-Empty-clause-bytes : goal.returns-in-Empty-clause-bytes
returns-in-Empty-clause-bytes g c = λ tells.
    let exact : AppendsOrStops c.match-self.written c.args.self.now.written (added_in c.args.self.now (captured c.args.packet.now))
    (g.O.Output.written c.match-self.self-inside.output) = rw (← c.self.view_is) (elim c.match-self.branch [
      | in-Pcap w ↦ grind (arith, record-adds)
      | in-Pcapng+in_ok-interface-in-Pcapng w ↦ rw (w.written-is, w.self-inside-is)
          (block-adds _ _ _ _ _ _ _ _ _ w.in-Pcapng.is w.in_ok-interface-in-Pcapng.ensures.number (w.write_block-written.ensures.appended tells))
    ]) in
    rw c.in-Ok.is at exact

pub returns-in_default-state-clause-bytes : goal.returns-in_default-state-clause-bytes
returns-in_default-state-clause-bytes g c = λ tells.
    let exact : AppendsOrStops c.match-self.written c.args.self.now.written (added_in c.args.self.now (captured c.args.packet.now))
    (g.O.Output.written c.match-self.self-inside.output) = rw (← c.self.view_is) (elim c.match-self.branch [
      | in-Pcap w ↦ grind (arith, record-adds)
      | in-Pcapng+in_ok-interface-in-Pcapng w ↦ rw (w.written-is, w.self-inside-is)
          (block-adds _ _ _ _ _ _ _ _ _ w.in-Pcapng.is w.in_ok-interface-in-Pcapng.ensures.number (w.write_block-written.ensures.appended tells))
    ]) in
    rw c.in-Ok.is at exact

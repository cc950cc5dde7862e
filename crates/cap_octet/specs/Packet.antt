-- A packet as its values, without their addresses in memory.
use Rattle.std.specs.Prelude.{ℕ, List}
use Rattle.cap_octet.specs.declared.packet.Packet.{Packet}

-- a packet, as contracts see it
pub record Captured : Type 0 where
  -- the link type and the snap length of its interface, or of its pcap file
  pub link : ℕ
  pub snap : ℕ
  -- its interface's name; empty in pcap
  pub name : List ℕ
  pub time : ℕ
  pub orig : ℕ
  pub bytes : List ℕ
  -- empty if there is none
  pub comment : List ℕ

-- the values of a packet
abbrev pub captured : Packet → Captured
captured p = record {
  link = p.link;
  snap = p.snap;
  name = p.name.now;
  time = p.time;
  orig = p.orig;
  bytes = p.bytes.now;
  comment = p.comment.now;
}

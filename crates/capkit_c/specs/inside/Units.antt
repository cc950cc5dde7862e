-- What is known before a unit, and the places of its packet in the capture.
use Rattle.std.specs.Prelude.{◌≡◌, ℕ, ◌+◌, List, [], Some}
use Rattle.cap_octet.specs.Packet.{Captured}
use Rattle.cap_pcapng.specs.declared.effect.{BlockEffect.BlockEffect, PacketSpans.PacketSpans}
use Rattle.cap_io.specs.{Capture.Declared, Reading.packet_in_unit, declared.file_state.FileState.FileState}
use Rattle.capkit_c.specs.Layout.{most_known}
use Rattle.capkit_c.specs.declared.memory.layout.{Packet.Packet, Reader.Reader}

-- the packet at these spans of the unit at an offset of the capture, with offsets from the
-- capture's start; link type and snap length are those of its interface or its file
pub record IsPacketAt (offset : ℕ) (declared : Declared) (spans : PacketSpans)
    (p : Packet) : Type 0 where
  pub time : p.time ≡ spans.time
  pub at : p.at ≡ offset + spans.bytes.start
  pub options_at : p.options_at ≡ offset + spans.options.start
  pub captured : p.captured ≡ spans.bytes.length
  pub original : p.original ≡ spans.orig
  pub options_length : p.options_length ≡ spans.options.length
  pub interface : p.interface ≡ spans.interface
  pub link : (unit : List ℕ) (q : Captured) → packet_in_unit declared spans unit ≡ Some q
      → q.link ≡ p.link_type
  pub snap : (unit : List ℕ) (q : Captured) → packet_in_unit declared spans unit ≡ Some q
      → q.snap ≡ p.snap

-- a unit adds an interface, and as many are known as the table has room for
abbrev pub FindsNoRoom : BlockEffect → (count room : ℕ) → Type 0
FindsNoRoom (BlockEffect.Interface interface) count room = count ≡ room
FindsNoRoom other count room = ⊥

-- if no unit was read, no interface is known
abbrev pub IsBare : FileState → ℕ → Type 0
IsBare FileState.Unknown count = count ≡ 0
IsBare (FileState.Pcap head) count = Unit {0}
IsBare (FileState.Pcapng order link) count = Unit {0}

-- `count` interfaces are known, by the reader and the room of the table, if a unit was read
abbrev pub Counts : FileState → Reader → ℕ → ℕ → Type 0
Counts FileState.Unknown r room count = Unit {0}
Counts (FileState.Pcap head) r room count = count ≡ most_known r room
Counts (FileState.Pcapng order link) r room count = count ≡ most_known r room

-- as many interfaces are known as the table has room for
abbrev pub IsFull : FileState → Reader → ℕ → Type 0
IsFull form r room = Counts form r room room × IsBare form room

-- a unit was read, and nothing is left
abbrev pub IsAtEnd : FileState → List ℕ → Type 0
IsAtEnd FileState.Unknown text = ⊥
IsAtEnd (FileState.Pcap head) text = text ≡ []
IsAtEnd (FileState.Pcapng order link) text = text ≡ []

-- The unit that some bytes begin with, and the place of its packet.
use Rattle.std.specs.Prelude.{◌≡◌, ℕ, ◌+◌, ◌^◌, ◌<◌, ◌≤◌, List, [], ◌∷◌, length, take, Some}
use Rattle.cap_octet.specs.Packet.{Captured}
use Rattle.cap_pcapng.specs.{Effect.interfaces_after, Interface.Described, Interface.most_interfaces}
use Rattle.cap_pcapng.specs.declared.effect.{BlockEffect.BlockEffect, PacketSpans.PacketSpans}
use Rattle.cap_io.specs.Capture.{Declared, Whole, front_of}
use Rattle.cap_io.specs.Reading.{UnitHas, declared_by, most_in_unit, packet_in_unit}
use Rattle.cap_io.specs.declared.{file_state.FileState.FileState, first_unit.FoundUnit.FoundUnit}

-- if a unit was read before, some bytes remain
abbrev pub IsSomeFor : FileState → List ℕ → Type 0
IsSomeFor FileState.Unknown text = Unit {0}
IsSomeFor (FileState.Pcap head) text = 0 < length text
IsSomeFor (FileState.Pcapng order first) text = 0 < length text

-- A unit of this size has one packet. Its data and its options lie at these spans in the unit.
pub record HoldsPacket (declared : Declared) (text : List ℕ) (size : ℕ) (spans : PacketSpans)
    (packets : List Captured) : Type 0 where
  pub packet : Captured
  pub only : packets ≡ packet ∷ []
  pub is_lent : packet_in_unit declared spans (take size text) ≡ Some packet
  pub lies : UnitHas declared text spans
  pub whole : spans.size ≡ size
  pub bytes : spans.bytes.start + spans.bytes.length ≤ size
  pub options : spans.options.start + spans.options.length ≤ size
  pub time : spans.time < 2 ^ 63

-- the packets of a unit with this effect: one, or none
abbrev pub HoldsPackets : Declared → List ℕ → ℕ → BlockEffect → List Captured → Type 0
HoldsPackets declared text size (BlockEffect.Packet spans) packets =
    HoldsPacket declared text size spans packets
HoldsPackets declared text size other packets = packets ≡ []

-- an interface is added only in pcapng
abbrev pub IsEffectIn : FileState → BlockEffect → Type 0
IsEffectIn (FileState.Pcapng order first) effect = Unit {0}
IsEffectIn other (BlockEffect.Interface interface) = ⊥
IsEffectIn other effect = Unit {0}

-- These bytes begin with this unit, after units that declare this. A section of at most 256
-- interfaces has no more after it.
pub record BeginsWithUnit (file : FileState) (interfaces : List Described) (text : List ℕ)
    (unit : FoundUnit) : Type 0 where
  pub packets : List Captured
  pub front : front_of (declared_by file interfaces) text
      ≡ Whole unit.size packets (declared_by unit.file (interfaces_after unit.effect interfaces))
  pub has : HoldsPackets (declared_by unit.file (interfaces_after unit.effect interfaces)) text
      unit.size unit.effect packets
  pub there : unit.size ≤ length text
  pub some : 0 < unit.size
  pub small : unit.size ≤ most_in_unit
  pub adds : IsEffectIn unit.file unit.effect
  pub fits : length interfaces ≤ most_interfaces
      → length (interfaces_after unit.effect interfaces) ≤ most_interfaces

-- The effect of a call that reads one unit (a file header, a record or a block): on the device, the
-- buffer and the state of the file. A clause after `IsTrue device.tells` applies only if contracts
-- know the bytes of the device.
use Rattle.std.specs.Io.{StartsWith}
use Rattle.std.specs.List.{slice_get}
use Rattle.std.specs.Prelude.{◌≡◌, ℕ, ◌+◌, ◌^◌, ◌<◌, ◌≤◌, ◌⊎◌, Bool, true, false, List, [], ◌∷◌, ◌++◌, length, take, drop, Option, None, Some, Result, Err, IfOk, IfErr, is_some, IsTrue, OnOk, OnErr}
use Rattle.cap_octet.specs.{Device.HasGiven, Packet.Captured, declared.device.Input.Ghosts, declared.fault.Fault.Fault}
use Rattle.cap_octet.specs.declared.fault.Fault.TheVariants.{NoMemory, ReadFailed, Truncated}
use Rattle.cap_octet.specs.declared.number.Order.{Order}
use Rattle.cap_pcap.specs.{Header.IsHeader, declared.header.Head.Head, declared.header.RecordHead.RecordHead}
use Rattle.cap_pcapng.specs.{Frame.is_section, Interface.Described, Interface.FitSection}
use Rattle.cap_pcapng.specs.{Unit.Section, declared.effect.PacketSpans.PacketSpans}
use Rattle.cap_io.specs.Capture.{Declared, Nothing, PcapFile, PcapngFile, IsUnit, NoUnit, first_link_after, front_of, is_pcapng}
use Rattle.cap_io.specs.Reading.{most_in_unit, read_failures, IsTaken, TakesMemory, held_length, IsReason, declared_by, packet_in_unit}
use Rattle.cap_io.specs.declared.file_state.{FileState.FileState, NextUnit.NextUnit}
use Rattle.cap_io.specs.inside.Lending.{Lends}
use Rattle.cap_io.specs.declared.{lending.Lending.Lending, next_unit.UnitReader.UnitReader}

-- How a call that reads a unit changes the counts of its device. Before the call, the first `front`
-- bytes of the unit had been read. If the call succeeds, `count` bytes of the unit have been read,
-- including those; if it fails, at most `most`. The device fails at most once in a call, and the
-- result is `ReadFailed` if and only if it does.
pub record Moves {I X : Type 0} (device : Ghosts I) (old new : I) (front : ℕ) (count : X → ℕ)
    (most : ℕ) (r : Result X Fault) : Type 0 where
  pub counted : IfOk r (λ x. device.given new + front ≡ device.given old + count x)
  pub grown : device.given old ≤ device.given new
  -- if the call succeeds and has read bytes, the device has given fewer than 2^63 in all
  pub bounded : IfOk r (λ x. front < count x → device.given new < 2 ^ 63)
  pub at_most : IfErr r (λ _. device.given new + front ≤ device.given old + most)
  pub failed : device.failures new ≡ device.failures old + read_failures r
  pub sure : device.sure new ≡ device.sure old
  -- a device that has ever failed has given at least as many bytes as it was sure to give
  pub enough : 0 < device.failures new → HasGiven (device.sure new) (device.given new)
  -- the number of unread bytes decreased by the number of bytes given
  pub told : IsTrue device.tells
      → device.given new + length (device.unread new)
      ≡ device.given old + length (device.unread old)

-- A fault was returned instead of a unit: that of the first check that fails, `ReadFailed` or
-- `NoMemory`. A prefix of the bytes was taken, perhaps none; with `NoMemory`, perhaps all
-- of the unit.
pub record NoUnitCame (declared : Declared) (unread unread' : List ℕ) (fault : Fault) : Type 0 where
  pub why : IsReason declared unread fault
  pub taken : IsTaken declared unread unread' fault

-- The first `from` of `size` bytes had been read. The others couldn't all be read: too few are
-- unread (`Truncated`), or the device failed (`ReadFailed`). `count` of them were taken, not all.
pub record RestMissing (from size : ℕ) (unread unread' : List ℕ) (fault : Fault) : Type 0 where
  pub why : ((fault ≡ Truncated) × (from + length unread < size)) ⊎ (fault ≡ ReadFailed)
  pub count : ℕ
  pub within : from + count < size
  pub there : count ≤ length unread
  pub rest : unread' ≡ drop count unread

-- the first bytes of a unit were read (true), or the input had ended (false)
abbrev pub FrontCame : List ℕ → List ℕ → Bool → List ℕ → Type 0
FrontCame unread front true unread' = unread ≡ front ++ unread'
FrontCame unread front false unread' = (unread ≡ []) × (unread' ≡ [])

-- The first `size` bytes of a unit couldn't all be read: one byte or more was unread, but fewer
-- than `size` (`Truncated`), or the device failed (`ReadFailed`).
pub record FrontMissing (size : ℕ) (unread unread' : List ℕ) (fault : Fault) : Type 0 where
  pub some : 0 < length unread ⊎ (fault ≡ ReadFailed)
  pub missing : RestMissing 0 size unread unread' fault

-- the file header of pcap was read
pub record HeaderCame (unread : List ℕ) (head : Head) (unread' : List ℕ) : Type 0 where
  pub bytes : List ℕ
  pub header : IsHeader bytes head
  pub splits : unread ≡ bytes ++ unread'

-- the byte order of the current section, if there is one
abbrev pub known_order : FileState → Option Order
known_order (FileState.Pcapng order first) = Some order
known_order other = None

-- the first link type that the units so far declare; None if none does
abbrev pub known_first_link : FileState → Option ℕ
known_first_link FileState.Unknown = None
known_first_link (FileState.Pcap head) = Some head.link
known_first_link (FileState.Pcapng order first) = first

-- Before the first unit there is no interface. In pcap there is no condition. In pcapng, the
-- section has at most 256 interfaces, with names of at most 255 bytes; if it has one, the first
-- link type of the file is known.
abbrev pub IsConsistent : FileState → List Described → Type 0
IsConsistent FileState.Unknown interfaces = interfaces ≡ []
IsConsistent (FileState.Pcap head) interfaces = Unit {0}
IsConsistent (FileState.Pcapng order first) interfaces =
    (first_link_after first (record { order = order; interfaces = interfaces }) ≡ first)
    × FitSection interfaces

-- The spans of a packet fit a buffer. Its data and its options end inside its unit. The unit has at
-- least one byte and at most `most_in_unit`, and the buffer is at least as long. The time is below
-- 2^63.
pub record FitsBuffer (spans : PacketSpans) (buffer : List ℕ) : Type 0 where
  pub bytes : spans.bytes.start + spans.bytes.length ≤ spans.size
  pub options : spans.options.start + spans.options.length ≤ spans.size
  pub there : spans.size ≤ length buffer
  pub some : 0 < spans.size
  pub small : spans.size ≤ most_in_unit
  pub time : spans.time < 2 ^ 63

-- The interface of a packet is declared. In pcap this is always true, and before the first unit
-- never; in pcapng it is true if the section has an interface of this number.
abbrev pub HasInterface : Declared → PacketSpans → Type 0
HasInterface Nothing spans = ⊥
HasInterface (PcapFile head) spans = Unit {0}
HasInterface (PcapngFile first section) spans =
    is_some (slice_get section.interfaces spans.interface) ≡ true

-- if a packet was read, its interface is declared
abbrev pub HasInterfaceIfAny : Declared → PacketSpans → NextUnit → Type 0
HasInterfaceIfAny declared spans NextUnit.Packet = HasInterface declared spans
HasInterfaceIfAny declared spans other = Unit {0}

-- the spans of the packet in a record with this header: its data follow the 16 bytes of the header,
-- and its options are empty
abbrev pub record_spans : RecordHead → PacketSpans
record_spans found = record {
  size = 16 + found.captured;
  bytes = record { start = 16; length = found.captured };
  options = record { start = 16; length = 0 };
  interface = 0;
  time = found.time;
  orig = found.orig;
}

-- a unit of `size` bytes without a packet was read
pub record UnitPassed (declared : Declared) (unread : List ℕ) (size : ℕ) (declared' : Declared)
    (unread' : List ℕ) : Type 0 where
  pub bytes : List ℕ
  pub unit : IsUnit declared bytes [] declared'
  pub sized : length bytes ≡ size
  pub splits : unread ≡ bytes ++ unread'

-- A unit with one packet was read. It is at the start of the buffer, the packet is at these spans,
-- and the declarations didn't change.
pub record PacketCame (declared : Declared) (unread buffer : List ℕ) (spans : PacketSpans)
    (declared' : Declared) (unread' : List ℕ) : Type 0 where
  pub packet : Captured
  pub is_lent : packet_in_unit declared spans (take spans.size buffer) ≡ Some packet
  pub unit : IsUnit declared (take spans.size buffer) (packet ∷ []) declared
  pub same : declared' ≡ declared
  pub splits : unread ≡ take spans.size buffer ++ unread'

-- These bytes begin with a whole unit with a packet, which lies at these spans.
pub record BeginsWithPacket (declared : Declared) (bytes : List ℕ) (spans : PacketSpans) : Type 0 where
  pub lies : FitsBuffer spans bytes
  pub known : HasInterface declared spans
  pub came : PacketCame declared bytes bytes spans declared (drop spans.size bytes)

-- A unit with a packet at these spans is lent: the bytes at hand begin with it, and it has at most
-- `room` bytes.
pub record UnitLent {I : Type 0} (device : Ghosts I) (declared : Declared) (room : ℕ)
    (old : Lending I device) (spans : PacketSpans) (new : Lending I device) : Type 0 where
  pub begins : BeginsWithPacket declared (drop old.lent (device.held old.input)) spans
  pub comes : IsTrue device.tells
      → StartsWith (drop old.lent (device.unread old.input))
      (drop old.lent (device.held old.input))
  pub fits : spans.size ≤ room
  pub lends : Lends device spans.size old.input old.lent new.input new.lent

-- the clean end: a unit was read before, and no bytes are unread
pub record EndCame (declared : Declared) (unread : List ℕ) (declared' : Declared)
    (unread' : List ℕ) : Type 0 where
  pub ends : front_of declared [] ≡ NoUnit None
  pub over : unread ≡ []
  pub same : declared' ≡ declared
  pub rest : unread' ≡ []

-- the result of reading a unit, for each value that the reader returns: a unit without a packet,
-- one with a packet, or the clean end
abbrev pub UnitCame : Declared → List ℕ → List ℕ → PacketSpans → NextUnit → Declared → List ℕ
    → Type 0
UnitCame declared unread buffer spans (NextUnit.Other size) declared' unread' =
    UnitPassed declared unread size declared' unread'
UnitCame declared unread buffer spans NextUnit.Packet declared' unread' =
    PacketCame declared unread buffer spans declared' unread'
UnitCame declared unread buffer spans NextUnit.End declared' unread' =
    EndCame declared unread declared' unread'

-- the size of the unit that was read; 0 at the end
abbrev pub unit_size : PacketSpans → NextUnit → ℕ
unit_size spans (NextUnit.Other size) = size
unit_size spans NextUnit.Packet = spans.size
unit_size spans NextUnit.End = 0

-- Bounds that hold even if contracts don't know the bytes of the device. A unit without a packet
-- has at least one byte; the spans of a packet fit the buffer. After either, the device has given
-- fewer than 2^63 bytes in all. At the end nothing is stated.
abbrev pub IsSized : PacketSpans → NextUnit → List ℕ → ℕ → Type 0
IsSized spans (NextUnit.Other size) buffer given = (0 < size) × (given < 2 ^ 63)
IsSized spans NextUnit.Packet buffer given = FitsBuffer spans buffer × (given < 2 ^ 63)
IsSized spans NextUnit.End buffer given = Unit {0}

-- the current section, before the next block is read; None in pcap and before the first unit
abbrev pub section_before : FileState → List Described → Option Section
section_before (FileState.Pcapng order first) interfaces =
    Some (record { order = order; interfaces = interfaces })
section_before other interfaces = None

-- Whether these bytes may begin a block: in pcapng always, in pcap never; before the first unit, if
-- they begin with the type of a section header.
abbrev pub BeginsBlock : FileState → List ℕ → Type 0
BeginsBlock FileState.Unknown front = is_section front ≡ true
BeginsBlock (FileState.Pcap head) front = ⊥
BeginsBlock (FileState.Pcapng order first) front = Unit {0}

-- Whether a block may begin here: in pcapng always, in pcap never; before the first unit, if the
-- bytes begin with the type of a section header.
abbrev pub BeginsAt : FileState → List ℕ → Type 0
BeginsAt FileState.Unknown text = is_pcapng text ≡ true
BeginsAt (FileState.Pcap head) text = ⊥
BeginsAt (FileState.Pcapng order first) text = Unit {0}

-- The effect of a call that reads a unit of which `front` was read before (often nothing): on the
-- device, the buffer, the spans of the packet, the table and the state of the file. A fault changes
-- neither the table nor the state of the file.
pub record ReadsUnit {I A : Type 0} (device : Ghosts I) (old : UnitReader I A) (front : List ℕ)
    (r : Result NextUnit Fault) (new : UnitReader I A) : Type 0 where
  pub moves : Moves device old.input new.input (length front) (unit_size new.spans) most_in_unit r
  pub sized : IfOk r (λ came. IsSized new.spans came new.buffer.items (device.given new.input))
  pub consistent : OnOk r (IsConsistent new.file new.table)
  pub known : IfOk r (HasInterfaceIfAny (declared_by new.file new.table) new.spans)
  pub ok : IfOk r
      (λ came. IsTrue device.tells
      → UnitCame (declared_by old.file old.table) (front ++ device.unread old.input)
      new.buffer.items new.spans came (declared_by new.file new.table) (device.unread new.input))
  pub err : IfErr r
      (λ fault. IsTrue device.tells
      → NoUnitCame (declared_by old.file old.table) (front ++ device.unread old.input)
      (device.unread new.input) fault)
  pub kept : OnErr r ((new.file ≡ old.file) × (new.table ≡ old.table))
  -- The buffer never gets shorter. It isn't longer than `most_in_unit`, unless it was before. If a
  -- unit was read, the buffer has room for it; the file header of pcap needs none.
  pub grown : length old.buffer.items ≤ length new.buffer.items
  pub bounded : length old.buffer.items ≤ most_in_unit → length new.buffer.items ≤ most_in_unit
  pub fits : IfOk r
      (λ came. held_length (declared_by old.file old.table) (declared_by new.file new.table)
      (unit_size new.spans came) ≤ length new.buffer.items)
  -- `NoMemory` is returned only if the unit describes an interface, or if its header states a
  -- length that is greater than that of the buffer
  pub memory : r ≡ Err NoMemory → IsTrue device.tells
      → TakesMemory (length new.buffer.items) (declared_by old.file old.table)
      (front ++ device.unread old.input)

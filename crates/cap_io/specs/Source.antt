-- The view of a source, and the results of its calls.
use Rattle.std.specs.Prelude.{◌≡◌, ℕ, ◌+◌, ◌^◌, ◌<◌, ◌≤◌, Bool, true, false, IsTrue, List, [], ◌∷◌, ◌++◌, length, take, drop, Option, None, Some, Result, Ok, Err, OnOk, OnErr, is_some}
use Rattle.cap_octet.specs.{Device.HasGiven, Packet.Captured, declared.device.Input.Ghosts}
use Rattle.cap_octet.specs.declared.fault.Fault.{Fault, TheVariants.NoMemory}
use Rattle.cap_pcapng.specs.{Interface.FitSection, declared.effect.PacketSpans.PacketSpans}
use Rattle.cap_io.specs.Capture.{Declared, Nothing, PcapngFile, IsUnit, AreUnits, NoUnit, front_of}
use Rattle.cap_io.specs.Reading.{most_in_unit, read_failures, IsReason, IsTaken, FitUnits, TakesMemory, declared_by, packet_in_unit}
use Rattle.cap_io.specs.declared.{lending.Lending.Lending, next_unit.UnitReader.UnitReader, source.Stage.Stage}

-- the phase of a source: it can be read on, or has met the clean end or a fault
pub data Phase : Type 0 where
  Reading : Phase
  Ended : Phase
  Failed : (fault : Fault) → Phase

-- the view of a source
pub record SourceView : Type 0 where
  pub phase : Phase
  -- the declarations of the units that were read
  pub declared : Declared
  -- the current packet, and the bytes of its unit, none if no packet is current
  pub packet : Option Captured
  pub block : List ℕ
  -- the offset of the current unit, or of the next one if no packet is current
  pub offset : ℕ
  -- the bytes that the device has left, and counts of the bytes that it gave and of its failures
  pub unread : List ℕ
  pub given : ℕ
  pub failures : ℕ
  -- how many bytes the device gives at least before it first fails; `None`: it never fails
  pub sure : Option ℕ
  -- the number of bytes that the buffer has room for
  pub room : ℕ

-- a source before its first read
abbrev pub source_at : List ℕ → ℕ → ℕ → Option ℕ → SourceView
source_at unread given failures sure = record {
  phase = Reading;
  declared = Nothing;
  packet = None;
  block = [];
  offset = 0;
  unread = unread;
  given = given;
  failures = failures;
  sure = sure;
  room = 0;
}

-- the phase of a source in this stage
abbrev pub phase_at : Stage → Phase
phase_at Stage.Ended = Ended
phase_at (Stage.Failed fault) = Failed fault
phase_at other = Reading

-- the bytes that the current unit is at the start of: the buffer's, or, if the unit is lent, those
-- that the device has at hand
abbrev pub unit_at : {I A : Type 0} → (device : Ghosts I) → Stage → UnitReader (Lending I device) A → List ℕ
unit_at device Stage.Lent r = device.held r.input.input
unit_at device other r = r.buffer.items

-- the bytes of the current unit, at the start of these; empty if no packet is current
abbrev pub block_at : Stage → PacketSpans → List ℕ → List ℕ
block_at Stage.Current spans bytes = take spans.size bytes
block_at Stage.Lent spans bytes = take spans.size bytes
block_at other spans bytes = []

-- the current packet; None if there is none
abbrev pub packet_at : Stage → PacketSpans → Declared → List ℕ → Option Captured
packet_at Stage.Current spans declared bytes =
    packet_in_unit declared spans (take spans.size bytes)
packet_at Stage.Lent spans declared bytes =
    packet_in_unit declared spans (take spans.size bytes)
packet_at other spans declared bytes = None

-- the view of a source with these fields; lent bytes count as given
abbrev pub view_of : {I A : Type 0} → (device : Ghosts I) → Stage → UnitReader (Lending I device) A → ℕ → SourceView
view_of device stage r offset = record {
  phase = phase_at stage;
  declared = declared_by r.file r.table;
  packet = packet_at stage r.spans (declared_by r.file r.table) (unit_at device stage r);
  block = block_at stage r.spans (unit_at device stage r);
  offset = offset;
  unread = drop r.input.lent (device.unread r.input.input);
  given = device.given r.input.input + r.input.lent;
  failures = device.failures r.input.input;
  sure = device.sure r.input.input;
  room = length r.buffer.items;
}

-- The source moves past the current unit and skips these bytes, which are complete units without
-- packets; `rest` remains.
pub record SkipsUnits (old new : SourceView) (rest : List ℕ) : Type 0 where
  pub passed : List ℕ
  pub splits : old.unread ≡ passed ++ rest
  pub units : AreUnits old.declared (old.offset + length old.block) passed [] new.declared
  pub offset : new.offset ≡ old.offset + length old.block + length passed
  -- the buffer, which never shrinks, has room for each of them, except the file header of pcap
  pub room : old.room ≤ new.room
  pub fit : FitUnits new.room old.declared passed new.declared

-- units without packets were skipped, and the next packet is current
pub record FindsPacket (old new : SourceView) : Type 0 where
  pub passes : SkipsUnits old new (new.block ++ new.unread)
  pub packet : Captured
  pub held : new.packet ≡ Some packet
  pub unit : IsUnit new.declared new.block (packet ∷ []) new.declared
  pub fits : length new.block ≤ new.room
  pub phase : new.phase ≡ Reading

-- the remaining units have no packet, and the clean end was met
pub record FindsEnd (old new : SourceView) : Type 0 where
  pub passes : SkipsUnits old new []
  pub ends : front_of new.declared [] ≡ NoUnit None
  pub unread : new.unread ≡ []
  pub block : new.block ≡ []
  pub packet : new.packet ≡ None
  pub phase : new.phase ≡ Ended

-- Units without packets were skipped, and then this fault was met: no unit is current. The fields
-- state why, when memory may run out, and how many bytes were read.
pub record IsBroken (old new : SourceView) (fault : Fault) : Type 0 where
  pub rest : List ℕ
  pub passes : SkipsUnits old new rest
  pub why : IsReason new.declared rest fault
  pub memory : fault ≡ NoMemory → TakesMemory new.room new.declared rest
  pub taken : IsTaken new.declared rest new.unread fault
  pub counted : new.given + length new.unread ≡ old.given + length old.unread
  pub block : new.block ≡ []
  pub packet : new.packet ≡ None

-- this fault was met, and the source has failed from then on
pub record FindsFault (old new : SourceView) (fault : Fault) : Type 0 where
  pub broken : IsBroken old new fault
  pub phase : new.phase ≡ Failed fault

-- the result of an `advance`, by its return value: a packet, the clean end or a fault
abbrev pub Finds : SourceView → Result Bool Fault → SourceView → Type 0
Finds old (Ok true) new = FindsPacket old new
Finds old (Ok false) new = FindsEnd old new
Finds old (Err fault) new = FindsFault old new fault

-- The result of an `advance` in this phase, for a device whose bytes contracts know. A source at
-- its end or after a fault returns that again, and is unchanged.
abbrev pub Advances : Phase → SourceView → Result Bool Fault → SourceView → Type 0
Advances Reading old r new = Finds old r new
Advances Ended old r new = (r ≡ Ok false) × (new ≡ old)
Advances (Failed fault) old r new = (r ≡ Err fault) × (new ≡ old)

-- the phase of a source after an `advance` that returned this
abbrev pub phase_after : Result Bool Fault → Phase
phase_after (Ok true) = Reading
phase_after (Ok false) = Ended
phase_after (Err fault) = Failed fault

-- the offset just past the current unit
abbrev pub end_offset : SourceView → ℕ
end_offset s = s.offset + length s.block

-- the current section has at most 256 interfaces, with names of at most 255 bytes
abbrev pub SectionFits : Declared → Type 0
SectionFits (PcapngFile first section) = FitSection section.interfaces
SectionFits declared = Unit {0}

-- the bounds that an `advance` keeps if the source has neither ended nor failed, for all devices:
-- on the counts, and on the size of what is held
pub record KeepsBounds (old : SourceView) (r : Result Bool Fault) (new : SourceView) : Type 0 where
  pub given : old.given ≤ new.given
  -- a failed read is reported if and only if the device failed in this call
  pub failures : new.failures ≡ old.failures + read_failures r
  -- a device that failed had given at least as many bytes as it was sure to
  pub sure : new.sure ≡ old.sure
  pub enough : 0 < new.failures → HasGiven new.sure new.given
  -- at most one unit is held, in a buffer that has room for it and never shrinks
  pub block : length new.block ≤ new.room
  pub held : new.room ≤ most_in_unit
  pub room : old.room ≤ new.room
  pub progress : r ≡ Ok true → old.given < new.given
  pub bounded : r ≡ Ok true → new.given < 2 ^ 63
  -- there is a current packet
  pub packet : r ≡ Ok true → is_some new.packet ≡ true
  -- All bytes that the device gave were skipped or are current, except those of an incomplete or
  -- faulty unit: at most one unit's bytes.
  pub counted : OnOk r (new.given + end_offset old ≡ old.given + end_offset new)
  pub broken : OnErr r
      ((old.given + end_offset new ≤ new.given + end_offset old)
      × (new.given + end_offset old ≤ old.given + end_offset new + most_in_unit))

-- the result of an `advance` from this phase, for all devices
abbrev pub Steps : Phase → SourceView → Result Bool Fault → SourceView → Type 0
Steps Reading old r new = KeepsBounds old r new
Steps Ended old r new = (r ≡ Ok false) × (new ≡ old)
Steps (Failed fault) old r new = (r ≡ Err fault) × (new ≡ old)

-- the result of taking the next packet if it is at hand: that of an `advance` which found it, or no
-- change
abbrev pub TakesIfAtHand : (tells : Bool) → SourceView → Bool → SourceView → Type 0
TakesIfAtHand tells old true new =
    (IsTrue tells → Advances old.phase old (Ok true) new)
    × Steps old.phase old (Ok true) new
    × (new.phase ≡ Reading)
TakesIfAtHand tells old false new = new ≡ old

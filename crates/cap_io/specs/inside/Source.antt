-- The invariant of a source between calls, and the result of reading one unit.
use Rattle.std.specs.Prelude.{◌≡◌, ℕ, ◌+◌, ◌^◌, ◌<◌, ◌≤◌, Bool, true, false, IsTrue, List, [], length, None, Result, Ok, Err, OnOk, OnErr, is_some}
use Rattle.cap_octet.specs.{Device.HasGiven, declared.device.Input.Ghosts, declared.fault.Fault.Fault}
use Rattle.cap_io.specs.{Capture.Declared, Reading.most_in_unit, Reading.read_failures, Reading.declared_by}
use Rattle.cap_io.specs.Source.{SourceView, block_at, unit_at, SkipsUnits, FindsPacket, FindsEnd, IsBroken, end_offset, Reading, Ended}
use Rattle.cap_io.specs.declared.file_state.NextUnit.{NextUnit}
use Rattle.cap_io.specs.declared.{lending.Lending.Lending, next_unit.UnitReader.UnitReader, source.Stage.Stage}
use Rattle.cap_io.specs.inside.Reading.{HasInterface, FitsBuffer, IsConsistent}
use Rattle.cap_pcapng.specs.declared.effect.PacketSpans.{PacketSpans}

-- if a packet is current, its unit is among these bytes
abbrev pub HoldsIfAny : Stage → PacketSpans → List ℕ → Type 0
HoldsIfAny Stage.Current spans bytes = FitsBuffer spans bytes
HoldsIfAny Stage.Lent spans bytes = FitsBuffer spans bytes
HoldsIfAny other spans bytes = Unit {0}

-- if a packet is current, its interface is known
abbrev pub HasInterfaceIfCurrent : Stage → PacketSpans → Declared → Type 0
HasInterfaceIfCurrent Stage.Current spans declared = HasInterface declared spans
HasInterfaceIfCurrent Stage.Lent spans declared = HasInterface declared spans
HasInterfaceIfCurrent other spans declared = Unit {0}

-- the invariant of a source's fields
pub record IsSound {I A : Type 0} (device : Ghosts I) (stage : Stage)
    (r : UnitReader (Lending I device) A) (offset : ℕ) : Type 0 where
  pub fits : offset + length (block_at stage r.spans (unit_at device stage r)) < 2 ^ 63
  pub counted : offset + length (block_at stage r.spans (unit_at device stage r))
      ≤ device.given r.input.input + r.input.lent
  pub lies : HoldsIfAny stage r.spans (unit_at device stage r)
  pub known : HasInterfaceIfCurrent stage r.spans (declared_by r.file r.table)
  pub consistent : IsConsistent r.file r.table
  pub bounded : length r.buffer.items ≤ most_in_unit

-- the result of reading on to the next packet, by the return value; the caller records a fault
abbrev pub Continues : SourceView → Result Bool Fault → SourceView → Type 0
Continues old (Ok true) new = FindsPacket old new
Continues old (Ok false) new = FindsEnd old new
Continues old (Err fault) new = IsBroken old new fault

-- a source past its current unit, if there was one: its offset is that of the next unit
abbrev pub past_unit : SourceView → SourceView
past_unit s = record s { packet = None; block = []; offset = s.offset + length s.block }

-- a source is between units: no packet is current, and no end or fault was met
pub record IsBetween (s : SourceView) : Type 0 where
  pub phase : s.phase ≡ Reading
  pub block : s.block ≡ []
  pub packet : s.packet ≡ None

-- the result of reading one unit, by the return value: a packet, a unit without one, the clean end,
-- or a fault
abbrev pub FindsNext : SourceView → Result NextUnit Fault → SourceView → Type 0
FindsNext old (Ok NextUnit.Packet) new = FindsPacket old new
FindsNext old (Ok (NextUnit.Other size)) new = SkipsUnits old new new.unread
FindsNext old (Ok NextUnit.End) new = FindsEnd old new
FindsNext old (Err fault) new = IsBroken old new fault

-- the bounds of reading one unit, for all devices: counts, and the size of what is held
pub record NextBounds (old : SourceView) (r : Result NextUnit Fault)
    (new : SourceView) : Type 0 where
  pub given : old.given ≤ new.given
  pub failures : new.failures ≡ old.failures + read_failures r
  pub sure : new.sure ≡ old.sure
  pub enough : 0 < new.failures → HasGiven new.sure new.given
  pub block : length new.block ≤ new.room
  pub held : new.room ≤ most_in_unit
  pub room : old.room ≤ new.room
  pub packet : r ≡ Ok NextUnit.Packet
      → (old.given < new.given) × (new.given < 2 ^ 63) × (is_some new.packet ≡ true)
  pub counted : OnOk r (new.given + end_offset old ≡ old.given + end_offset new)
  pub broken : OnErr r
      ((old.given + end_offset new ≤ new.given + end_offset old)
      × (new.given + end_offset old ≤ old.given + end_offset new + most_in_unit))
  pub ended : r ≡ Ok NextUnit.End → new.phase ≡ Ended
  pub found : r ≡ Ok NextUnit.Packet → new.phase ≡ Reading
  pub passed : (size : ℕ) → r ≡ Ok (NextUnit.Other size)
      → (old.given < new.given) × (new.given < 2 ^ 63) × IsBetween new

-- the current unit is left, and the next one, which the device has at hand and which has a packet,
-- is current
pub record TakesNext (tells : Bool) (old new : SourceView) : Type 0 where
  pub packet : IsTrue tells → FindsPacket old new
  pub bounds : NextBounds old (Ok NextUnit.Packet) new

-- Units from one place in a file to a later one, and the items after them.
use Rattle.std.proofs.Common.{◌≡◌, ℕ, ◌+◌, ◌-◌, ◌≤◌, ◌<◌, ◌^◌, Bool, false, Result, Ok, Err, List, [], ◌++◌, length, take, Option, Some, None, is_some, true}
use Rattle.std.proofs.Common.{refl, sym, ap, ◌∙◌, rules}
use Rattle.cap_io.proofs.Common.{HasGiven, arith, slice_get, option_map, append_assoc, drop-take, take-take, length-append, length-take-le, Order, Head}
use Rattle.cap_io.proofs.Common.{Described, Fault, NoMemory, PacketSpans, Declared, PcapngFile, PacketCame, NextUnit, Stage, KeepsBounds, OnOk}
use Rattle.cap_io.specs.Reading.{most_in_unit, read_failures, TakesMemory, held_length, no_unit_fits, packet_in_unit}
use Rattle.cap_io.specs.Capture.{PcapFile, AreUnits, no_unit}
use Rattle.cap_io.specs.inside.Reading.{EndCame, HasInterface, NoUnitCame, UnitPassed}
use Rattle.cap_io.specs.Source.{SourceView, Reading, Ended, Failed, SkipsUnits, IsBroken, FindsPacket, FindsEnd, FindsFault, block_at, end_offset, phase_at}
use Rattle.cap_io.specs.inside.Source.{IsBetween, HoldsIfAny, Continues, NextBounds, past_unit}
use Rattle.cap_pcapng.specs.{Unit.packet_of, Effect.span_bytes, Comment.comment_in, declared.effect.Span.Span}
use Rattle.cap_io.proofs.{Cuts.AreUnits-append, Units.FitUnits-append, Units.FitUnits-wider, Units.one_unit_fits, Units.one_unit}

-- ---- no unit is gone over

pub stays : (old new : SourceView) → new.declared ≡ old.declared → new.offset ≡ end_offset old → old.room ≤ new.room → SkipsUnits old new old.unread
stays old new declared place room = record {
  passed = [];
  splits = refl;
  units = rw declared no_unit;
  offset = omega (arith, place);
  room = room;
  fit = rw declared no_unit_fits;
}

-- without a current unit it ends at its offset
pub no-unit-end : (old : SourceView) (offset : ℕ) → IsBetween old → offset ≡ old.offset → offset ≡ end_offset old
no-unit-end old offset between place = grind arith

pub IsBroken-next : (old new : SourceView) (fault : Fault) → IsBetween old → NoUnitCame old.declared old.unread new.unread fault
    → new.declared ≡ old.declared → new.offset ≡ old.offset → old.room ≤ new.room
    → (fault ≡ NoMemory → TakesMemory new.room old.declared old.unread) → new.given + length new.unread ≡ old.given + length old.unread
    → new.block ≡ [] → new.packet ≡ None → IsBroken old new fault
IsBroken-next old new fault between refuses declared place room memory counted block packet = grind (arith, stays, no-unit-end)

pub FindsEnd-next : (old new : SourceView) → IsBetween old → EndCame old.declared old.unread new.declared new.unread → new.offset ≡ old.offset
    → old.room ≤ new.room
    → new.block ≡ [] → new.packet ≡ None → new.phase ≡ Ended → FindsEnd old new
FindsEnd-next old new between came place room block packet phase = grind (arith, stays, no-unit-end)

-- ---- one unit

pub SkipsUnits-next : (old new : SourceView) (size : ℕ) → IsBetween old → UnitPassed old.declared old.unread size new.declared new.unread
    → new.offset ≡ old.offset + size
    → old.room ≤ new.room → held_length old.declared new.declared size ≤ new.room → SkipsUnits old new new.unread
SkipsUnits-next old new size between came place room fits = record {
  passed = came.bytes;
  splits = came.splits;
  units = one_unit came.unit;
  offset = rw between.block (omega (arith, place, came.sized));
  fit = one_unit_fits came.unit (ap (held_length old.declared new.declared) came.sized) fits;
  room = room;
}

pub FindsPacket-next : (old new : SourceView) (spans : PacketSpans) (buffer : List ℕ) → PacketCame old.declared old.unread buffer spans new.declared new.unread
    → new.block ≡ take spans.size buffer → new.packet ≡ packet_in_unit new.declared spans (take spans.size buffer) → new.offset ≡ end_offset old
    → old.room ≤ new.room → length (take spans.size buffer) ≤ new.room → new.phase ≡ Reading
    → FindsPacket old new
FindsPacket-next old new spans buffer came block packet place room fits phase = grind (arith, stays)

-- ---- units after the unit in hand, and after others

pub SkipsUnits-then : (old mid new : SourceView) (rest : List ℕ) → SkipsUnits old mid mid.unread → mid.block ≡ [] → SkipsUnits mid new rest
    → SkipsUnits old new rest
SkipsUnits-then old mid new rest first none more =
    let place : mid.offset + length mid.block ≡ old.offset + length old.block + length first.passed = rw none (omega (arith, first.offset)) in
    let units : AreUnits old.declared (old.offset + length old.block) (first.passed ++ more.passed) [] new.declared =
    AreUnits-append first.units (rw place at more.units) in
    record {
      passed = first.passed ++ more.passed;
      splits = first.splits ∙ ap (λ (l : List ℕ). first.passed ++ l) more.splits ∙ sym (append_assoc first.passed more.passed rest);
      units = units;
      offset = omega (arith, more.offset, place, length-append first.passed more.passed);
      fit = FitUnits-append (FitUnits-wider more.room first.fit) more.fit;
      room = omega (arith, first.room, more.room);
    }

pub FindsPacket-then : (old mid new : SourceView) → SkipsUnits old mid mid.unread → mid.block ≡ [] → FindsPacket mid new → FindsPacket old new
FindsPacket-then old mid new first none finds = grind (arith, SkipsUnits-then)

pub FindsEnd-then : (old mid new : SourceView) → SkipsUnits old mid mid.unread → mid.block ≡ [] → FindsEnd mid new → FindsEnd old new
FindsEnd-then old mid new first none finds = grind (arith, SkipsUnits-then)

counted_so_far : (old mid : SourceView) → (first : SkipsUnits old mid mid.unread) → mid.block ≡ [] → mid.given + end_offset old ≡ old.given +
    end_offset mid → mid.given + length mid.unread ≡ old.given + length old.unread
counted_so_far old mid first none counted = grind (arith, length-append)

pub IsBroken-then : (old mid new : SourceView) (fault : Fault) → SkipsUnits old mid mid.unread → mid.block ≡ [] → mid.given + end_offset old ≡
    old.given + end_offset mid → IsBroken mid new fault → IsBroken old new fault
IsBroken-then old mid new fault first none counted broken = record {
  rest = broken.rest;
  passes = SkipsUnits-then old mid new broken.rest first none broken.passes;
  why = broken.why;
  memory = broken.memory;
  taken = broken.taken;
  counted = broken.counted ∙ counted_so_far old mid first none counted;
  block = broken.block;
  packet = broken.packet;
}

-- a source that reports a fault doesn't move
pub IsBroken-failed : (old mid new : SourceView) (fault : Fault) → IsBroken old mid fault → new.declared ≡ mid.declared → new.offset ≡ mid.offset
    → new.unread ≡ mid.unread → new.given ≡ mid.given → new.room ≡ mid.room
    → new.block ≡ [] → new.packet ≡ None → new.phase ≡ Failed fault → FindsFault old new fault
IsBroken-failed old mid new fault broken declared offset unread given room block packet phase = search rules

-- ---- bounds

-- how reading on ends, by the unit that was read last
abbrev found_by : Result NextUnit Fault → Result Bool Fault
found_by (Ok NextUnit.Packet) = Ok true
found_by (Ok other) = Ok false
found_by (Err fault) = Err fault

pub bounds-then : (first old new : SourceView) (read : Result NextUnit Fault) → first.given ≤ old.given → old.failures ≡ first.failures
    → old.sure ≡ first.sure → first.room ≤ old.room
    → old.given + end_offset first ≡ first.given + end_offset old → NextBounds old read new → KeepsBounds first (found_by read) new
bounds-then first old new read given failures sure room counted next = grind arith

-- what `read_unit` knows of the unit that it read
abbrev IsRead : SourceView → Result NextUnit Fault → SourceView → Type 0
IsRead old (Ok NextUnit.Packet) new = ((old.given < new.given) × (new.given < 2 ^ 63) × (is_some new.packet ≡ true)) × (new.phase ≡ Reading)
IsRead old (Ok (NextUnit.Other size)) new = (old.given < new.given) × (new.given < 2 ^ 63) × IsBetween new
IsRead old (Ok NextUnit.End) new = new.phase ≡ Ended
IsRead old (Err fault) new = (old.given + end_offset new ≤ new.given + end_offset old)
    × (new.given + end_offset old ≤ old.given + end_offset new + most_in_unit)

pub bounds-next : (old new : SourceView) (read : Result NextUnit Fault) → old.given ≤ new.given → new.failures ≡ old.failures + read_failures read
    → new.sure ≡ old.sure → (0 < new.failures → HasGiven new.sure new.given)
    → length new.block ≤ new.room → new.room ≤ most_in_unit → old.room ≤ new.room
    → OnOk read (new.given + end_offset old ≡ old.given + end_offset new) → IsRead old read new → NextBounds old read new
bounds-next old new read given failures sure enough block held room counted is = grind arith

-- ---- from past the current unit

pub past-between : (old between : SourceView) → old.phase ≡ Reading → between ≡ past_unit old → IsBetween between
past-between old between reading is = grind arith

pub past-continues : (old between new : SourceView) (r : Result Bool Fault) → between ≡ past_unit old → Continues between r new → Continues old r new
past-continues old between new r is c = grind arith

pub past-bounds : (old between new : SourceView) (r : Result Bool Fault) → between ≡ past_unit old → KeepsBounds between r new → KeepsBounds old r new
past-bounds old between new r is kept = search rules

-- ---- the packet in hand

-- its data or its options, as they lie in the buffer
pub part-lent : (span : Span) (size : ℕ) (bytes buffer : List ℕ) → span.start + span.length ≤ size → bytes ≡ buffer
    → span_bytes span bytes ≡ span_bytes span (take size buffer)
part-lent span size bytes buffer within same =
    let whole : span.start + (size - span.start) ≡ size = omega arith in
    grind (arith, drop-take, take-take)

pub pcap-lent : (head : Head) (spans : PacketSpans) (bytes block : List ℕ) → bytes ≡ span_bytes spans.bytes block
    → Some (record { link = head.link; snap = head.snap; name = []; time = spans.time; orig = spans.orig; bytes = bytes; comment = [] }) ≡
    packet_in_unit (PcapFile head) spans block
pcap-lent head spans bytes block same = grind arith

pub pcapng-lent : (order : Order) (first : Option ℕ) (interfaces : List Described) (i : Described) (spans : PacketSpans)
    (bytes comment options block : List ℕ) → slice_get interfaces spans.interface ≡ Some i
    → bytes ≡ span_bytes spans.bytes block → comment ≡ comment_in order options → options ≡ span_bytes spans.options block
    → Some (packet_of i spans.time spans.orig bytes comment) ≡ packet_in_unit (PcapngFile first (record { order = order; interfaces = interfaces })) spans block
pcapng-lent order first interfaces i spans bytes comment options block known same commented optional = grind arith

pub time-held : (declared : Declared) (spans : PacketSpans) (block : List ℕ) → HasInterface declared spans → Some spans.time ≡ option_map
    (λ p. p.time) (packet_in_unit declared spans block)
time-held declared spans block known = grind arith

-- ---- nothing is in hand

pub stage_between : (now : Stage) (spans : PacketSpans) (buffer : List ℕ) → phase_at now ≡ Reading → block_at now spans buffer ≡ []
    → HoldsIfAny now spans buffer → now ≡ Stage.Between
stage_between Stage.Between spans buffer phase none holds = refl
stage_between Stage.Current spans buffer phase none holds =
    absurd (omega (arith, holds.some, holds.there, sym (length-take-le spans.size buffer holds.there) ∙ ap length none))
stage_between Stage.Lent spans buffer phase none holds =
    absurd (omega (arith, holds.some, holds.there, sym (length-take-le spans.size buffer holds.there) ∙ ap length none))
stage_between _ spans buffer phase none holds = (cc)

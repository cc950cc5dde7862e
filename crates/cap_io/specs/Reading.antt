-- The effect of reading one unit on the bytes and the counts of a device.
use Rattle.std.specs.{List.slice_get, Option.option_map}
use Rattle.std.specs.Prelude.{◌≡◌, ℕ, ◌<◌, ◌≤◌, ◌⊎◌, true, List, [], ◌++◌, Bool, length, drop, Option, None, Some, Result, Err, is_some, is_none, unwrap_or, nat_le, ◌&&◌, if◌then◌else◌}
use Rattle.cap_octet.specs.{Checks.first_failing, Packet.Captured}
use Rattle.cap_octet.specs.declared.fault.Fault.{Fault, TheVariants.NoMemory, TheVariants.ReadFailed}
use Rattle.cap_pcap.specs.{Header.form_in, Record.field_checks, Record.record_size}
use Rattle.cap_pcapng.specs.{Comment.comment_in, Effect.LieAsSaid, Effect.is_interface, Effect.span_bytes}
use Rattle.cap_pcapng.specs.{Frame.frame_checks, Frame.most_block, Interface.Described}
use Rattle.cap_pcapng.specs.Unit.{Section, block_size, order_before, packet_of, parts_after, unit_fault}
use Rattle.cap_pcapng.specs.declared.effect.PacketSpans.{PacketSpans}
use Rattle.cap_io.specs.Capture.{Declared, Nothing, PcapFile, PcapngFile, IsUnit, Front, Whole, NoUnit, front_of, is_pcapng}
use Rattle.cap_io.specs.declared.file_state.FileState.{FileState}

-- the most bytes that a unit may have
abbrev pub most_in_unit : ℕ
most_in_unit = most_block

-- the number of failures of the device in a call: 1 if the call reports a failed read, else 0
abbrev pub read_failures : {X : Type 0} → Result X Fault → ℕ
read_failures (Err ReadFailed) = 1
read_failures result = 0

-- the most bytes that are read of a file with this prefix: those of its unit, or if it has none,
-- those of the longest unit
abbrev pub most_taken : Front → ℕ
most_taken (Whole size packets declared) = size
most_taken (NoUnit why) = most_in_unit

-- the length of a unit, as its header states it; None if the header is incomplete or fails a check
abbrev pub length_by_header : (header : ℕ) → List ℕ → List (Bool × Fault) → (size : ℕ) → Option ℕ
length_by_header header text checks size =
    if nat_le header (length text) && is_none (first_failing checks) then Some size else None

-- the length of a block, as its first 12 bytes state it; None if they are incomplete or fail a
-- check
abbrev pub block_length : Option Section → List ℕ → Option ℕ
block_length before text =
    length_by_header 12 text (frame_checks (order_before before) text) (block_size before text)

-- the length of the next unit, as its header states it; None if the header is incomplete or fails a
-- check, or for the file header of pcap, which states no length
abbrev pub stated_length : Declared → List ℕ → Option ℕ
stated_length Nothing text = if is_pcapng text then block_length None text else None
stated_length (PcapFile head) text =
    length_by_header 16 text (field_checks head text) (record_size head text)
stated_length (PcapngFile first section) text = block_length (Some section) text

-- The length of a unit's header: the first 12 bytes of a block, those before a record's data, or
-- the whole file header of pcap. If a file begins with no header, its first four bytes show that.
abbrev pub unit_header_length : Declared → List ℕ → ℕ
unit_header_length Nothing text =
    if is_pcapng text then 12 else (if is_some (form_in text) then 24 else 4)
unit_header_length (PcapFile head) text = 16
unit_header_length (PcapngFile first section) text = 12

-- the number of bytes that decide whether a file begins with a unit or with a fault
abbrev pub decisive_length : Declared → List ℕ → ℕ
decisive_length declared text =
    unwrap_or (stated_length declared text) (unit_header_length declared text)

-- This fault was reported after a prefix of the unit, or of the bytes that aren't one, was read.
pub record IsTaken (declared : Declared) (unread unread' : List ℕ) (fault : Fault) : Type 0 where
  pub count : ℕ
  pub within : count ≤ most_taken (front_of declared unread)
  -- A read fails only while a unit is incomplete: fewer bytes came than decide what it is. Memory
  -- may run out after a complete unit.
  pub unfinished : fault ≡ ReadFailed → count < decisive_length declared unread
  pub there : count ≤ length unread
  pub rest : unread' ≡ drop count unread

-- a block that describes an interface and fails no check
abbrev pub DescribesInterface : Declared → List ℕ → Type 0
DescribesInterface (PcapngFile first section) text =
    (unit_fault (Some section) text ≡ None)
    × (is_interface (parts_after (Some section) text) ≡ true)
DescribesInterface declared text = ⊥

-- The next unit's complete header states more bytes than the buffer has room for; or the unit
-- describes an interface.
abbrev pub TakesMemory : ℕ → Declared → List ℕ → Type 0
TakesMemory room declared unread =
    (room < unwrap_or (stated_length declared unread) 0) ⊎ DescribesInterface declared unread

-- the number of bytes of a unit of this size that the buffer holds: 0 for the file header of pcap
abbrev pub held_length : (before after : Declared) → ℕ → ℕ
held_length Nothing (PcapFile head) size = 0
held_length before after size = size

-- These bytes are complete units, and a buffer of this size has room for each, except for the file
-- header of pcap, which it needn't hold.
pub data FitUnits (room : ℕ) : Declared → List ℕ → Declared → Type 0 where
  no_unit_fits : {d : Declared} → FitUnits room d [] d
  unit_fits : {b c d : Declared} {u more : List ℕ} {qs : List Captured} → IsUnit b u qs c
      → held_length b c (length u) ≤ room → FitUnits room c more d → FitUnits room b (u ++ more) d

-- Why no unit was read: there is a fault, or the device failed, or memory ran out.
abbrev pub IsReason : Declared → List ℕ → Fault → Type 0
IsReason declared unread fault =
    (front_of declared unread ≡ NoUnit (Some fault)) ⊎ (fault ≡ ReadFailed) ⊎ (fault ≡ NoMemory)

-- the declarations, by the state of a reader's file and the interfaces of its table
abbrev pub declared_by : FileState → List Described → Declared
declared_by FileState.Unknown interfaces = Nothing
declared_by (FileState.Pcap head) interfaces = PcapFile head
declared_by (FileState.Pcapng order first) interfaces =
    PcapngFile first (record { order = order; interfaces = interfaces })

-- the packet that lies at these spans of a unit; None if its interface isn't declared
abbrev pub packet_in_unit : Declared → PacketSpans → List ℕ → Option Captured
packet_in_unit Nothing spans block = None
packet_in_unit (PcapFile head) spans block = Some (record {
  link = head.link;
  snap = head.snap;
  name = [];
  time = spans.time;
  orig = spans.orig;
  bytes = span_bytes spans.bytes block;
  comment = [];
})
packet_in_unit (PcapngFile first section) spans block =
    option_map
    (λ (i : Described). packet_of i spans.time spans.orig (span_bytes spans.bytes block)
    (comment_in section.order (span_bytes spans.options block)))
    (slice_get section.interfaces spans.interface)

-- the interface's number, and the spans of data and options in the unit at the start of these
-- bytes; a record's data is after its header of 16 bytes, and it has no interface (0) and no
-- options
abbrev pub UnitHas : Declared → List ℕ → PacketSpans → Type 0
UnitHas Nothing text spans = ⊥
UnitHas (PcapFile head) text spans =
    (spans.interface ≡ 0) × (spans.bytes.start ≡ 16)
    × (spans.options ≡ record { start = 16; length = 0 })
UnitHas (PcapngFile first section) text spans = LieAsSaid (parts_after (Some section) text) spans

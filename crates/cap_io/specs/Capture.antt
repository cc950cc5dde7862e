-- A capture file: its units, how it is cut into them, and their packets.
use Rattle.std.specs.{List.slice_get, Option.option_map, Option.option_or}
use Rattle.std.specs.Prelude.{◌≡◌, ℕ, zero, suc, ◌+◌, Bool, List, [], ◌∷◌, ◌++◌, length, map, take, drop, nat_le, ◌&&◌, if◌then◌else◌, Option, None, Some}
use Rattle.cap_octet.specs.{Packet.Captured, declared.fault.Fault.Fault}
use Rattle.cap_pcap.specs.Header.{IsHeader, header_fault, header_in}
use Rattle.cap_pcap.specs.Record.{IsRecord, record_fault, record_size, record_packet}
use Rattle.cap_pcap.specs.declared.header.{Head.Head, Resolution.Resolution}
use Rattle.cap_pcap.specs.declared.header.Resolution.TheVariants.{Microseconds, Nanoseconds}
use Rattle.cap_pcapng.specs.{Frame.is_section, Interface.Described}
use Rattle.cap_pcapng.specs.Unit.{IsBlock, Section, block_size, packets_in, section_after, unit_fault}
use Rattle.cap_io.specs.declared.source.Kind.{Kind, TheVariants.Pcap, TheVariants.NsecPcap, TheVariants.Pcapng}

-- ---- units

-- what the units so far declare, which later units need
pub data Declared : Type 0 where
  Nothing : Declared
  PcapFile : (head : Head) → Declared
  -- the first link type that an interface of the file declared, and the current section
  PcapngFile : (first : Option ℕ) → (section : Section) → Declared

-- the first link type of a file after a block: the one before it, if there was one, else that of
-- the section's first interface
abbrev pub first_link_after : Option ℕ → Section → Option ℕ
first_link_after first section =
    option_or first (option_map (λ (i : Described). i.link) (slice_get section.interfaces 0))

-- the declarations after a block
abbrev pub file_after : Option ℕ → Option Section → List ℕ → Declared
file_after first before bytes =
    PcapngFile (first_link_after first (section_after before bytes)) (section_after before bytes)

-- These bytes are one unit with these packets, given the declarations before it and after it.
pub data IsUnit : Declared → List ℕ → List Captured → Declared → Type 0 where
  a_pcap_header : (bytes : List ℕ) (head : Head) → IsHeader bytes head
      → IsUnit Nothing bytes [] (PcapFile head)
  a_pcap_record : (head : Head) (bytes : List ℕ) → IsRecord head bytes
      → IsUnit (PcapFile head) bytes (record_packet head bytes ∷ []) (PcapFile head)
  -- the first block is a section header
  a_first_block : (bytes : List ℕ) → IsBlock None bytes
      → IsUnit Nothing bytes (packets_in None bytes) (file_after None None bytes)
  a_block : (first : Option ℕ) (section : Section) (bytes : List ℕ) → IsBlock (Some section) bytes
      → IsUnit (PcapngFile first section) bytes (packets_in (Some section) bytes)
      (file_after first (Some section) bytes)

-- a packet, and the offset of its unit
pub record Placed : Type 0 where
  pub offset : ℕ
  pub packet : Captured

-- the packets of a unit at this offset
abbrev pub placed_at : ℕ → List Captured → List Placed
placed_at offset ps = map (λ (p : Captured). record { offset = offset; packet = p }) ps

-- These bytes are complete units, one after another, with these packets; the first byte is at this
-- offset.
pub data AreUnits : Declared → ℕ → List ℕ → List Placed → Declared → Type 0 where
  no_unit : {d : Declared} {at : ℕ} → AreUnits d at [] [] d
  unit_then : {b c d : Declared} {at : ℕ} {u more : List ℕ} {qs : List Captured} {ps : List Placed}
      → IsUnit b u qs c → AreUnits c (at + length u) more ps d
      → AreUnits b at (u ++ more) (placed_at at qs ++ ps) d

-- A capture is these units (`done`) and then bytes that don't begin with another unit (`rest`).
pub record IsCut (text done rest : List ℕ) (packets : List Placed)
    (declared : Declared) : Type 0 where
  pub joined : text ≡ done ++ rest
  pub units : AreUnits Nothing 0 done packets declared
  pub last : (u more : List ℕ) (qs : List Captured) (d : Declared) → IsUnit declared u qs d
      → rest ≡ u ++ more → ⊥

-- ---- the first unit of some bytes

-- a unit: its size, its packets and what is declared after it; or no unit: the clean end (None), or
-- a fault
pub data Front : Type 0 where
  Whole : (size : ℕ) → (packets : List Captured) → (declared : Declared) → Front
  NoUnit : (why : Option Fault) → Front

-- this unit, unless there is a fault
abbrev pub unit_unless : Option Fault → Front → Front
unit_unless None unit = unit
unit_unless (Some fault) unit = NoUnit (Some fault)

-- the block that these bytes begin with, or a fault
abbrev pub front_of_block : Option ℕ → Option Section → List ℕ → Front
front_of_block first before text =
    unit_unless (unit_fault before text)
    (Whole (block_size before text) (packets_in before (take (block_size before text) text))
    (file_after first before (take (block_size before text) text)))

-- Whether a file is a pcapng file: its first four bytes are the type of a section header.
abbrev pub is_pcapng : List ℕ → Bool
is_pcapng text = nat_le 4 (length text) && is_section text

-- what the bytes after a unit begin with; the clean end if there are none
abbrev pub unless_empty : List ℕ → Front → Front
unless_empty [] front = NoUnit None
unless_empty (b ∷ bytes) front = front

-- the unit that these bytes begin with if this is declared before them, or why there is none
abbrev pub front_of : Declared → List ℕ → Front
front_of Nothing text =
    if is_pcapng text then front_of_block None None text
    else unit_unless (header_fault text) (Whole 24 [] (PcapFile (header_in text)))
front_of (PcapFile head) text =
    unless_empty text (unit_unless (record_fault head text)
    (Whole (record_size head text) (record_packet head (take (record_size head text) text) ∷ [])
    (PcapFile head)))
front_of (PcapngFile first section) text =
    unless_empty text (front_of_block first (Some section) text)

-- ---- items

-- the clean end; or a fault, and the offset of the unit that it is found in: for `items` it is that
-- of the first check that fails
pub data Ending : Type 0 where
  End : Ending
  FaultAt : (fault : Fault) → (offset : ℕ) → Ending

-- the items of a capture: its packets, the declarations of its units, and its end
pub record Items : Type 0 where
  pub packets : List Placed
  pub declared : Declared
  pub ending : Ending

-- the end of a capture if no unit follows: with a fault at this offset, or the clean end
abbrev pub ending_by : Option Fault → ℕ → Ending
ending_by None offset = End
ending_by (Some fault) offset = FaultAt fault offset

-- no packets, and the end of the capture at this offset
abbrev pub no_items : Declared → Option Fault → ℕ → Items
no_items declared why offset =
    record { packets = []; declared = declared; ending = ending_by why offset }

-- items with these packets before them
abbrev pub after_packets : List Placed → Items → Items
after_packets ps items =
    record { packets = ps ++ items.packets; declared = items.declared; ending = items.ending }

-- the items of bytes with this first unit, given those after it
abbrev pub items_with : Front → Declared → ℕ → (ℕ → Declared → Items) → Items
items_with (NoUnit why) declared offset following = no_items declared why offset
items_with (Whole size packets after) declared offset following =
    after_packets (placed_at offset packets) (following size after)

-- The items of a capture from a place on. The number is fuel: it isn't used up if it is greater
-- than the number of bytes, since a unit has at least one.
unfoldable pub items_within : ℕ → Declared → ℕ → List ℕ → Items
items_within zero declared offset text = no_items declared None offset
items_within (suc most) declared offset text =
    items_with (front_of declared text) declared offset
    (λ size after. items_within most after (offset + size) (drop size text))

-- the items of a capture from a place on: what is declared before it, its offset, and the bytes
-- from there
unfoldable pub items_from : Declared → ℕ → List ℕ → Items
items_from declared offset text = items_within (length text + 1) declared offset text

-- the items of a capture
abbrev pub items : List ℕ → Items
items text = items_from Nothing 0 text

-- ---- declarations

-- the format of a pcap file of this resolution
abbrev pub kind_by : Resolution → Kind
kind_by Microseconds = Pcap
kind_by Nanoseconds = NsecPcap

-- the format of a capture; None if no unit was read
abbrev pub kind_of : Declared → Option Kind
kind_of Nothing = None
kind_of (PcapFile head) = Some (kind_by head.resolution)
kind_of (PcapngFile first section) = Some Pcapng

-- the first link type that was declared, or None
abbrev pub first_link_of : Declared → Option ℕ
first_link_of Nothing = None
first_link_of (PcapFile head) = Some head.link
first_link_of (PcapngFile first section) = first

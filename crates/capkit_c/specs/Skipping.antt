-- Refused units that can be skipped, since their lengths are sound.
use Rattle.std.specs.Prelude.{◌≡◌, ℕ, ◌<◌, ◌≤◌, ◌-◌, ◌^◌, ◌%◌, pos, if◌then◌else◌, nat_lt, List, [], ◌∷◌, ◌++◌, length, drop, Option, Some, None}
use Rattle.cap_octet.specs.{Number.u32_in, Packet.Captured}
use Rattle.cap_octet.specs.declared.fault.Fault.{Fault}
use Rattle.cap_pcap.specs.{Header.form_of, Record.record_size, declared.header.Head.Head}
use Rattle.cap_pcapng.specs.Block.{Parts, InterfaceParts}
use Rattle.cap_pcapng.specs.{Interface.Described, Interface.most_interfaces, Time.microseconds}
use Rattle.cap_pcapng.specs.Unit.{Section, block_size, parts_after}
use Rattle.cap_io.specs.Capture.{Declared, Nothing, PcapFile, PcapngFile, Front, Whole, NoUnit, first_link_after, front_of}
use Rattle.capkit_c.specs.{Layout.declared_in, Reading.found_number, Units.IsPastUnit}
use Rattle.capkit_c.specs.declared.memory.{layout.Interface.Interface, layout.Reader.Reader, reader.Found.Found}
use Rattle.capkit_c.specs.declared.memory.skip.{RefusedPart.RefusedPart, Skip.Skip}

-- ---- how a refused unit is read

-- the part of a unit that a fault refuses; if its form is refused its end isn't known
abbrev pub refused_part : Fault → RefusedPart
refused_part Fault.TimeOutOfRange = RefusedPart.Time
refused_part Fault.BadOption = RefusedPart.Options
refused_part Fault.BadTimeResolution = RefusedPart.Options
refused_part Fault.BadLinkTypeField = RefusedPart.LinkType
refused_part fault = RefusedPart.Form

-- the size of a skipped unit, and what is declared after it
pub record PastUnit : Type 0 where
  pub size : ℕ
  pub declared : Declared

-- a pcap file header whose link type field is out of range: the link type is its lower 16 bits
abbrev pub head_by_low_bits : List ℕ → Head
head_by_low_bits text =
    let form = form_of text in
    record {
      order = form.0;
      resolution = form.1;
      snap = u32_in form.0 text 16;
      link = u32_in form.0 text 20 % 65536;
    }

-- the seconds added to each time of an interface with refused options, so that no time is in range
abbrev pub offset_of_no_time : ℕ
offset_of_no_time = 2 ^ 63 - 1

-- the interface of a description block with refused options: it has the block's link type and snap
-- length, and no name
abbrev pub unread_interface : (link snap : ℕ) → Described
unread_interface link snap = record {
  link = link;
  snap = snap;
  name = [];
  units = microseconds;
  offset = pos offset_of_no_time;
}

-- a file whose current section has one more interface
abbrev pub with_interface : Option ℕ → Section → Described → Declared
with_interface first section interface =
    let more = record section { interfaces = section.interfaces ++ interface ∷ [] } in
    PcapngFile (first_link_after first more) more

-- what skipping a description block with these parts does: its interface gets the next number, if
-- there are fewer than 256; None for any other block
abbrev pub past_interface : Option ℕ → Section → (size : ℕ) → Parts → Option PastUnit
past_interface first section size (InterfaceParts link snap order options) =
    if nat_lt (length section.interfaces) most_interfaces then
    Some (record {
      size = size;
      declared = with_interface first section (unread_interface link snap);
    })
    else None
past_interface first section size parts = None

-- the unit at the start of these bytes if it can be skipped, by the part that is refused
abbrev pub past_by : Declared → List ℕ → RefusedPart → Option PastUnit
past_by Nothing text RefusedPart.LinkType =
    Some (record { size = 24; declared = PcapFile (head_by_low_bits text) })
past_by (PcapFile head) text RefusedPart.Time =
    Some (record { size = record_size head text; declared = PcapFile head })
past_by (PcapngFile first section) text RefusedPart.Time =
    Some (record {
      size = block_size (Some section) text;
      declared = PcapngFile first section;
    })
past_by (PcapngFile first section) text RefusedPart.Options =
    past_interface first section (block_size (Some section) text) (parts_after (Some section) text)
past_by declared text part = None

-- the refused unit at the start of these bytes if it can be skipped; None for a sound unit and at
-- the end
abbrev pub past_front : Declared → List ℕ → Front → Option PastUnit
past_front declared text (NoUnit (Some fault)) = past_by declared text (refused_part fault)
past_front declared text front = None

-- the same for the bytes at a reader's offset
abbrev pub past_at : List ℕ → Reader → List Interface → Option PastUnit
past_at capture r t =
    let declared = declared_in r t in
    let text = drop r.offset capture in past_front declared text (front_of declared text)

-- ---- what is found of a unit

-- the number of interfaces in the current section; 0 if a file isn't pcapng
abbrev pub interface_count : Declared → ℕ
interface_count (PcapngFile first section) = length section.interfaces
interface_count declared = 0

-- a unit with these packets
abbrev pub found_with : List Captured → Found
found_with [] = Found.Unit
found_with (packet ∷ packets) = Found.Packet

-- what capkit_next_unit finds at the start of these bytes, with room for this many interfaces
abbrev pub found_in_front : (room : ℕ) → Front → Found
found_in_front room (NoUnit None) = Found.End
found_in_front room (NoUnit (Some fault)) = Found.Fault fault
found_in_front room (Whole size packets declared) =
    if nat_lt room (interface_count declared) then Found.NoRoom else found_with packets

-- the same for the bytes at a reader's offset
abbrev pub found_at : List ℕ → Reader → List Interface → Found
found_at capture r t =
    found_in_front (length t) (front_of (declared_in r t) (drop r.offset capture))

-- ---- the result

-- The reader is past a refused unit, with the declarations after it. Or nothing is written: a part
-- of the unit is missing; or the table has no room for its interface; or it can't be skipped, and
-- the result is what capkit_next_unit finds.
pub data SkipLeaves (capture : List ℕ) (r r' : Reader) (t t' : List Interface) : Skip → Type 0 where
  goes_past : (unit : PastUnit) → past_at capture r t ≡ Some unit
      → unit.declared ≡ declared_in r' t' → IsPastUnit capture unit.size r r' t'
      → length t' ≡ length t → SkipLeaves capture r r' t t' Skip.Past
  is_cut : (unit : PastUnit) → past_at capture r t ≡ Some unit
      → length (drop r.offset capture) < unit.size → r' ≡ r → t' ≡ t
      → SkipLeaves capture r r' t t' (Skip.Not (Found.Fault Fault.Truncated))
  finds_no_room : (unit : PastUnit) → past_at capture r t ≡ Some unit
      → unit.size ≤ length (drop r.offset capture) → length t < interface_count unit.declared
      → r' ≡ r → t' ≡ t → SkipLeaves capture r r' t t' (Skip.Not Found.NoRoom)
  stays : (what : Found) → past_at capture r t ≡ None → what ≡ found_at capture r t → r' ≡ r
      → t' ≡ t → SkipLeaves capture r r' t t' (Skip.Not what)

-- the number of the result
abbrev pub skip_number : Skip → ℕ
skip_number Skip.Past = 228
skip_number (Skip.Not found) = found_number found

-- the same result, in numbers
pub record SkipTells (capture : List ℕ) (r r' : Reader) (t t' : List Interface)
    (number : ℕ) : Type 0 where
  pub skip : Skip
  pub leaves : SkipLeaves capture r r' t t' skip
  pub exact : number ≡ skip_number skip

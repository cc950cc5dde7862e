-- A block in its section: all of its checks, in order, what it declares, and its packet.
use Rattle.std.specs.List.{slice_get}
use Rattle.std.specs.Option.{option_and_then, option_map, option_map_or, option_to_list}
use Rattle.std.specs.Prelude.{◌≡◌, ℕ, Bool, List, [], ◌∷◌, ◌++◌, length, nat_le, nat_lt, take, drop, Option, None, is_some, unwrap_or}
use Rattle.cap_octet.specs.{Checks.first_failing, Packet.Captured, declared.fault.Fault.Fault}
use Rattle.cap_octet.specs.declared.fault.Fault.TheVariants.{Truncated, UnknownInterface, TimeOutOfRange, TooManyInterfaces}
use Rattle.cap_octet.specs.declared.number.Order.{Order}
use Rattle.cap_pcapng.specs.Block.{Parts, SectionParts, InterfaceParts, EnhancedParts, SimpleParts, block_checks, data_checks, option_checks, parts_in, simple_captured}
use Rattle.cap_pcapng.specs.{Comment.comment_in, Frame.frame_checks, Frame.frame_in}
use Rattle.cap_pcapng.specs.Interface.{Described, described_in, most_interfaces}
use Rattle.cap_pcapng.specs.{Padding.padded_length, Time.representable_time, declared.frames.Frame.Frame}

-- the declarations of a section so far: its byte order, and its interfaces by their numbers
pub record Section : Type 0 where
  pub order : Order
  pub interfaces : List Described

-- the byte order of the section before a block; None if there is no section
abbrev pub order_before : Option Section → Option Order
order_before before = option_map (λ (s : Section). s.order) before

-- the interfaces of the section before a block; none if there is no section
abbrev pub interfaces_before : Option Section → List Described
interfaces_before before = option_map_or (λ (s : Section). s.interfaces) before []

-- the frame of the block that these bytes begin with
abbrev pub frame_after : Option Section → List ℕ → Frame
frame_after before text = frame_in (order_before before) text

-- the total length of the block that these bytes begin with
abbrev pub block_size : Option Section → List ℕ → ℕ
block_size before text = (frame_after before text).length

-- the parts of the block that these bytes begin with
abbrev pub parts_after : Option Section → List ℕ → Parts
parts_after before text = parts_in (frame_after before text) text

-- ---- the checks

-- the time of these ticks of an interface; None if there is no interface, or no such time
abbrev pub time_of : Option Described → ℕ → Option ℕ
time_of interface ticks =
    option_and_then (λ (i : Described). representable_time ticks i.units i.offset) interface

-- the captured length of a simple packet of an interface; 0 if there is no interface
abbrev pub captured_of : Option Described → ℕ → ℕ
captured_of interface orig =
    option_map_or (λ (i : Described). simple_captured orig i.snap) interface 0

-- the checks that need the interfaces before the block, and those of an interface's options
abbrev pub checks_among : List Described → Parts → List (Bool × Fault)
checks_among interfaces (InterfaceParts link snap order options) =
    (nat_lt (length interfaces) most_interfaces, TooManyInterfaces)
    ∷ option_checks (InterfaceParts link snap order options)
checks_among interfaces (EnhancedParts number ticks captured orig order rest) =
    (is_some (slice_get interfaces number), UnknownInterface)
    ∷ data_checks captured rest
    ++ (is_some (time_of (slice_get interfaces number) ticks), TimeOutOfRange)
    ∷ []
checks_among interfaces (SimpleParts orig rest) =
    (is_some (slice_get interfaces 0), UnknownInterface)
    ∷ data_checks (captured_of (slice_get interfaces 0) orig) rest
checks_among interfaces parts = []

-- all checks, in order, of the block that these bytes begin with
abbrev pub unit_checks : Option Section → List ℕ → List (Bool × Fault)
unit_checks before text =
    (nat_le 12 (length text), Truncated)
    ∷ frame_checks (order_before before) text
    ++ (nat_le (block_size before text) (length text), Truncated)
    ∷ block_checks (frame_after before text) text
    ++ checks_among (interfaces_before before) (parts_after before text)

-- the first check of a block that these bytes fail; None if they begin with one
abbrev pub unit_fault : Option Section → List ℕ → Option Fault
unit_fault before text = first_failing (unit_checks before text)

-- These bytes are one block, which fails no check.
pub record IsBlock (before : Option Section) (bytes : List ℕ) : Type 0 where
  pub passes : unit_fault before bytes ≡ None
  pub whole : length bytes ≡ block_size before bytes

-- ---- declarations and packets

-- The section after a block: a section header begins one without interfaces, and an interface gets
-- the next number.
abbrev pub section_by : Option Section → Order → Parts → Section
section_by before order SectionParts = record { order = order; interfaces = [] }
section_by before order (InterfaceParts link snap own options) =
    record {
      order = order;
      interfaces = interfaces_before before
          ++ described_in link snap own options ∷ [];
    }
section_by before order parts = record { order = order; interfaces = interfaces_before before }

-- the section after the block with these bytes
abbrev pub section_after : Option Section → List ℕ → Section
section_after before bytes =
    section_by before (frame_after before bytes).order (parts_after before bytes)

-- a packet of an interface
abbrev pub packet_of : Described → (time orig : ℕ) → (bytes comment : List ℕ) → Captured
packet_of i time orig bytes comment = record {
  link = i.link;
  snap = i.snap;
  name = i.name;
  time = time;
  orig = orig;
  bytes = bytes;
  comment = comment;
}

-- The packet of a block, if it has one. The comment of an enhanced packet is an option after its
-- data. A simple packet belongs to interface 0, and has time 0 and no comment.
abbrev pub packet_by : List Described → Parts → Option Captured
packet_by interfaces (EnhancedParts number ticks captured orig order rest) =
    option_map
    (λ (i : Described). packet_of i (unwrap_or (representable_time ticks i.units i.offset) 0) orig
    (take captured rest) (comment_in order (drop (padded_length captured) rest)))
    (slice_get interfaces number)
packet_by interfaces (SimpleParts orig rest) =
    option_map
    (λ (i : Described). packet_of i 0 orig (take (simple_captured orig i.snap) rest) [])
    (slice_get interfaces 0)
packet_by interfaces parts = None

-- the packet of the block with these bytes, if it has one
abbrev pub packets_in : Option Section → List ℕ → List Captured
packets_in before bytes =
    option_to_list (packet_by (interfaces_before before) (parts_after before bytes))

-- The units of a pcapng file that is written packet by packet, as for a sink.
use Rattle.std.specs.Prelude.{◌≡◌, ℕ, ◌+◌, ◌==◌, ◌≤◌, ◌&&◌, not, false, if◌then◌else◌, Bool, min, nat_lt, nat_le, List, [], ◌∷◌, ◌++◌, length, map, take, Option}
use Rattle.cap_octet.specs.{Checks.first_failing, Date.TIME_END, Fault.fault_number, Packet.Captured, declared.fault.Fault.Fault}
use Rattle.cap_octet.specs.declared.fault.Fault.TheVariants.{BadOption, TimeOutOfRange, TooManyOutputInterfaces}
use Rattle.cap_io.specs.Text as text
use Rattle.cap_pcapng.specs.Encoding.{block_fit_checks, interface_text, packet_block, section_text}
use Rattle.capkit_c.specs.{Buffers.WriteLeaves, Texts.FOUND, Writing.written_length}
use Rattle.capkit_c.specs.declared.memory.layout.{Interface.Interface, Packet.Packet, Writer.Writer}
use Rattle.capkit_c.specs.declared.memory.{writer.Put.Put, writing.Written.Written}

-- an interface of the table, as it is written
abbrev pub output_interface : Interface → text.Interface
output_interface i = record { link = i.link_type; snap = i.snap; name = take i.name_length i.name }

-- the most interfaces of a file, by the room of its table
abbrev pub room_for : ℕ → ℕ
room_for room = min room text.most_output_interfaces

-- the most interfaces that a writer has written, whatever C wrote into it
abbrev pub most_written : Writer → ℕ → ℕ
most_written w room = min w.interfaces (room_for room)

-- the interfaces written so far
abbrev pub interfaces_in : Writer → List Interface → List text.Interface
interfaces_in w table = map output_interface (take (most_written w (length table)) table)

-- the checks of a packet before it is put, in order; `room` is whether the file may have its
-- interface
abbrev pub put_checks : (room : Bool) → Captured → List (Bool × Fault)
put_checks room p =
    (nat_lt p.time TIME_END, TimeOutOfRange)
    ∷ (nat_le (length p.comment) 65535 && nat_le (length p.name) 255, BadOption)
    ∷ block_fit_checks p
    ++ (room, TooManyOutputInterfaces)
    ∷ []

-- why a packet isn't put after what is written; None if no check fails
abbrev pub put_refusal : Writer → List Interface → Captured → Option Fault
put_refusal w table p =
    first_failing
    (put_checks
    (nat_lt (text.number_among (interfaces_in w table) (text.interface_of p))
    (room_for (length table))) p)

-- whether only the packet's block remains to be written: the section is begun, and the packet's
-- interface is described
abbrev pub has_all : Writer → List Interface → Captured → Bool
has_all w table p =
    not (w.has_section == 0) && text.is_among (interfaces_in w table) (text.interface_of p)

-- the unit that is written next if a packet is put
abbrev pub next_text : Writer → List Interface → Captured → List ℕ
next_text w table p =
    if w.has_section == 0 then section_text
    else (if text.is_among (interfaces_in w table) (text.interface_of p)
    then packet_block (text.number_among (interfaces_in w table) (text.interface_of p)) p
    else interface_text p.link p.snap p.name)

-- the interfaces written after that unit
abbrev pub interfaces_after_unit : Writer → List Interface → Captured → List text.Interface
interfaces_after_unit w table p =
    interfaces_in w table
    ++ (if w.has_section == 0 then []
    else text.new_among (interfaces_in w table) (text.interface_of p))

-- a unit was written
abbrev pub IsWhole : Written → Type 0
IsWhole (Written.Whole count) = Unit {0}
IsWhole _ = ⊥

-- what is recorded after a unit was written; a writer that counted no more interfaces than the file
-- may have now counts exactly the written ones
pub record HasWritten (w : Writer) (table : List Interface) (p : Captured) (w' : Writer)
    (table' : List Interface) : Type 0 where
  pub section : (w'.has_section == 0) ≡ false
  pub interfaces : interfaces_in w' table' ≡ interfaces_after_unit w table p
  pub room : length table' ≡ length table
  pub counted : w.interfaces ≤ room_for (length table)
      → w'.interfaces ≡ length (interfaces_in w' table')

-- what is recorded after a call: the new state if a unit was written, else the old
abbrev pub KeepsWritten : Written → Writer → List Interface → Captured → Writer → List Interface
    → Type 0
KeepsWritten (Written.Whole count) w table p w' table' = HasWritten w table p w' table'
KeepsWritten _ w table p w' table' = (w' ≡ w) × (table' ≡ table)

-- a packet that is put: time, length and interface as a reader or the caller has them
abbrev pub packet_put : Packet → (name bytes comment : List ℕ) → Captured
packet_put p name bytes comment =
    record {
      link = p.link_type;
      snap = p.snap;
      name = name;
      time = p.time;
      orig = p.original;
      bytes = bytes;
      comment = comment;
    }

-- the number of a put: 0 for the packet's block, 227 for a unit before it
abbrev pub put_number : Written → Bool → ℕ
put_number (Written.Whole count) is_packet = if is_packet then 0 else 227
put_number (Written.NoRoom count) is_packet = 225
put_number (Written.Refused fault) is_packet = FOUND + fault_number fault

-- the result of a call that puts a packet: the next unit is written, unless the packet is refused
-- or the buffer is too small
pub record Puts (w : Writer) (table : List Interface) (p : Captured) (old new : List ℕ) (put : Put)
    (w' : Writer) (table' : List Interface) : Type 0 where
  pub leaves : WriteLeaves (put_refusal w table p) (next_text w table p) old new put.written
  pub is_packet : IsWhole put.written → put.is_packet ≡ has_all w table p
  pub keeps : KeepsWritten put.written w table p w' table'

-- the same result, in numbers
pub record PutTells (w : Writer) (table : List Interface) (p : Captured) (old new : List ℕ)
    (length number : ℕ) (w' : Writer) (table' : List Interface) : Type 0 where
  pub put : Put
  pub puts : Puts w table p old new put w' table'
  pub exact : number ≡ put_number put.written put.is_packet
  pub counted : length ≡ written_length put.written

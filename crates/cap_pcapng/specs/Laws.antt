-- Laws: interfaces and packets that are written read back unchanged.
use Rattle.std.specs.List.{slice_get}
use Rattle.std.specs.Prelude.{◌≡◌, ℕ, ◌^◌, ◌<◌, ◌≤◌, pos, List, [], ◌∷◌, ◌++◌, length, Option, Some, None}
use Rattle.cap_octet.specs.Checks.{first_failing}
use Rattle.cap_octet.specs.{Date.NANOS_PER_SECOND, Packet.Captured, declared.number.Order.TheVariants.Little}
use Rattle.cap_pcapng.specs.Encoding.{block_fit_checks, interface_text, packet_block, section_text}
use Rattle.cap_pcapng.specs.Interface.{Described, most_interfaces}
use Rattle.cap_pcapng.specs.Unit.{IsBlock, Section, packets_in, section_after}

-- These bytes are one block, with these packets, and the section after it is this one.
pub record ReadsAs (before : Option Section) (bytes : List ℕ) (after : Section)
    (packets : List Captured) : Type 0 where
  pub is_block : IsBlock before bytes
  pub declares : section_after before bytes ≡ after
  pub holds : packets_in before bytes ≡ packets

-- a little-endian section with these interfaces
abbrev pub written_section : List Described → Section
written_section interfaces = record { order = Little; interfaces = interfaces }

-- the interface that is read back: its ticks are nanoseconds
abbrev pub written_interface : (link snap : ℕ) → (name : List ℕ) → Described
written_interface link snap name =
    record { link = link; snap = snap; name = name; units = NANOS_PER_SECOND; offset = pos 0 }

-- a section header that is written reads back as the start of a section without interfaces
abbrev pub SectionBack : Type 0
SectionBack = (before : Option Section) → ReadsAs before section_text (written_section []) []

-- an interface that is written reads back with the next number of its section, if that isn't full
-- and the interface's values are in range
abbrev pub InterfaceBack : Type 0
InterfaceBack =
    (interfaces : List Described) (link snap : ℕ) (name : List ℕ)
    → length interfaces < most_interfaces
    → link < 2 ^ 16 → snap < 2 ^ 32 → length name ≤ 255
    → ReadsAs (Some (written_section interfaces)) (interface_text link snap name)
    (written_section (interfaces ++ written_interface link snap name ∷ [])) []

-- a packet that is written, of an interface that was written before, reads back unchanged, if its
-- values are in range and the block isn't too long
abbrev pub PacketBack : Type 0
PacketBack = (interfaces : List Described) (number : ℕ) (p : Captured)
    → slice_get interfaces number ≡ Some (written_interface p.link p.snap p.name)
    → number < 2 ^ 32 → p.time < 2 ^ 63 → p.orig < 2 ^ 32 → length p.comment ≤ 65535
    → first_failing (block_fit_checks p) ≡ None
    → ReadsAs (Some (written_section interfaces)) (packet_block number p)
    (written_section interfaces) (p ∷ [])

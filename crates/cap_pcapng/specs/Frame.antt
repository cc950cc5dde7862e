-- The frame of every block: its first 12 bytes, and their checks, in order
-- (draft-ietf-opsawg-pcapng, "General Block Structure" and "Section Header Block").
use Rattle.std.specs.Prelude.{ℕ, ◌%◌, ◌==◌, ◌&&◌, ◌||◌, not, if◌then◌else◌, Bool, List, [], ◌∷◌, nat_le, Option, Some, None, is_some, unwrap_or}
use Rattle.cap_octet.specs.{Checks.first_failing, Number.u32_in, declared.fault.Fault.Fault}
use Rattle.cap_octet.specs.declared.fault.Fault.TheVariants.{NotACaptureFile, BadByteOrderMagic, BadBlockLength, TooLong}
use Rattle.cap_octet.specs.declared.number.Order.{Order, TheVariants.Little, TheVariants.Big}
use Rattle.cap_pcapng.specs.declared.frames.{BlockType.BlockType, Frame.Frame}

-- the most bytes that a block may have
abbrev pub most_block : ℕ
most_block = 1048576

-- the type of a section header block, which is the same in both byte orders
abbrev pub section_type : ℕ
section_type = 0x0a0d0d0a

-- the number at offset 8 of a section header, which shows its byte order
abbrev pub byte_order_magic : ℕ
byte_order_magic = 0x1a2b3c4d

-- the type of a block that isn't a section header, by the number in its first four bytes
abbrev pub type_of_block : ℕ → BlockType
type_of_block number =
    if number == 1 then BlockType.Interface
    else (if number == 2 then BlockType.ObsoletePacket
    else (if number == 3 then BlockType.SimplePacket
    else (if number == 6 then BlockType.EnhancedPacket
    else BlockType.Other)))

-- whether these bytes begin with the type of a section header
abbrev pub is_section : List ℕ → Bool
is_section text = u32_in Little text 0 == section_type

-- the byte order in which bytes 8 to 11 are the byte-order magic; None if they are in neither
abbrev pub magic_order : List ℕ → Option Order
magic_order text =
    if u32_in Little text 8 == byte_order_magic then Some Little
    else (if u32_in Big text 8 == byte_order_magic then Some Big
    else None)

-- The byte order of a block: a section header shows its own, the others have that of the section
-- before them. If there is none, one of the first two checks fails.
abbrev pub order_in : Option Order → List ℕ → Order
order_in section text = unwrap_or (if is_section text then magic_order text else section) Little

-- the type of the block that these bytes begin with
abbrev pub type_in : Option Order → List ℕ → BlockType
type_in section text =
    if is_section text then BlockType.Section else type_of_block (u32_in (order_in section text) text 0)

-- the total length of the block that these bytes begin with
abbrev pub length_in : Option Order → List ℕ → ℕ
length_in section text = u32_in (order_in section text) text 4

-- The checks of a block's first 12 bytes, in order, in a section of this byte order or before any
-- section (None): before any section, the block is a section header; a section header has the
-- byte-order magic; the total length is a multiple of four, at least 12, and at most that of the
-- longest block.
abbrev pub frame_checks : Option Order → List ℕ → List (Bool × Fault)
frame_checks section text =
    (is_section text || is_some section, NotACaptureFile)
    ∷ (not (is_section text) || is_some (magic_order text), BadByteOrderMagic)
    ∷ (nat_le 12 (length_in section text) && (length_in section text % 4 == 0), BadBlockLength)
    ∷ (nat_le (length_in section text) most_block, TooLong)
    ∷ []

-- the first check of a block's first 12 bytes that fails; None if none does
abbrev pub frame_fault : Option Order → List ℕ → Option Fault
frame_fault section text = first_failing (frame_checks section text)

-- the frame that a block's first 12 bytes state
abbrev pub frame_in : Option Order → List ℕ → Frame
frame_in section text = record {
  order = order_in section text;
  block_type = type_in section text;
  length = length_in section text;
}

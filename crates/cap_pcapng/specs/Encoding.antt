-- Blocks as they are written; all are little-endian.
use Rattle.std.specs.Prelude.{ℕ, ◌+◌, ◌-◌, ◌/◌, ◌%◌, ◌^◌, Bool, List, [], ◌∷◌, ◌++◌, length, replicate, nat_le}
use Rattle.byteorder.specs.Endian.{little_bytes}
use Rattle.cap_octet.specs.{Packet.Captured, declared.fault.Fault.Fault, declared.fault.Fault.TheVariants.TooLong}
use Rattle.cap_pcapng.specs.{Comment.comment_code, Frame.byte_order_magic, Frame.most_block, Frame.section_type}
use Rattle.cap_pcapng.specs.{InterfaceOptions.name_code, InterfaceOptions.resolution_code, Padding.padded_length}

-- a block: type, total length, body, total length
abbrev pub block_text : (type : ℕ) → (body : List ℕ) → List ℕ
block_text type body =
    little_bytes 4 type ++ little_bytes 4 (12 + length body) ++ body
    ++ little_bytes 4 (12 + length body)

-- bytes, and zeros up to a multiple of four
abbrev pub padded_text : List ℕ → List ℕ
padded_text bytes = bytes ++ replicate (padded_length (length bytes) - length bytes) 0

-- an option: its code, the length of its value, and the value with its padding
abbrev pub option_text : (code : ℕ) → (value : List ℕ) → List ℕ
option_text code value = little_bytes 2 code ++ little_bytes 2 (length value) ++ padded_text value

-- the end of the options: code 0 and length 0
abbrev pub end_text : List ℕ
end_text = little_bytes 2 0 ++ little_bytes 2 0

-- a section header block: byte-order magic, version 1.0, an unspecified section length
abbrev pub section_text : List ℕ
section_text = block_text section_type
    (little_bytes 4 byte_order_magic ++ little_bytes 2 1 ++ little_bytes 2 0
    ++ little_bytes 8 (2 ^ 64 - 1))

-- the option if_name; nothing for an empty name
abbrev pub name_text : List ℕ → List ℕ
name_text [] = []
name_text (b ∷ bytes) = option_text name_code (b ∷ bytes)

-- the option if_tsresol: nanoseconds
abbrev pub resolution_text : List ℕ
resolution_text = option_text resolution_code (9 ∷ [])

-- the body of an interface description block: link type, reserved, snap length, and the options
abbrev pub interface_body : (link snap : ℕ) → (name : List ℕ) → List ℕ
interface_body link snap name =
    little_bytes 2 link ++ little_bytes 2 0 ++ little_bytes 4 snap ++ name_text name
    ++ resolution_text ++ end_text

-- an interface description block
abbrev pub interface_text : (link snap : ℕ) → (name : List ℕ) → List ℕ
interface_text link snap name = block_text 1 (interface_body link snap name)

-- the option opt_comment and the end of the options; nothing for an empty comment
abbrev pub comment_text : List ℕ → List ℕ
comment_text [] = []
comment_text (b ∷ bytes) = option_text comment_code (b ∷ bytes) ++ end_text

-- the body of an enhanced packet block: interface, time, captured length, original length, the data
-- with its padding, and the comment
abbrev pub packet_body : (number : ℕ) → Captured → List ℕ
packet_body number p =
    little_bytes 4 number ++ little_bytes 4 (p.time / 2 ^ 32) ++ little_bytes 4 (p.time % 2 ^ 32)
    ++ little_bytes 4 (length p.bytes) ++ little_bytes 4 p.orig ++ padded_text p.bytes
    ++ comment_text p.comment

-- an enhanced packet block of a packet whose interface has this number
abbrev pub packet_block : (number : ℕ) → Captured → List ℕ
packet_block number p = block_text 6 (packet_body number p)

-- the check before a packet is written: its block isn't longer than the longest that is read
abbrev pub block_fit_checks : Captured → List (Bool × Fault)
block_fit_checks p = (
  nat_le (32 + padded_length (length p.bytes) + length (comment_text p.comment))
      most_block,
  TooLong,
)
    ∷ []

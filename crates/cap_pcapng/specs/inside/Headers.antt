-- What is before the texts that are lent in a block that is written.
use Rattle.std.specs.Prelude.{ℕ, ◌/◌, ◌%◌, ◌^◌, List, ◌++◌, length}
use Rattle.byteorder.specs.Endian.{little_bytes}
use Rattle.cap_octet.specs.Packet.{Captured}

-- the bytes before the options in an interface description block of this total length
abbrev pub interface_header : (size link snap : ℕ) → List ℕ
interface_header size link snap =
    little_bytes 4 1 ++ little_bytes 4 size ++ little_bytes 2 link ++ little_bytes 2 0
    ++ little_bytes 4 snap

-- the bytes before the data in an enhanced packet block of this total length
abbrev pub packet_header : (size number : ℕ) → Captured → List ℕ
packet_header size number p =
    little_bytes 4 6 ++ little_bytes 4 size ++ little_bytes 4 number
    ++ little_bytes 4 (p.time / 2 ^ 32)
    ++ little_bytes 4 (p.time % 2 ^ 32) ++ little_bytes 4 (length p.bytes) ++ little_bytes 4 p.orig

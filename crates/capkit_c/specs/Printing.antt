-- The line of a packet that a caller has in memory.
use Rattle.std.specs.Prelude.{ℕ, ◌^◌, ◌==◌, nat_lt, not, if◌then◌else◌, List, []}
use Rattle.cap_octet.specs.Packet.{Captured}
use Rattle.cap_print.specs.Line.{line}
use Rattle.capkit_c.specs.Compiling.{file_link_type}

-- a packet of a file with this link type, without the fields that no line shows
abbrev pub line_packet : ℕ → ℕ → ℕ → List ℕ → Captured
line_packet link_type time original bytes =
    record {
      link = file_link_type link_type;
      snap = 0;
      name = [];
      time = time;
      orig = original;
      bytes = bytes;
      comment = [];
    }

-- the line of a packet, with its link header if the flag isn't 0; empty if the time is 2^63
-- nanoseconds or more
abbrev pub packet_line : ℕ → ℕ → ℕ → ℕ → List ℕ → List ℕ
packet_line with_link link_type time original bytes =
    if nat_lt time (2 ^ 63)
    then line (not (with_link == 0)) (line_packet link_type time original bytes)
    else []

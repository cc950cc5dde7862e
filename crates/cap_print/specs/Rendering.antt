-- The text that is printed for a packet.
use Rattle.std.specs.Prelude.{if◌then◌else◌, ℕ, List, [], ◌++◌}
use Rattle.cap_octet.specs.Packet.{Captured}
use Rattle.cap_print.specs.{Dump.link_payload, Dump.rows, Line.line, declared.print.Options.Options}

-- a packet's line, and after it, if they are asked for, the rows of its bytes without those of the
-- link header
unfoldable pub printed_text : Options → Captured → List ℕ
printed_text options p =
    line options.link p ++ (if options.bytes then rows (link_payload p.link p.bytes) else [])

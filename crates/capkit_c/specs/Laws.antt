-- Laws of reading and writing.
use Rattle.std.specs.Prelude.{◌≡◌, ℕ, ◌+◌, ◌≤◌, pos, List, ◌++◌, length, drop, None}
use Rattle.cap_io.specs.Text as text
use Rattle.cap_pcapng.specs.Time.{microseconds, representable_time}
use Rattle.capkit_c.specs.{Skipping.found_at, Skipping.offset_of_no_time, Units.NextLeaves, declared.memory.layout.Interface.Interface}
use Rattle.capkit_c.specs.declared.memory.{layout.Packet.Packet, layout.Reader.Reader, reader.Found.Found}

-- a reader and a packet whose offsets are greater by k
abbrev pub reader_from : ℕ → Reader → Reader
reader_from k r = record r { offset = k + r.offset }

abbrev pub packet_from : ℕ → Packet → Packet
packet_from k p = record p { at = k + p.at; options_at = k + p.options_at }

-- Reading the remainder of a capture after its first k bytes is reading the capture, except that
-- all offsets are less by k. So the bytes before a reader's offset may be dropped, and its offset
-- set to 0.
abbrev pub RestIsRead : Type 0
RestIsRead =
    (capture : List ℕ) (k : ℕ) (r r' : Reader) (t t' : List Interface) (p p' : Packet)
    (what : Found) → k ≤ length capture → NextLeaves (drop k capture) r r' t t' p p' what
    → NextLeaves capture (reader_from k r) (reader_from k r') t t' (packet_from k p)
    (packet_from k p') what

-- The number of a packet's interface is the same before and after the interface is described. So
-- the units of the calls that put a packet are together what a sink adds.
abbrev pub NumberStays : Type 0
NumberStays =
    (known : List text.Interface) (i : text.Interface)
    → text.number_among (known ++ text.new_among known i) i ≡ text.number_among known i

-- For a unit that can't be skipped, the definition returns what a call finds that reads it.
abbrev pub FindsWhatIsRead : Type 0
FindsWhatIsRead =
    (capture : List ℕ) (r r' : Reader) (t t' : List Interface) (p p' : Packet) (what : Found)
    → length t' ≡ length t → NextLeaves capture r r' t t' p p' what → what ≡ found_at capture r t

-- No packet of an interface with refused options has a time in range.
abbrev pub NoTimeIsMadeUp : Type 0
NoTimeIsMadeUp =
    (ticks : ℕ) → representable_time ticks microseconds (pos offset_of_no_time) ≡ None

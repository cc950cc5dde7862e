-- The report on a file.
use Rattle.std.specs.{Fmt.decimal, List.flat_map, List.slice_get}
use Rattle.std.specs.Prelude.{ℕ, ◌+◌, ◌-◌, ◌/◌, ◌%◌, ◌==◌, ◌&&◌, Bool, true, false, if◌then◌else◌, nat_le, min, max, List, [], ◌∷◌, ◌++◌, length, codes, Option, None, Some, unwrap_or}
use Rattle.cap_octet.specs.Date.{NANOS_PER_SECOND, date_text, digits}
use Rattle.cap_octet.specs.{Format.format_name, Packet.Captured, declared.format.Format.Format}
use Rattle.cap_io.specs.declared.source.Kind.{Kind}

-- the counts over the packets of a file: their number, the sums of original and captured lengths,
-- the least, the greatest and the last time, and whether no time is less than the one before it
pub record Tally : Type 0 where
  pub count : ℕ
  pub data_size : ℕ
  pub captured_size : ℕ
  pub least : ℕ
  pub greatest : ℕ
  pub last : ℕ
  -- no time is less than the one before it; equal times are in order
  pub ascends : Bool

-- the tally of no packets
abbrev pub nothing_counted : Tally
nothing_counted =
    record {
      count = 0;
      data_size = 0;
      captured_size = 0;
      least = 0;
      greatest = 0;
      last = 0;
      ascends = true;
    }

-- a tally with one more packet
abbrev pub tally_with : Tally → Captured → Tally
tally_with t p = record {
  count = t.count + 1;
  data_size = t.data_size + p.orig;
  captured_size = t.captured_size + length p.bytes;
  least = if t.count == 0 then p.time else min t.least p.time;
  greatest = max t.greatest p.time;
  last = p.time;
  ascends = t.ascends && nat_le t.last p.time;
}

-- the report of an input: its index, its format, its size in bytes, and the tally of its packets
pub record Report : Type 0 where
  pub input : ℕ
  pub kind : Option Kind
  pub size : ℕ
  pub tally : Tally

-- the name of a format; a file without one has a fault, and no report
abbrev pub kind_name : Option Kind → List ℕ
kind_name None = []
kind_name (Some Kind.Pcap) = format_name Format.Pcap
kind_name (Some Kind.NsecPcap) = format_name Format.NsecPcap
kind_name (Some Kind.Pcapng) = format_name Format.Pcapng

-- a time as a date; "none" if there are no packets
abbrev pub date_or_none : ℕ → ℕ → List ℕ
date_or_none count time = if count == 0 then codes "none" else date_text time

-- a number of nanoseconds, written in seconds with a point and nine digits
abbrev pub seconds : ℕ → List ℕ
seconds time = decimal (time / NANOS_PER_SECOND) ++ 46 ∷ digits 9 (time % NANOS_PER_SECOND)

-- the word "yes" or "no"
abbrev pub yes_or_no : Bool → List ℕ
yes_or_no true = codes "yes"
yes_or_no false = codes "no"

-- `LABEL: VALUE`, each on a line, and then these bytes; 58, 32 and 10 are a colon, a blank and the
-- end of a line
abbrev pub lines : List (List ℕ × List ℕ) → List ℕ → List ℕ
lines [] following = following
lines ((label, value) ∷ more) following = label ++ (58 ∷ 32 ∷ (value ++ 10 ∷ lines more following))

-- labels and values: a file's format, its number of packets, its size and the sizes of its packets
abbrev pub size_lines : Option Kind → ℕ → Tally → List (List ℕ × List ℕ)
size_lines kind size t =
    (codes "Type", kind_name kind)
    ∷ (codes "Packets", decimal t.count)
    ∷ (codes "File size", decimal size)
    ∷ (codes "Data size", decimal t.data_size)
    ∷ (codes "Captured size", decimal t.captured_size)
    ∷ []

-- labels and values: the times of the packets
abbrev pub time_lines : Tally → List (List ℕ × List ℕ)
time_lines t =
    (codes "Earliest", date_or_none t.count t.least)
    ∷ (codes "Latest", date_or_none t.count t.greatest)
    ∷ (codes "Duration", seconds (t.greatest - t.least))
    ∷ (codes "Strict order", yes_or_no t.ascends)
    ∷ []

-- the report of a file of this name, and an empty line after it
unfoldable pub file_report : List ℕ → Option Kind → ℕ → Tally → List ℕ
file_report name kind size t =
    lines ((codes "File", name) ∷ (size_lines kind size t ++ time_lines t)) (10 ∷ [])

-- the name with this index; empty if there is none
abbrev pub name_at : List (List ℕ) → ℕ → List ℕ
name_at names i = unwrap_or (slice_get names i) []

-- the text of a report, by the names of the inputs
abbrev pub report_text : List (List ℕ) → Report → List ℕ
report_text names r = file_report (name_at names r.input) r.kind r.size r.tally

-- reports, one after another, by the names of the inputs
abbrev pub reports_text : List (List ℕ) → List Report → List ℕ
reports_text names rs = flat_map (report_text names) rs

-- The first unit of some bytes depends only on their prefix.
use Rattle.std.proofs.Common.{rules, ◌≡◌, ℕ, ◌<◌, ◌≤◌, Bool, List, [], ◌∷◌, ◌++◌, length, take, Option, Some, None, true, false, ap, is_some, is_none}
use Rattle.std.proofs.Common.{unwrap_or, if◌then◌else◌}
use Rattle.cap_io.proofs.Common.{arith, le-leb, length-append, Fault, Head, first_failing, form_in, header_fault, header_in, is_section, block_size, PcapngFile}
use Rattle.cap_pcap.specs.Record.{record_size, record_fault, record_packet}
use Rattle.cap_pcapng.specs.Unit.{Section, packets_in, unit_fault}
use Rattle.cap_io.specs.Capture.{Nothing, PcapFile, Front, Whole, NoUnit, file_after, front_of, front_of_block, is_pcapng, unit_unless}
use Rattle.cap_io.specs.Reading.{most_in_unit, most_taken, length_by_header, block_length, decisive_length}
use Rattle.{cap_pcapng.proofs.Units.least_length, cap_octet.proofs.Numbers.number_in-append}

-- ---- by the fault in a unit's place

abbrev pub header_unless : Option Fault → List ℕ → Front
header_unless fault text = unit_unless fault (Whole 24 [] (PcapFile (header_in text)))

abbrev pub record_unless : Option Fault → Head → List ℕ → Front
record_unless fault head text = unit_unless fault (Whole (record_size head text) (record_packet head (take (record_size head text) text) ∷ []) (PcapFile head))

abbrev pub block_unless : Option Fault → Option ℕ → Option Section → List ℕ → Front
block_unless fault first before text =
    unit_unless fault (Whole (block_size before text) (packets_in before (take (block_size before text) text))
    (file_after first before (take (block_size before text) text)))

-- ---- which kind of file

abbrev pub front_of_file : Bool → List ℕ → Front
front_of_file b text = if b then front_of_block None None text else header_unless (header_fault text) text

pub is_section-append : (front more : List ℕ) → 4 ≤ length front → is_section (front ++ more) ≡ is_section front
is_section-append front more enough = grind (arith, number_in-append)

-- it depends on the first four bytes
pub is_pcapng-append : (front more : List ℕ) → 4 ≤ length front → is_pcapng (front ++ more) ≡ is_section front
is_pcapng-append front more enough = grind (arith, le-leb, length-append, is_section-append)

pub front_of-pcap : (text : List ℕ) → is_pcapng text ≡ false → front_of Nothing text ≡ header_unless (header_fault text) text
front_of-pcap text other = grind arith

pub front_of-pcapng : (text : List ℕ) → is_pcapng text ≡ true → front_of Nothing text ≡ block_unless (unit_fault None text) None None text
front_of-pcapng text is = ap (λ (b : Bool). front_of_file b text) is

-- ---- faults

pub front_of-no_header : (text : List ℕ) (fault : Fault) → is_pcapng text ≡ false → header_fault text ≡ Some fault → front_of Nothing text ≡ NoUnit (Some fault)
front_of-no_header text fault other fails = grind (arith, front_of-pcap)

pub front_of-no_record : (head : Head) (text : List ℕ) (fault : Fault) → 0 < length text → record_fault head text ≡ Some fault
    → front_of (PcapFile head) text ≡ NoUnit (Some fault)
front_of-no_record head text fault some fails = grind arith

-- ---- units

pub front_of-header : (text : List ℕ) → is_pcapng text ≡ false → header_fault text ≡ None → front_of Nothing text ≡ Whole 24 [] (PcapFile (header_in text))
front_of-header text other none = grind (arith, front_of-pcap)

pub front_of-record : (head : Head) (text : List ℕ) → record_fault head text ≡ None
    → front_of (PcapFile head) text ≡ Whole (record_size head text) (record_packet head (take (record_size head text) text) ∷ []) (PcapFile head)
front_of-record head text none = grind arith

-- what follows a section, where anything does
pub front_of-following : (first : Option ℕ) (section : Section) (text : List ℕ) → 0 < length text
    → front_of (PcapngFile first section) text ≡ block_unless (unit_fault (Some section) text) first (Some section) text
front_of-following first section text some = grind arith

-- a block
pub front_of_block-whole : (first : Option ℕ) (before : Option Section) (text : List ℕ) → unit_fault before text ≡ None
    → block_unless (unit_fault before text) first before text
    ≡ Whole (block_size before text) (packets_in before (take (block_size before text) text)) (file_after first before (take (block_size before text) text))
front_of_block-whole first before text none = grind arith

pub front_of_block-none : (first : Option ℕ) (before : Option Section) (text : List ℕ) (fault : Fault) → unit_fault before text ≡ Some fault
    → block_unless (unit_fault before text) first before text ≡ NoUnit (Some fault)
front_of_block-none first before text fault fails = grind arith

-- ---- how much is taken at most

pub most_taken-header : (text : List ℕ) (count : ℕ) → is_pcapng text ≡ false → count ≤ 24 → count ≤ most_taken (front_of Nothing text)
most_taken-header text count other upper_bound = search rules

pub most_taken-record : (head : Head) (text : List ℕ) (count : ℕ) → count ≤ record_size head text → count ≤ most_in_unit
    → count ≤ most_taken (front_of (PcapFile head) text)
most_taken-record head text count within upper_bound = grind arith

-- the fields before a record's data
pub most_taken-front : (head : Head) (text : List ℕ) (count : ℕ) → count ≤ 16 → count ≤ most_taken (front_of (PcapFile head) text)
most_taken-front head text count upper_bound = grind (arith, most_taken-record)

pub most_taken-block : (first : Option ℕ) (before : Option Section) (text : List ℕ) (count : ℕ)
    → (unit_fault before text ≡ None → count ≤ block_size before text)
    → count ≤ most_in_unit → count ≤ most_taken (block_unless (unit_fault before text) first before text)
most_taken-block first before text count within upper_bound = search rules

-- ---- how many bytes decide it

-- it depends on a header that is complete and fails no check
pub length_by_header-whole : (header : ℕ) (text : List ℕ) (checks : List (Bool × Fault)) (size : ℕ) → header ≤ length text → first_failing checks ≡
    None → length_by_header header text checks size ≡ Some size
length_by_header-whole header text checks size whole none = search rules

-- fewer bytes than a header has don't decide anything
length_by_header-few : (header : ℕ) (text : List ℕ) (checks : List (Bool × Fault)) (size count : ℕ) → (first_failing checks ≡ None → header ≤ size)
    → count < header → count < unwrap_or (length_by_header header text checks size) header
length_by_header-few header text checks size count least few = grind (arith, is_none)

abbrev pub decisive_block_length : Option Section → List ℕ → ℕ
decisive_block_length before text = unwrap_or (block_length before text) 12

pub decisive_block_length-few : (before : Option Section) (text : List ℕ) (count : ℕ) → count < 12 → count < decisive_block_length before text
decisive_block_length-few before text count few = grind (arith, length_by_header-few, block_size, least_length)

pub decisive_length-pcapng : (text : List ℕ) → is_pcapng text ≡ true → decisive_length Nothing text ≡ decisive_block_length None text
decisive_length-pcapng text is = grind arith

pub decisive_length-header : (text : List ℕ) → is_pcapng text ≡ false → is_some (form_in text) ≡ true → decisive_length Nothing text ≡ 24
decisive_length-header text other some = search rules

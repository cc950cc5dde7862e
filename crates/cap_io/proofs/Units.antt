-- Complete units, and what bytes begin with.
use Rattle.std.proofs.Common.{rules, ◌≡◌, ℕ, Bool, true, false, ◌&&◌, cond, is_some, ◌⊎◌, inl, inr, ◌<◌, ◌≤◌, List, [], ◌∷◌, ◌++◌, length, take, drop, Option}
use Rattle.std.proofs.Common.{None, Some, refl, sym, ◌∙◌, ap, ◌==◌, nat_le, subst, eqb-true}
use Rattle.cap_io.proofs.Common.{arith, append-nil, length-append, length-take-le, take-append-drop, take_at, Captured, Fault, Head, Resolution, Microseconds}
use Rattle.cap_io.proofs.Common.{Nanoseconds, form_in, header_checks, header_fault, header_in, magic, IsHeader, u32_in, Little, Big, all_met, section_type}
use Rattle.cap_io.proofs.Common.{block_size, Declared, PcapngFile, append_assoc}
use Rattle.cap_pcap.specs.Record.{record_fault, record_size, record_packet, IsRecord}
use Rattle.cap_pcap.proofs.Headers.{header_fault-append, header_fault-none, header_in-append}
use Rattle.cap_pcap.proofs.Records.{IsRecord-front, IsRecord-take, passes}
use Rattle.cap_pcapng.specs.Unit.{IsBlock, Section, packets_in, unit_fault}
use Rattle.cap_io.specs.Capture.{Nothing, PcapFile, IsUnit, a_pcap_header, a_pcap_record, a_first_block, a_block, file_after, is_pcapng, placed_at, AreUnits}
use Rattle.cap_io.specs.Capture.{no_unit, unit_then, Whole, front_of}
use Rattle.cap_io.specs.Reading.{FitUnits, no_unit_fits, unit_fits, held_length}
use Rattle.cap_io.proofs.Fronts.{block_unless, front_of_file, header_unless, record_unless, front_of-header, front_of-record, front_of-pcapng}
use Rattle.cap_io.proofs.Fronts.{front_of-following, front_of_block-whole}
use Rattle.cap_pcapng.proofs.Units as block
use Rattle.cap_octet.specs.Number.{number_in}

-- ---- which kind of file

-- The four bytes of a section header's type read as no magic number of pcap, in no order.
not_swapped : (text : List ℕ) (resolution : Resolution) → 4 ≤ length text → u32_in Little text 0 ≡ section_type → u32_in Big text 0 ≡ magic resolution → ⊥
unfolding number_in
not_swapped text resolution enough little big = grind arith

some_form : {X : Type 0} (a b : Bool) (x y : X) → is_some (cond a (Some x) (cond b (Some y) None)) ≡ true → (a ≡ true) ⊎ (b ≡ true)
some_form a b x y e = grind arith

pub and_second : (a b : Bool) → (a && b) ≡ true → b ≡ true
and_second a b e = grind arith

pub header-other : (text : List ℕ) → is_pcapng text ≡ true → header_fault text ≡ None → ⊥
header-other text is none =
    let little : u32_in Little text 0 ≡ section_type = grind (arith, eqb-true, and_second) in
    let some : is_some (form_in text) ≡ true = and_second (nat_le 4 (length text)) (is_some (form_in text)) (all_met (header_checks text) none).0 in
    let form = some_form (u32_in Big text 0 == magic Microseconds) (u32_in Big text 0 == magic Nanoseconds) (Big, Microseconds) (Big, Nanoseconds)
    (rw little at some) in
    let enough : 4 ≤ length text = omega (arith, header_fault-none text none) in
    elim form [
      | inl e ↦ not_swapped text Microseconds enough little (eqb-true (u32_in Big text 0) (magic Microseconds) e)
      | inr e ↦ not_swapped text Nanoseconds enough little (eqb-true (u32_in Big text 0) (magic Nanoseconds) e)
    ]

-- a first block is a section header
pub first-section : (text : List ℕ) → unit_fault None text ≡ None → is_pcapng text ≡ true
first-section text none = search rules

other-header : (text : List ℕ) → header_fault text ≡ None → is_pcapng text ≡ false
other-header text none = grind (arith, header-other)

-- ---- the first unit

header-front : (bytes more : List ℕ) (head : Head) → IsHeader bytes head → front_of Nothing (bytes ++ more) ≡ Whole (length bytes) [] (PcapFile head)
header-front bytes more head is = grind (arith, header_fault-append, front_of-header, other-header, header_in-append)

record-front : (head : Head) (bytes more : List ℕ) → IsRecord head bytes → front_of (PcapFile head) (bytes ++ more) ≡ Whole (length bytes)
    (record_packet head bytes ∷ []) (PcapFile head)
record-front head bytes more is =
    let p = IsRecord-front head bytes more is in
    front_of-record head (bytes ++ more) p.0
    ∙ rw (p.1, take_at bytes more (length bytes) refl) refl

pub block-front : (first : Option ℕ) (before : Option Section) (bytes more : List ℕ) → IsBlock before bytes
    → block_unless (unit_fault before (bytes ++ more)) first before (bytes ++ more) ≡ Whole (length bytes) (packets_in before bytes)
    (file_after first before bytes)
block-front first before bytes more is =
    let p = block.IsBlock-front before bytes more is in
    grind (arith, front_of_block-whole, take_at)

block-sized : (before : Option Section) (bytes : List ℕ) → IsBlock before bytes → 12 ≤ length bytes
block-sized before bytes is = (block.passes before bytes is.passes).enough

-- what follows a unit has no part in it
pub front_of-unit : {b : Declared} {u : List ℕ} {qs : List Captured} {c : Declared} → IsUnit b u qs c → (more : List ℕ) → front_of b (u ++ more) ≡
    Whole (length u) qs c
front_of-unit (a_pcap_header bytes head is) more = header-front bytes more head is
front_of-unit (a_pcap_record head bytes is) more = record-front head bytes more is
front_of-unit (a_first_block bytes is) more =
    front_of-pcapng (bytes ++ more) (first-section (bytes ++ more) (block.IsBlock-front None bytes more is).0) ∙ block-front None None bytes more is
front_of-unit (a_block first section bytes is) more =
    front_of-following first section (bytes ++ more) (omega (arith, length-append bytes more, block-sized (Some section) bytes is))
    ∙ block-front first (Some section) bytes more is

-- bytes that begin with a complete unit
pub record IsFront (declared : Declared) (text : List ℕ) (size : ℕ) (packets : List Captured) (after : Declared) : Type 0 where
  pub unit : IsUnit declared (take size text) packets after
  pub there : size ≤ length text
  pub some : 0 < size

same_front : (declared : Declared) (text : List ℕ) (m n : ℕ) (ps qs : List Captured) (c d : Declared) → Whole m ps c ≡ Whole n qs d
    → IsFront declared text m ps c → IsFront declared text n qs d
same_front declared text m n ps qs c d e is = grind arith

header-is : (text : List ℕ) (size : ℕ) (packets : List Captured) (after : Declared) (fault : Option Fault) → header_fault text ≡ fault
    → header_unless fault text ≡ Whole size packets after → IsFront Nothing text size packets after
header-is text size packets after None none e =
    let enough : 24 ≤ length text = header_fault-none text none in
    let joined : take 24 text ++ drop 24 text ≡ text = take-append-drop 24 text in
    let long : length (take 24 text) ≡ 24 = length-take-le 24 text enough in
    let passes : header_fault (take 24 text) ≡ None = grind (arith, header_fault-append) in
    let says : header_in text ≡ header_in (take 24 text) = ap header_in (sym joined) ∙ header_in-append (take 24 text) (drop 24 text) (omega arith) in
    let is : IsFront Nothing text 24 [] (PcapFile (header_in text)) =
    record {
      unit = a_pcap_header (take 24 text) (header_in text) (record { passes = passes; whole = long; says = says });
      there = enough;
      some =
          omega arith;
    } in
    same_front Nothing text 24 size [] packets (PcapFile (header_in text)) after e is
header-is text size packets after (Some fault) fails e = (cc)

record-is : (head : Head) (text : List ℕ) (size : ℕ) (packets : List Captured) (after : Declared) (fault : Option Fault) → record_fault head text ≡
    fault → record_unless fault head text ≡ Whole size packets after
    → IsFront (PcapFile head) text size packets after
record-is head text size packets after None none e =
    let p = passes head text none in
    let front : List ℕ = take (record_size head text) text in
    let is : IsFront (PcapFile head) text (record_size head text) (record_packet head front ∷ []) (PcapFile head) =
    record { unit = a_pcap_record head front (IsRecord-take head text none); there = p.whole; some = omega arith } in
    same_front (PcapFile head) text (record_size head text) size (record_packet head front ∷ []) packets (PcapFile head) after e is
record-is head text size packets after (Some fault) fails e = (cc)

-- the block that bytes begin with, as a unit
block-is : (declared : Declared) (first : Option ℕ) (before : Option Section) (text : List ℕ) (size : ℕ) (packets : List Captured) (after : Declared)
    (fault : Option Fault)
    → unit_fault before text ≡ fault → block_unless fault first before text ≡ Whole size packets after
    → ((bytes : List ℕ) → IsBlock before bytes → IsUnit declared bytes (packets_in before bytes) (file_after first before bytes))
    → IsFront declared text size packets after
block-is declared first before text size packets after None none e unit =
    let p = block.passes before text none in
    let front : List ℕ = take (block_size before text) text in
    let is : IsFront declared text (block_size before text) (packets_in before front) (file_after first before front) =
    record { unit = unit front (block.IsBlock-take before text none); there = p.whole; some = omega (arith, p.least) } in
    same_front declared text (block_size before text) size (packets_in before front) packets (file_after first before front) after e is
block-is declared first before text size packets after (Some fault) fails e unit = (cc)

file-is : (text : List ℕ) (size : ℕ) (packets : List Captured) (after : Declared) (section : Bool) → front_of_file section text ≡ Whole size packets
    after → IsFront Nothing text size packets after
file-is text size packets after true e = block-is Nothing None None text size packets after (unit_fault None text) refl e (λ bytes is. a_first_block bytes is)
file-is text size packets after false e = grind (arith, header-is)

pub front_of-is : (declared : Declared) (text : List ℕ) (size : ℕ) (packets : List Captured) (after : Declared) → front_of declared text ≡ Whole size
    packets after → IsFront declared text size packets after
front_of-is Nothing text size packets after e = file-is text size packets after (is_pcapng text) e
front_of-is (PcapFile head) [] size packets after e = (cc)
front_of-is (PcapFile head) (b ∷ bytes) size packets after e = grind (arith, record-is)
front_of-is (PcapngFile first section) [] size packets after e = (cc)
front_of-is (PcapngFile first section) (b ∷ bytes) size packets after e =
    block-is (PcapngFile first section) first (Some section) (b ∷ bytes) size packets after (unit_fault (Some section) (b ∷ bytes)) refl e
    (λ u is. a_block first section u is)

-- one unit alone
pub one_unit : {b c : Declared} {at : ℕ} {u : List ℕ} {qs : List Captured} → IsUnit b u qs c → AreUnits b at u (placed_at at qs) c
one_unit {b} {c} {at} {u} {qs} one =
    let whole : AreUnits b at (u ++ []) (placed_at at qs ++ []) c = unit_then one no_unit in
    rw (append-nil u, append-nil (placed_at at qs)) at whole

-- a longer block has room for them too
pub FitUnits-wider : {room more : ℕ} {b d : Declared} {u : List ℕ} → room ≤ more → FitUnits room b u d → FitUnits more b u d
FitUnits-wider wider no_unit_fits = no_unit_fits
FitUnits-wider wider (unit_fits unit fits others) = unit_fits unit (omega (arith, fits, wider)) (FitUnits-wider wider others)

pub FitUnits-append : {room : ℕ} {b c d : Declared} {u v : List ℕ} → FitUnits room b u c → FitUnits room c v d → FitUnits room b (u ++ v) d
FitUnits-append no_unit_fits others = others
FitUnits-append {room} {b} {c} {d} {u} {v} (unit_fits {u = first} {more = more} unit fits rest) others =
    subst (λ (text : List ℕ). FitUnits room b text d) (sym (append_assoc first more v)) (unit_fits unit fits (FitUnits-append rest others))

pub one_unit_fits : {room size : ℕ} {b d : Declared} {u : List ℕ} {qs : List Captured} → IsUnit b u qs d → held_length b d (length u) ≡ size
    → size ≤ room → FitUnits room b u d
one_unit_fits {room} {size} {b} {d} {u} unit whole fits =
    subst (λ (text : List ℕ). FitUnits room b text d) (append-nil u) (unit_fits unit (omega (arith, whole, fits)) no_unit_fits)

-- no more of a unit is held than it has
pub held_length-le : (b c : Declared) (size : ℕ) → held_length b c size ≤ size
held_length-le b c size = grind arith

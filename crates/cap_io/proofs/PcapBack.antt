-- A capture that is written in a pcap format reads back.
use Rattle.std.proofs.Common.{rules, ◌≡◌, ℕ, ◌+◌, ◌*◌, ◌/◌, ◌%◌, ◌^◌, ◌<◌, ◌≤◌, Bool, List, [], ◌∷◌, ◌++◌, length, drop, None, refl, sym, ap, subst, ◌∙◌}
use Rattle.std.proofs.Common.{lt-ltb, le-leb}
use Rattle.cap_io.proofs.Common.{arith, AllByRecursion, flat_map, first_failing, u32_in, Captured, Fault, LinkTypesDiffer, Pcap, NsecPcap, Little, IsHeader}
use Rattle.cap_io.proofs.Common.{Head, Resolution, Microseconds, Nanoseconds, Back, InRange, IsPlain, ReadsBack}
use Rattle.cap_pcap.specs.Record.{IsRecord, field_checks, most_captured, nanoseconds_of_part, record_packet, parts_of_second}
use Rattle.cap_io.specs.Capture.{PcapFile, a_pcap_header, a_pcap_record}
use Rattle.cap_io.specs.Text.{has_link, record_text, state_after}
use Rattle.cap_io.proofs.Backs.{Holds, each-following, holds-none, holds-unit, reads-back}
use Rattle.cap_io.proofs.Texts.{bare_text, text-start}
use Rattle.{cap_pcap.proofs.Records.record_fault-whole, cap_pcapng.proofs.Numerals.number_at}
use Rattle.cap_pcap.specs.Encoding as pcap
use Rattle.cap_octet.specs.Number.{number_in}

-- ---- a record

written_head : Resolution → ℕ → Head
written_head resolution link = record { order = Little; resolution = resolution; snap = most_captured; link = link }

-- no part of a second is cut off
abbrev IsWhole : Resolution → ℕ → Type 0
IsWhole Microseconds time = time % 1000 ≡ 0
IsWhole Nanoseconds time = Unit {0}

part-fits : (r : Resolution) (time : ℕ) → time % 1000000000 / nanoseconds_of_part r < parts_of_second r
part-fits r time = grind arith

part-small : (r : Resolution) (time : ℕ) → time % 1000000000 / nanoseconds_of_part r < 256 ^ 4
part-small r time = grind arith

time-back : (r : Resolution) (time : ℕ) → IsWhole r time → time / 1000000000 * 1000000000 + time % 1000000000 / nanoseconds_of_part r *
    nanoseconds_of_part r ≡ time
time-back r time whole = grind arith

-- a packet that a form keeps
record IsKept (r : Resolution) (link : ℕ) (p : Captured) : Type 0 where
  link_is : p.link ≡ link
  plain : IsPlain p
  whole : IsWhole r p.time
  orig : p.orig < 2 ^ 32
  upper_bound : length p.bytes ≤ most_captured
  seconds : p.time / 1000000000 < 2 ^ 32

record ReadsRecord (r : Resolution) (link : ℕ) (p : Captured) : Type 0 where
  is_record : IsRecord (written_head r link) (record_text r p)
  packet : record_packet (written_head r link) (record_text r p) ≡ p

record-back : (r : Resolution) (link : ℕ) (p : Captured) → IsKept r link p → ReadsRecord r link p
unfolding written_head
record-back r link p kept =
    let bytes : List ℕ = record_text r p in
    let head : Head = written_head r link in
    let seconds_are : u32_in Little bytes 0 ≡ p.time / 1000000000 = number_at 4 bytes 0 (p.time / 1000000000) (drop 4 bytes) refl kept.seconds in
    let part_is : u32_in Little bytes 4 ≡ p.time % 1000000000 / nanoseconds_of_part r =
    number_at 4 bytes 4 (p.time % 1000000000 / nanoseconds_of_part r) (drop 8 bytes) refl (part-small r p.time) in
    let captured_is : u32_in Little bytes 8 ≡ length p.bytes = number_at 4 bytes 8 (length p.bytes) (drop 12 bytes) refl (omega (arith, kept.upper_bound)) in
    let orig_is : u32_in Little bytes 12 ≡ p.orig = number_at 4 bytes 12 p.orig (drop 16 bytes) refl kept.orig in
    let size : length bytes ≡ 16 + length p.bytes = omega arith in
    let fields : first_failing (field_checks head bytes) ≡ None =
    rw (
      captured_is,
      part_is,
      le-leb (length p.bytes) most_captured kept.upper_bound,
      lt-ltb (p.time % 1000000000 / nanoseconds_of_part r)
          (parts_of_second r) (part-fits r p.time),
    ) refl in
    let time_is : u32_in Little bytes 0 * 1000000000 + u32_in Little bytes 4 * nanoseconds_of_part r ≡ p.time =
    ap (λ (n : ℕ). n * 1000000000 + u32_in Little bytes 4 * nanoseconds_of_part r) seconds_are
    ∙ ap (λ (n : ℕ). p.time / 1000000000 * 1000000000 + n * nanoseconds_of_part r) part_is
    ∙ time-back r p.time kept.whole in
    record {
      is_record = record {
        passes = record_fault-whole head bytes (omega arith) fields (omega (arith, captured_is));
        whole = omega (arith, captured_is);
      };
      packet = λ k. record {
        link = sym kept.link_is k;
        snap = sym kept.plain.snap k;
        name = sym kept.plain.name k;
        time = time_is k;
        orig =
            orig_is k;
        bytes = p.bytes;
        comment = sym kept.plain.comment k;
      };
    }

-- ---- the file header

header-back : (r : Resolution) (link : ℕ) → link < 2 ^ 16 → IsHeader (pcap.file_header r link) (written_head r link)
unfolding written_head number_in
header-back Microseconds link upper_bound = search rules
header-back Nanoseconds link upper_bound = search rules

-- ---- records

records-hold : (r : Resolution) (link at : ℕ) (ps : List Captured) → AllByRecursion (IsKept r link) ps
    → Holds (PcapFile (written_head r link)) at (flat_map (record_text r) ps) ps
records-hold r link at [] kept = grind (arith, holds-none, written_head)
records-hold r link at (p ∷ ps) kept =
    let back = record-back r link p kept.0 in
    let unit = a_pcap_record (written_head r link) (record_text r p) back.is_record in
    let all : Holds (PcapFile (written_head r link)) at (record_text r p ++ flat_map (record_text r) ps)
    (record_packet (written_head r link) (record_text r p) ∷ ps) =
    holds-unit unit at (flat_map (record_text r) ps) ps (records-hold r link (at + length (record_text r p)) ps kept.1) in
    rw back.packet at all

text-pcap : (earlier ps : List Captured) → bare_text Pcap earlier ps ≡ flat_map (record_text Microseconds) ps
text-pcap earlier [] = refl
text-pcap earlier (p ∷ ps) = grind (arith, (text-pcap (earlier ++ p ∷ []) ps))

text-nanoseconds : (earlier ps : List Captured) → bare_text NsecPcap earlier ps ≡ flat_map (record_text Nanoseconds) ps
text-nanoseconds earlier [] = refl
text-nanoseconds earlier (p ∷ ps) = grind (arith, (text-nanoseconds (earlier ++ p ∷ []) ps))

file-back : (r : Resolution) (link : ℕ) (ps : List Captured) → link < 2 ^ 16 → AllByRecursion (IsKept r link) ps
    → ReadsBack (pcap.file_header r link ++ flat_map (record_text r) ps) ps
file-back r link ps upper_bound kept =
    let unit = a_pcap_header (pcap.file_header r link) (written_head r link) (header-back r link upper_bound) in
    reads-back (pcap.file_header r link ++ flat_map (record_text r) ps) ps
    (holds-unit unit 0 (flat_map (record_text r) ps) ps (records-hold r link (0 + length (pcap.file_header r link)) ps kept))

-- ---- what a form carries is kept

abbrev has_first_link : List Captured → Captured → Bool
has_first_link earlier p = has_link (state_after earlier) p

abbrev link_check : List Captured → Captured → List (Bool × Fault)
link_check earlier p = (has_first_link earlier p, LinkTypesDiffer) ∷ []

abbrev form_checks : List Captured → Captured → List (Bool × Fault)
form_checks earlier p = (has_first_link earlier p, LinkTypesDiffer) ∷ pcap.record_fit_checks p

kept-of : (r : Resolution) (first p : Captured) (rest earlier later : List Captured) → first ∷ rest ≡ earlier ++ p ∷ later → InRange p → IsPlain p
    → IsWhole r p.time
    → first_failing (form_checks earlier p) ≡ None → IsKept r first.link p
kept-of r first p rest earlier later is in_range plain whole none = search rules

pub pcap-back : Back Pcap
pcap-back p ps carries =
    let kept = each-following (IsKept Microseconds p.link) (p ∷ ps)
    (grind (arith, kept-of)) [] (p ∷ ps) refl in
    let one = carries.each [] p ps refl in
    let R : List ℕ → Type 0 = λ t. ReadsBack t (p ∷ ps) in
    subst R (sym (text-start Pcap p ps ∙ ap (λ (l : List ℕ). pcap.file_header Microseconds p.link ++ l) (text-pcap [] (p ∷ ps))))
    (file-back Microseconds p.link (p ∷ ps) one.in_range.link kept)

pub nanoseconds-back : Back NsecPcap
nanoseconds-back p ps carries =
    let kept = each-following (IsKept Nanoseconds p.link) (p ∷ ps)
    (grind (arith, kept-of)) [] (p ∷ ps) refl in
    let one = carries.each [] p ps refl in
    let R : List ℕ → Type 0 = λ t. ReadsBack t (p ∷ ps) in
    subst R (sym (text-start NsecPcap p ps ∙ ap (λ (l : List ℕ). pcap.file_header Nanoseconds p.link ++ l) (text-nanoseconds [] (p ∷ ps))))
    (file-back Nanoseconds p.link (p ∷ ps) one.in_range.link kept)

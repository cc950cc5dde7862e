-- The unit that some bytes begin with.
use Rattle.cap_io.proofs.BlocksCame.{BlockCame, FrontSays, WholeCame, block_came, block_refused, front_says}
use Rattle.cap_io.proofs.CapturesCame.{first-packets, order-held, section-kept}
use Rattle.std.proofs.Common.{◌≡◌, ℕ, ◌+◌, ◌^◌, ◌<◌, ◌≤◌, List, [], ◌∷◌, ◌++◌, length, take, drop, Option, Some, Ok, Err, refl, sym, ap, ◌∙◌, subst}
use Rattle.cap_io.proofs.Common.{arith, lt-leb, take-take, length-take-le, take-append-drop, length-append, checked, first_failing, checked_ok, checked_err}
use Rattle.cap_io.proofs.Common.{Captured, Fault, Truncated, Order, Head, RecordHead, header_fault, header_in, is_section, most_interfaces, Described}
use Rattle.cap_io.proofs.Common.{block_size, Frame, PacketSpans, FileState, Declared, PcapngFile, PacketCame, append_assoc, BlockEffect}
use Rattle.cap_pcap.proofs.Headers.{header_in-append, header_fault-append}
use Rattle.cap_pcap.specs.Record.{field_checks, record_header_in, record_fault, captured_len, most_captured}
use Rattle.cap_pcap.proofs.Records.{field_checks-append, record_header_in-append, record_fault-fields, record_fault-short}
use Rattle.cap_io.specs.Reading.{most_in_unit, declared_by, packet_in_unit}
use Rattle.cap_pcapng.proofs.Units.{frame_checks-append, frame_in-append, parts_in-append, unit_fault-frame, unit_fault-short}
use Rattle.cap_pcapng.specs.Unit.{Section, interfaces_before, order_before, packets_in, parts_after, unit_fault}
use Rattle.cap_pcapng.specs.Effect.{IsBlockFault, section_of, FitsIfAny, HasEffect, LiesAsSaid, interfaces_after, packet_in_effect}
use Rattle.cap_io.specs.Capture.{Nothing, PcapFile, Whole, NoUnit, IsUnit, file_after, first_link_after, front_of, is_pcapng}
use Rattle.cap_io.specs.inside.Reading.{known_first_link, known_order, section_before, HasInterface, IsConsistent, BeginsWithPacket, record_spans, BeginsAt}
use Rattle.cap_io.proofs.Fronts.{block_unless, front_of-following, front_of-pcapng, front_of-no_record, front_of_block-none, is_pcapng-append}
use Rattle.cap_io.specs.FirstUnit.{BeginsWithUnit, HoldsPackets}
use Rattle.cap_pcapng.specs.{Frame.frame_fault, Frame.frame_in, Block.parts_in, Block.Parts}
use Rattle.cap_io.proofs.{Came.fields_came, Came.record_came, Units.block-front, Units.front_of-is, Units.front_of-unit}
use Rattle.cap_io.specs.declared.file_state.FileState.TheVariants as state
use Rattle.cap_pcapng.specs.declared.effect.BlockEffect.TheVariants as does

-- ---- the file header of pcap

pub pcapng_by : (text first : List ℕ) → 4 ≤ length text → first ≡ take 4 text → is_section first ≡ is_pcapng text
pcapng_by text first enough same =
    let upper_bound : length (take 4 text) ≡ 4 = length-take-le 4 text enough in
    ap is_section same ∙ sym (is_pcapng-append (take 4 text) (drop 4 text) (omega (arith, upper_bound))) ∙ ap is_pcapng (take-append-drop 4 text)

pub head_taken : (text : List ℕ) → 24 ≤ length text → checked (header_fault (take 24 text)) (header_in (take 24 text)) ≡ checked (header_fault text)
    (header_in text)
head_taken text enough =
    let joined : take 24 text ++ drop 24 text ≡ text = take-append-drop 24 text in
    grind (arith, length-take-le, header_fault-append, header_in-append, checked)

-- ---- a record

pub record-few : (head : Head) (text : List ℕ) → 0 < length text → length text < 16 → front_of (PcapFile head) text ≡ NoUnit (Some Truncated)
record-few head text some few =
    let none : record_fault head text ≡ Some Truncated = rw (lt-leb 16 (length text) few) refl in front_of-no_record head text Truncated some none

fields_taken : (head : Head) (text front : List ℕ) → 16 ≤ length text → front ≡ take 16 text → first_failing (field_checks head text) ≡ first_failing
    (field_checks head front)
fields_taken head text front enough same =
    let upper_bound : length (take 16 text) ≡ 16 = length-take-le 16 text enough in
    ap (λ t. first_failing (field_checks head t)) (sym (take-append-drop 16 text))
    ∙ ap first_failing (field_checks-append head (take 16 text) (drop 16 text) (omega arith)) ∙ ap (λ t. first_failing (field_checks head t)) (sym same)

pub record-refused : (head : Head) (text front : List ℕ) (fault : Fault) → 16 ≤ length text → front ≡ take 16 text
    → Err fault ≡ checked (first_failing (field_checks head front)) (record_header_in head front) → front_of (PcapFile head) text ≡ NoUnit (Some fault)
record-refused head text front fault enough same is =
    let e = checked_err (first_failing (field_checks head front)) (record_header_in head front) fault (sym is) in
    front_of-no_record head text fault (omega arith) (record_fault-fields head text fault enough (fields_taken head text front enough same ∙ e))

pub record-cut : (head : Head) (text front : List ℕ) (found : RecordHead) → 16 ≤ length text → front ≡ take 16 text
    → Ok found ≡ checked (first_failing (field_checks head front)) (record_header_in head front) → length text < 16 + found.captured
    → front_of (PcapFile head) text ≡ NoUnit (Some Truncated)
record-cut head text front found enough same is short =
    let e = checked_ok (first_failing (field_checks head front)) (record_header_in head front) found (sym is) in
    let upper_bound : length (take 16 text) ≡ 16 = length-take-le 16 text enough in
    let says : record_header_in head text ≡ found =
    ap (record_header_in head) (sym (take-append-drop 16 text)) ∙ record_header_in-append head (take 16 text) (drop 16 text) (omega arith)
    ∙ ap (record_header_in head) (sym same) ∙ e.1 in
    let size : captured_len head text ≡ found.captured = ap (λ (r : RecordHead). r.captured) says in
    front_of-no_record head text Truncated (omega arith)
    (record_fault-short head text enough (fields_taken head text front enough same ∙ e.0) (omega (arith, size, short)))

-- the record is a unit with a packet
record-packet : (head : Head) (text : List ℕ) (found : RecordHead) → checked (first_failing (field_checks head (take 16 text)))
    (record_header_in head (take 16 text)) ≡ Ok found
    → 16 + found.captured ≤ length text
    → PacketCame (PcapFile head) text text (record_spans found) (PcapFile head) (drop (16 + found.captured) text)
record-packet head text found says there =
    let size : ℕ = 16 + found.captured in
    let unit : List ℕ = take size text in
    let front : List ℕ = take 16 text in
    let rest : List ℕ = drop size text in
    let upper_bound : length front ≡ 16 = length-take-le 16 text (omega (arith, there)) in
    let first : take 16 unit ≡ front = take-take 16 size text (omega arith) in
    let joined : unit ≡ front ++ drop 16 unit = sym (take-append-drop 16 unit) ∙ ap (λ (l : List ℕ). l ++ drop 16 unit) first in
    let splits : text ≡ unit ++ rest = sym (take-append-drop size text) in
    let parts : text ≡ front ++ (drop 16 unit ++ rest) = splits ∙ ap (λ (l : List ℕ). l ++ rest) joined ∙ append_assoc front (drop 16 unit) rest in
    record_came head text (drop 16 unit ++ rest) rest front unit text found size parts upper_bound
    (fields_came head front (Ok found) found (sym says) refl) refl (length-take-le size text there)
    (ap (λ (n : ℕ). take n unit) upper_bound ∙ first) (ap (λ (n : ℕ). drop n unit ++ rest) (sym upper_bound)) refl

pub record-begins : (head : Head) (interfaces : List Described) (text front : List ℕ) (found : RecordHead) → front ≡ take 16 text
    → Ok found ≡ checked (first_failing (field_checks head front)) (record_header_in head front) → 16 + found.captured ≤ length text → found.time < 2 ^ 63
    → found.captured ≤ most_captured → BeginsWithUnit (state.Pcap head) interfaces text
    (record { size = 16 + found.captured; file = state.Pcap head; effect = does.Packet (record_spans found) })
record-begins head interfaces text front found same is there time few =
    let size : ℕ = 16 + found.captured in
    let F : List ℕ → Type 0 = λ l. checked (first_failing (field_checks head l)) (record_header_in head l) ≡ Ok found in
    let p = record-packet head text found (subst F same (sym is)) there in
    record {
      packets = p.packet ∷ [];
      front = ap (front_of (PcapFile head)) (sym (take-append-drop size text)) ∙ front_of-unit p.unit (drop size text)
          ∙ ap (λ n. Whole n (p.packet ∷ []) (PcapFile head)) (length-take-le size text there);
      has = record {
        packet = p.packet;
        only = refl;
        is_lent = p.is_lent;
        lies = (refl, refl, refl);
        whole = refl;
        bytes = omega arith;
        options = omega arith;
        time = time;
      };
      there = there;
      some = omega arith;
      small = omega (arith, few);
      adds = tt;
      fits = λ fit. fit;
    }

-- ---- the frame of a block

-- the first 12 bytes determine it
pub framed : (section : Option Order) (text front : List ℕ) (frame : Frame) → 12 ≤ length text → front ≡ take 12 text
    → Ok frame ≡ checked (frame_fault section front) (frame_in section front) → FrontSays section text frame
framed section text front frame enough same is =
    let upper_bound : length (take 12 text) ≡ 12 = length-take-le 12 text enough in
    let joined : take 12 text ++ drop 12 text ≡ text = take-append-drop 12 text in
    let said = front_says section front (Ok frame) frame is refl in
    grind (arith, frame_checks-append, frame_in-append)

pub frame_fails : (before : Option Section) (section : Option Order) (text front : List ℕ) (fault : Fault) → order_before before ≡ section
    → 12 ≤ length text → front ≡ take 12 text
    → Err fault ≡ checked (frame_fault section front) (frame_in section front) → unit_fault before text ≡ Some fault
frame_fails before section text front fault is enough same exact =
    let joined : take 12 text ++ drop 12 text ≡ text = take-append-drop 12 text in
    let fails : frame_fault section front ≡ Some fault = checked_err (frame_fault section front) (frame_in section front) fault (sym exact) in
    let upper_bound : length (take 12 text) ≡ 12 = length-take-le 12 text enough in
    unit_fault-frame before text fault enough
    (grind (arith, frame_checks-append))

pub block_cut : (before : Option Section) (text : List ℕ) (frame : Frame) → 12 ≤ length text → FrontSays (order_before before) text frame
    → length text < frame.length → unit_fault before text ≡ Some Truncated
block_cut before text frame enough f short = grind (arith, block_size, unit_fault-short)

-- ---- a block

front_at : (file : FileState) (interfaces : List Described) (text : List ℕ) → BeginsAt file text → 0 < length text
    → front_of (declared_by file interfaces) text
    ≡ block_unless (unit_fault (section_before file interfaces) text) (known_first_link file) (section_before file interfaces) text
front_at state.Unknown interfaces text begins some = front_of-pcapng text begins
front_at (state.Pcap head) interfaces text begins some = absurd begins
front_at (state.Pcapng order first) interfaces text begins some = grind (arith, front_of-following)

-- a block that fails a check
pub block-none : (file : FileState) (interfaces : List Described) (text : List ℕ) (fault : Fault) → BeginsAt file text → 0 < length text
    → unit_fault (section_before file interfaces) text ≡ Some fault → front_of (declared_by file interfaces) text ≡ NoUnit (Some fault)
block-none file interfaces text fault begins some fails = grind (arith, front_at, front_of_block-none)

interfaces-at : (file : FileState) (interfaces : List Described) (text : List ℕ) → BeginsAt file text → (file ≡ state.Unknown → interfaces ≡ [])
    → interfaces_before (section_before file interfaces) ≡ interfaces
interfaces-at file interfaces text begins bare = grind arith

-- the whole block at the start of the bytes
whole : (section : Option Order) (text front : List ℕ) (frame : Frame) → 12 ≤ length text → front ≡ take 12 text
    → Ok frame ≡ checked (frame_fault section front) (frame_in section front) → 12 ≤ frame.length → frame.length ≤ length text
    → WholeCame section text text frame (drop frame.length text)
whole section text front frame enough same is least there =
    let size : length (take frame.length text) ≡ frame.length = length-take-le frame.length text there in
    let f = framed section (take frame.length text) front frame (omega arith) (same ∙ sym (take-take 12 frame.length text least)) is in
    grind (arith, take-append-drop)

pub block-refused : (file : FileState) (interfaces : List Described) (text front : List ℕ) (frame : Frame) (fault : Fault) → BeginsAt file text
    → (file ≡ state.Unknown → interfaces ≡ []) → 12 ≤ length text → front ≡ take 12 text
    → Ok frame ≡ checked (frame_fault (known_order file) front) (frame_in (known_order file) front) → 12 ≤ frame.length → frame.length ≤ length text
    → IsBlockFault frame interfaces (take frame.length text) fault → front_of (declared_by file interfaces) text ≡ NoUnit (Some fault)
block-refused file interfaces text front frame fault begins bare enough same is least there fails =
    block-none file interfaces text fault begins (omega (arith, enough))
    (block_refused (section_before file interfaces) (known_order file) interfaces text (drop frame.length text) (take frame.length text) text frame fault
    (order-held file interfaces) (interfaces-at file interfaces text begins bare) least there
    (whole (known_order file) text front frame enough same is least there) refl fails)

-- its parts are those of the bytes that begin with it
parts_taken : (before : Option Section) (text : List ℕ) (frame : Frame) → 12 ≤ frame.length → frame.length ≤ length text
    → FrontSays (order_before before) text frame → parts_after before text ≡ parts_in frame (take frame.length text)
parts_taken before text frame least room f =
    let size : length (take frame.length text) ≡ frame.length = length-take-le frame.length text room in
    ap (λ (g : Frame). parts_in g text) f.says ∙ ap (parts_in frame) (sym (take-append-drop frame.length text))
    ∙ parts_in-append frame (take frame.length text) (drop frame.length text) least (omega (arith, size))

packets-at : (file : FileState) (interfaces : List Described) (text rest : List ℕ) (order : Order) (size : ℕ) (link : Option ℕ) (effect : BlockEffect)
    → BeginsAt file text
    → BlockCame (section_before file interfaces) text text order size (packet_in_effect effect) (interfaces_after effect interfaces) rest
    → FitsIfAny (packet_in_effect effect) size → LiesAsSaid (parts_after (section_before file interfaces) text) effect
    → HoldsPackets (PcapngFile link (section_of order (interfaces_after effect interfaces))) text size effect
    (packets_in (section_before file interfaces) (take size text))
packets-at state.Unknown interfaces text rest order size link (does.Packet spans) begins b fits lies = grind (arith, first-packets)
packets-at (state.Pcap head) interfaces text rest order size link (does.Packet spans) begins b fits lies = absurd begins
packets-at (state.Pcapng own first) interfaces text rest order size link (does.Packet spans) begins b fits lies = search (arith, section-kept, whole)
packets-at file interfaces text rest order size link does.Section begins b fits lies = b.packet
packets-at file interfaces text rest order size link (does.Interface i) begins b fits lies = b.packet
packets-at file interfaces text rest order size link does.Nothing begins b fits lies = b.packet

fits-after : (frame : Frame) (interfaces : List Described) (block : List ℕ) (effect : BlockEffect) → HasEffect frame interfaces block effect
    → length interfaces ≤ most_interfaces → length (interfaces_after effect interfaces) ≤ most_interfaces
fits-after frame interfaces block effect has few = grind (arith, parts_in, length-append)

pub block-begins : (file : FileState) (interfaces : List Described) (text front : List ℕ) (frame : Frame) (effect : BlockEffect) (link : Option ℕ)
    → BeginsAt file text → (file ≡ state.Unknown → interfaces ≡ []) → 12 ≤ length text → front ≡ take 12 text
    → Ok frame ≡ checked (frame_fault (known_order file) front) (frame_in (known_order file) front) → 12 ≤ frame.length → frame.length ≤ length text
    → frame.length ≤ most_in_unit → HasEffect frame interfaces (take frame.length text) effect → LiesAsSaid (parts_in frame (take frame.length text)) effect
    → link ≡ first_link_after (known_first_link file) (section_of frame.order (interfaces_after effect interfaces))
    → BeginsWithUnit file interfaces text (record { size = frame.length; file = state.Pcapng frame.order link; effect = effect })
block-begins file interfaces text front frame effect link begins bare enough same is least there small has lies link_is =
    let before : Option Section = section_before file interfaces in
    let first : Option ℕ = known_first_link file in
    let size : ℕ = frame.length in
    let block : List ℕ = take size text in
    let known = interfaces-at file interfaces text begins bare in
    let b = block_came before (known_order file) interfaces (interfaces_after effect interfaces) text (drop size text) block text frame
    (packet_in_effect effect) (order-held file interfaces) known least there (whole (known_order file) text front frame enough same is least there) refl
    has in
    let F : Option Order → Type 0 = λ o. FrontSays o text frame in
    let f = subst F (sym (order-held file interfaces)) (framed (known_order file) text front frame enough same is) in
    let L : Parts → Type 0 = λ parts. LiesAsSaid parts effect in
    record {
      packets = packets_in before block;
      front = front_at file interfaces text begins (omega (arith, enough))
          ∙ ap (λ t. block_unless (unit_fault before t) first before t) (sym (take-append-drop size text))
          ∙ block-front first before block (drop size text) b.is_block
          ∙ ap (λ n. Whole n (packets_in before block) (file_after first before block)) (length-take-le size text there)
          ∙ ap (λ (s : Section). Whole size (packets_in before block) (PcapngFile (first_link_after first s) s)) b.section
          ∙ ap (λ l. Whole size (packets_in before block) (PcapngFile l (section_of frame.order (interfaces_after effect interfaces)))) (sym link_is);
      has = grind (arith, packets-at, parts_taken);
      there = there;
      some = omega arith;
      small = small;
      adds = tt;
      fits = fits-after frame interfaces block effect has;
    }

-- ---- a unit with a packet

-- its interface is declared
pub has-interface : (declared : Declared) (spans : PacketSpans) (block : List ℕ) (packet : Captured) → packet_in_unit declared spans block ≡ Some packet
    → HasInterface declared spans
has-interface declared spans block packet is = grind arith

-- what is declared before it stays
abbrev IsExact : Declared → Type 0
IsExact (PcapngFile first section) = first_link_after first section ≡ first
IsExact declared = Unit {0}

exact : (file : FileState) (interfaces : List Described) → IsConsistent file interfaces → IsExact (declared_by file interfaces)
exact file interfaces consistent = grind arith

kept : {b : Declared} {u : List ℕ} {qs : List Captured} {c : Declared} (packet : Captured) → IsUnit b u qs c → qs ≡ packet ∷ [] → IsExact b → c ≡ b
kept packet h one fixed = grind (arith, first-packets, section-kept)

-- the place of its packet
pub packet-first : (file after : FileState) (interfaces : List Described) (bytes : List ℕ) (size : ℕ) (spans : PacketSpans)
    → IsConsistent file interfaces → BeginsWithUnit file interfaces bytes (record { size = size; file = after; effect = does.Packet spans })
    → BeginsWithPacket (declared_by file interfaces) bytes spans
packet-first file after interfaces bytes size spans consistent b =
    let declared : Declared = declared_by file interfaces in
    let p = b.has in
    let is = front_of-is declared bytes size b.packets (declared_by after interfaces) b.front in
    let stays : declared_by after interfaces ≡ declared = kept p.packet is.unit p.only (exact file interfaces consistent) in
    grind (arith, has-interface, take-append-drop)

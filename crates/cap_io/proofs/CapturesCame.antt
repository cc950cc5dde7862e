-- The effect of reading the units of a capture of any format.
use Rattle.cap_io.proofs.BlocksCame.{BlockCame, BlockMissing, Describes}
use Rattle.cap_io.proofs.Came.{Taken-following, most_taken-file}
use Rattle.std.proofs.Common.{◌≡◌, ℕ, ◌+◌, ◌<◌, ◌≤◌, ◌^◌, IsTrue, Result, Ok, Err, inl, inr, true, List, [], ◌∷◌, ◌++◌, length, take, Option, rules, Some, None}
use Rattle.std.proofs.Common.{is_some, refl, sym, ap, ◌∙◌, subst, unwrap_or}
use Rattle.cap_io.proofs.Common.{arith, option_to_list, length-append, length-take-le, Captured, Fault, Truncated, Order, Head, is_section, Described, Frame}
use Rattle.cap_io.proofs.Common.{PacketSpans, FileState, Declared, PcapngFile, NoMemory, PacketCame, Ghosts, NextUnit, UnitReader}
use Rattle.cap_pcapng.specs.Unit.{IsBlock, Section, interfaces_before, order_before, packet_by, packets_in, parts_after, section_after, section_by, unit_fault}
use Rattle.cap_pcapng.proofs.Units.{passes, unit_fault-few}
use Rattle.cap_pcapng.specs.Effect.{Enters, KnowsIfAny, held_packet, section_of, span_bytes}
use Rattle.cap_io.specs.Capture.{Nothing, PcapFile, Front, IsUnit, a_pcap_header, a_first_block, a_block, file_after, first_link_after, front_of, is_pcapng}
use Rattle.cap_io.specs.Reading.{TakesMemory, declared_by, most_in_unit, read_failures, most_taken, packet_in_unit, decisive_length, block_length}
use Rattle.cap_io.specs.inside.Reading.{BeginsBlock, FrontMissing, HasInterface, HeaderCame, IsConsistent, ReadsUnit, NoUnitCame, RestMissing, UnitPassed}
use Rattle.cap_io.specs.inside.Reading.{known_first_link, known_order, section_before, unit_size, Moves}
use Rattle.cap_io.proofs.Fronts.{block_unless, front_of-following, front_of-pcapng, front_of_block-none, is_pcapng-append, most_taken-block}
use Rattle.cap_io.proofs.Fronts.{decisive_length-pcapng, decisive_block_length, decisive_block_length-few}
use Rattle.cap_pcapng.specs.{Frame.frame_in, Frame.order_in, Block.Parts, Block.SectionParts, Interface.FitSection}
use Rattle.cap_io.specs.declared.file_state.FileState.TheVariants as state

-- ---- no block

-- before a block, the faults of the block are those of the capture
missing-refuses : (declared : Declared) (first : Option ℕ) (before : Option Section) (text unread' : List ℕ) (fault : Fault)
    → front_of declared text ≡ block_unless (unit_fault before text) first before text → decisive_length declared text ≡ decisive_block_length before text
    → BlockMissing before text unread' fault → NoUnitCame declared text unread' fault
missing-refuses declared first before text unread' fault is reads m =
    let P : Front → Type 0 = λ f. m.count ≤ most_taken f in
    record {
      why = grind (arith, front_of_block-none);
      taken = record {
        count = m.count;
        within = subst P (sym is) (most_taken-block first before text m.count m.within m.upper_bound);
        unfinished = λ failed. rw reads (m.unfinished failed);
        there = m.there;
        rest = m.rest;
      };
    }

-- these bytes are a block's, if they begin a unit of the file
record StandsAt (declared : Declared) (first : Option ℕ) (before : Option Section) (text : List ℕ) : Type 0 where
  front : front_of declared text ≡ block_unless (unit_fault before text) first before text
  reads : decisive_length declared text ≡ decisive_block_length before text

stands_at : (file : FileState) (interfaces : List Described) (front more : List ℕ) → 12 ≤ length front → BeginsBlock file front
    → StandsAt (declared_by file interfaces) (known_first_link file) (section_before file interfaces) (front ++ more)
stands_at state.Unknown interfaces front more enough begins = grind (arith, is_pcapng-append, front_of-pcapng, decisive_length-pcapng)
stands_at (state.Pcap head) interfaces front more enough begins = absurd begins
stands_at (state.Pcapng order first) interfaces front more enough begins = grind (arith, front_of-following, length-append)

pub refused-block : (file : FileState) (interfaces : List Described) (front unread unread' : List ℕ) (fault : Fault) → length front ≡ 12
    → BeginsBlock file front
    → BlockMissing (section_before file interfaces) (front ++ unread) unread' fault → NoUnitCame (declared_by file interfaces) (front ++ unread) unread' fault
refused-block file interfaces front unread unread' fault upper_bound begins m =
    let stands = stands_at file interfaces front unread (omega arith) begins in
    missing-refuses (declared_by file interfaces) (known_first_link file) (section_before file interfaces) (front ++ unread) unread' fault
    stands.front stands.reads m

-- a section header has no packet
section-parts : (before : Option Section) (block : List ℕ) → is_section block ≡ true → parts_after before block ≡ SectionParts
section-parts before block is = search rules

-- a block needs memory if it is longer than the buffer, or describes an interface
pub block-takes : (file : FileState) (interfaces : List Described) (front unread : List ℕ) (room : ℕ) → 12 ≤ length front → BeginsBlock file front
    → room < unwrap_or (block_length (section_before file interfaces) (front ++ unread)) 0 → TakesMemory room (declared_by file interfaces) (front ++ unread)
block-takes file interfaces front unread room enough begins less = grind (arith, is_pcapng-append)

pub interface-takes : (file : FileState) (interfaces : List Described) (front unread : List ℕ) (room : ℕ) → 12 ≤ length front → BeginsBlock file front
    → Describes (section_before file interfaces) (front ++ unread) → TakesMemory room (declared_by file interfaces) (front ++ unread)
interface-takes file interfaces front unread room enough begins d = grind arith

-- the front of the first block didn't come
pub rest_of_front : (first unread unread' : List ℕ) (fault : Fault) (size : ℕ) → size ≡ 12 → length first ≡ 4 → is_section first ≡ true
    → RestMissing (length first) size unread unread' fault
    → NoUnitCame Nothing (first ++ unread) unread' fault
rest_of_front first unread unread' fault size twelve four is missing =
    let kind : is_pcapng (first ++ unread) ≡ true = is_pcapng-append first unread (omega arith) ∙ is in
    let long : length (first ++ unread) ≡ length first + length unread = length-append first unread in
    record {
      why = elim missing.why [
        | inl short ↦ inl (rw short.0 (front_of-pcapng (first ++ unread) kind
            ∙ front_of_block-none None None (first ++ unread) Truncated (unit_fault-few None (first ++ unread) (omega (arith, short.1)))))
        | inr failed ↦ inr (inl failed)
      ];
      taken = Taken-following Nothing (first ++ unread) unread unread' first fault missing.count refl missing.there missing.rest
          (grind (arith, most_taken-file))
          (λ failed. rw (decisive_length-pcapng (first ++ unread) kind)
          (grind (arith, decisive_block_length-few)));
    }

front-taken : (link : Option ℕ) (section : Section) (text : List ℕ) (count : ℕ) → count ≤ 12 → count ≤ most_taken (front_of (PcapngFile link section) text)
front-taken link section [] count upper_bound = omega arith
front-taken link section (b ∷ bytes) count upper_bound = search (rules, most_taken-block)

-- the front of a later block didn't come
block_front : (link : Option ℕ) (section : Section) (unread unread' : List ℕ) (fault : Fault) → FrontMissing 12 unread unread' fault
    → NoUnitCame (PcapngFile link section) unread unread' fault
block_front link section unread unread' fault m =
    elim m.some [
      | inl some ↦ missing-refuses (PcapngFile link section) link (Some section) unread unread' fault (front_of-following link section unread some)
          refl (record {
            why = grind (arith, unit_fault-few);
            count = m.missing.count;
            within = λ none. omega (arith, m.missing.within, (passes (Some section) unread none).least);
            upper_bound = omega (arith, m.missing.within);
            unfinished = grind (arith, decisive_block_length-few);
            there = m.missing.there;
            rest = m.missing.rest;
          })
      | inr failed ↦ record {
        why = inr (inl failed);
        taken = record {
          count = m.missing.count;
          within = front-taken link section unread m.missing.count (omega (arith, m.missing.within));
          unfinished = grind (arith, decisive_block_length-few);
          there = m.missing.there;
          rest = m.missing.rest;
        };
      }
    ]

-- ---- what a block declares

pub first-packets : (block : List ℕ) → IsBlock None block → packets_in None block ≡ []
first-packets block is = search rules

-- a block with a packet doesn't change its section
kept_by : (section : Section) (order : Order) (parts : Parts) (packet : Captured) → order ≡ section.order
    → option_to_list (packet_by section.interfaces parts) ≡ packet ∷ []
    → section_by (Some section) order parts ≡ section
kept_by section order parts packet same is = grind arith

pub section-kept : (section : Section) (block : List ℕ) (packet : Captured) → packets_in (Some section) block ≡ packet ∷ []
    → section_after (Some section) block ≡ section
section-kept section block packet is = grind (arith, section-parts, kept_by, order_in)

-- what is first stays first
pub first-again : (link : Option ℕ) (section : Section) → first_link_after (first_link_after link section) section ≡ first_link_after link section
first-again link section = grind arith

-- ---- a block as a unit

pub header_passed : (unread unread' : List ℕ) (head : Head) → HeaderCame unread head unread' → UnitPassed Nothing unread 24 (PcapFile head) unread'
header_passed unread unread' head came = record {
  bytes = came.bytes;
  unit = a_pcap_header came.bytes head came.header;
  sized = came.header.whole;
  splits = came.splits;
}

-- the same units after equal bytes
pub UnitPassed-following : (unread unread1 unread' first : List ℕ) (size : ℕ) (declared : Declared) → unread ≡ first ++ unread1
    → UnitPassed Nothing (first ++ unread1) size declared unread' → UnitPassed Nothing unread size declared unread'
UnitPassed-following unread unread1 unread' first size declared splits came = grind arith

-- a packet whose unit has a given number of bytes
packet_at_size : (link : Option ℕ) (section : Section) (unread buffer : List ℕ) (spans : PacketSpans) (packet : Captured) (declared' : Declared)
    (size : ℕ) (unread' : List ℕ) → spans.size ≡ size
    → packet_in_unit (PcapngFile link section) spans (take size buffer) ≡ Some packet
    → IsUnit (PcapngFile link section) (take size buffer) (packet ∷ []) (PcapngFile link section)
    → declared' ≡ PcapngFile link section
    → unread ≡ take size buffer ++ unread'
    → PacketCame (PcapngFile link section) unread buffer spans declared' unread'
packet_at_size link section unread buffer spans packet declared' size unread' whole lent unit same splits = search rules

-- what is known of a file after a block without a packet
pub passed-block : (file : FileState) (interfaces interfaces' : List Described) (front unread buffer unread' : List ℕ) (order : Order) (size : ℕ)
    → BeginsBlock file front → size ≤ length buffer
    → BlockCame (section_before file interfaces) (front ++ unread) buffer order size None interfaces' unread'
    → UnitPassed (declared_by file interfaces) (front ++ unread) size
    (PcapngFile (first_link_after (known_first_link file) (section_of order interfaces')) (section_of order interfaces')) unread'
passed-block state.Unknown interfaces interfaces' front unread buffer unread' order size begins there came =
    let block : List ℕ = take size buffer in
    let Q : List Captured → Type 0 = λ qs. IsUnit Nothing block qs (file_after None None block) in
    let R : Section → Type 0 = λ s. IsUnit Nothing block [] (PcapngFile (first_link_after None s) s) in
    record {
      bytes = block;
      unit = subst R came.section (subst Q came.packet (a_first_block block came.is_block));
      sized = length-take-le size buffer there;
      splits = came.splits;
    }
passed-block (state.Pcap head) interfaces interfaces' front unread buffer unread' order size begins there came = absurd begins
passed-block (state.Pcapng own link) interfaces interfaces' front unread buffer unread' order size begins there came =
    let section = section_of own interfaces in
    let block : List ℕ = take size buffer in
    let Q : List Captured → Type 0 = λ qs. IsUnit (PcapngFile link section) block qs (file_after link (Some section) block) in
    let R : Section → Type 0 = λ s. IsUnit (PcapngFile link section) block [] (PcapngFile (first_link_after link s) s) in
    record {
      bytes = block;
      unit = subst R came.section (subst Q came.packet (a_block link section block came.is_block));
      sized = length-take-le size buffer there;
      splits = came.splits;
    }

-- after a block with a packet the same is known
pub packet-block : (file : FileState) (interfaces interfaces' : List Described) (front unread buffer unread' : List ℕ) (order : Order) (size : ℕ)
    (spans : PacketSpans) → BeginsBlock file front → size ≤ length buffer
    → IsConsistent file interfaces → spans.size ≡ size → interfaces' ≡ interfaces
    → BlockCame (section_before file interfaces) (front ++ unread) buffer order size (Some spans) interfaces' unread'
    → PacketCame (declared_by file interfaces) (front ++ unread) buffer spans (declared_by file interfaces') unread'
packet-block state.Unknown interfaces interfaces' front unread buffer unread' order size spans begins there exact whole stays came =
    grind (arith, first-packets)
packet-block (state.Pcap head) interfaces interfaces' front unread buffer unread' order size spans begins there exact whole stays came = absurd begins
packet-block (state.Pcapng own link) interfaces interfaces' front unread buffer unread' order size spans begins there exact whole stays came =
    let section = section_of own interfaces in
    let block : List ℕ = take size buffer in
    let p = came.packet in
    let same : section_after (Some section) block ≡ section = section-kept section block p.packet p.stands in
    let kept : section_of order interfaces' ≡ section = sym came.section ∙ same in
    let declared : (s : Section) → s ≡ section → PcapngFile (first_link_after link s) s ≡ PcapngFile link section =
    λ s e. ap (λ (t : Section). PcapngFile (first_link_after link t) t) e ∙ ap (λ l. PcapngFile l section) exact.0 in
    let Q : List Captured → Type 0 = λ qs. IsUnit (PcapngFile link section) block qs (file_after link (Some section) block) in
    let R : Declared → Type 0 = λ d. IsUnit (PcapngFile link section) block (p.packet ∷ []) d in
    packet_at_size link section (front ++ unread) buffer spans p.packet (declared_by (state.Pcapng own link) interfaces') size unread' whole
    (ap (λ (s : Section). held_packet s.order section.interfaces spans (span_bytes spans.bytes block) (span_bytes spans.options block)) (sym kept) ∙ p.is_lent)
    (subst R (declared (section_after (Some section) block) same) (subst Q p.stands (a_block link section block came.is_block)))
    (ap (λ i. PcapngFile link (section_of own i)) stays) came.splits

-- ---- what is true for every device

-- a block with a packet doesn't change the interfaces
pub interfaces-kept : (frame : Frame) (interfaces interfaces' : List Described) (block : List ℕ) (spans : PacketSpans) → Enters frame interfaces block
    (Some spans) interfaces' → interfaces' ≡ interfaces
interfaces-kept frame interfaces interfaces' block spans enters = search rules

-- a section header has none
pub has-section : (file : FileState) (front block : List ℕ) (frame : Frame) (interfaces interfaces' : List Described) (spans : PacketSpans)
    → BeginsBlock file front
    → frame_in (known_order file) front ≡ frame → Enters frame interfaces block (Some spans) interfaces' → KnowsIfAny interfaces' (Some spans)
    → HasInterface (declared_by file interfaces') spans
has-section file front block frame interfaces interfaces' spans begins is enters knows = grind arith

none-fit : FitSection []
none-fit = grind arith

-- the interfaces of a section that a block follows are no more than may be
pub section-fits : (file : FileState) (interfaces : List Described) (front : List ℕ) → BeginsBlock file front → IsConsistent file interfaces
    → FitSection interfaces
section-fits file interfaces front begins none = grind (arith, none-fit)

-- the bytes that a device gave stay few after a block, though it be no longer than its front
pub small-following : (before following front size : ℕ) → front ≡ 12 → following + front ≡ before + size → 12 ≤ size
    → (front < size → following < 2 ^ 63) → before < 2 ^ 63 → following < 2 ^ 63
small-following before following front size twelve counted least longer small = grind arith

pub order-held : (file : FileState) (interfaces : List Described) → order_before (section_before file interfaces) ≡ known_order file
order-held file interfaces = grind arith

pub interfaces-held : (file : FileState) (interfaces : List Described) (front : List ℕ) → BeginsBlock file front → IsConsistent file interfaces
    → interfaces_before (section_before file interfaces) ≡ interfaces
interfaces-held file interfaces front begins exact = grind arith

-- ---- a block of a file that has begun

pub begun-front : (file : FileState) (interfaces : List Described) (unread unread' : List ℕ) (fault : Fault) → IsTrue (is_some (known_order file))
    → FrontMissing 12 unread unread' fault
    → NoUnitCame (declared_by file interfaces) unread unread' fault
begun-front (state.Pcapng order first) interfaces unread unread' fault begun m = block_front first (section_of order interfaces) unread unread' fault m
begun-front _ interfaces unread unread' fault begun m = absurd (cc)

pub no-error : {X E : Type 0} {x : X} {e : E} → Ok x ≡ Err e → ⊥
no-error e = (cc)

-- a call that failed while it read a unit changed its device's counts as one read of the unit does
pub moves-failed : {I X Y : Type 0} {device : Ghosts I} {old new : I} {front most most' : ℕ} {count : X → ℕ} {count' : Y → ℕ} (fault : Fault)
    → Moves device old new front count most (Err fault) → most ≤ most'
    → Moves device old new front count' most' (Err fault)
moves-failed {X = X} {Y = Y} {device = device} {old = old} fault moves less = search rules

-- two reads of one unit, the first of which succeeded, changed the device's counts as one read does
pub moves-then : {I X Y : Type 0} {device : Ghosts I} {old mid new : I} {front least most : ℕ} {first : Y → ℕ} {count : X → ℕ} (y : Y)
    (r : Result X Fault) → first y ≡ front → Moves device old mid 0 first least (Ok y)
    → Moves device mid new front count most r → Moves device old new 0 count most r
moves-then {front = front} {count = count} y (Ok x) is one two = search rules
moves-then y (Err fault) is one two = search rules

-- after a successful read no unit was found
pub moves-ended : {I X Y : Type 0} {device : Ghosts I} {old mid : I} {least most : ℕ} {first : Y → ℕ} {count : X → ℕ} (y : Y) (fault : Fault)
    → read_failures {X = X} (Err fault) ≡ 0 → first y ≤ most → Moves device old mid 0 first least (Ok y)
    → Moves device old mid 0 count most (Err fault)
moves-ended y fault none less one = search rules

-- no unit was read
pub reads-no_unit : {I A : Type 0} (device : Ghosts I) (old : UnitReader I A) (front : List ℕ) (fault : Fault) (new : UnitReader I A)
    → Moves device old.input new.input (length front) (unit_size new.spans) most_in_unit (Err fault)
    → (IsTrue device.tells → NoUnitCame (declared_by old.file old.table) (front ++ device.unread old.input) (device.unread new.input) fault)
    → (new.file ≡ old.file) × (new.table ≡ old.table) → length old.buffer.items ≤ length new.buffer.items
    → (length old.buffer.items ≤ most_in_unit → length new.buffer.items ≤ most_in_unit)
    → (fault ≡ NoMemory → IsTrue device.tells → TakesMemory (length new.buffer.items) (declared_by old.file old.table)
    (front ++ device.unread old.input)) → ReadsUnit device old front (Err fault) new
reads-no_unit device old front fault new moves err kept grown bounded memory = search rules

-- what reading after the first bytes of a unit did is what reading it all did
pub ReadsUnit-following : {I A : Type 0} (device : Ghosts I) (old : UnitReader I A) (mid : I) (front : List ℕ) (r : Result NextUnit Fault)
    (new : UnitReader I A)
    → device.given mid ≡ device.given old.input + length front → device.failures mid ≡ device.failures old.input → device.sure mid ≡ device.sure old.input
    → (IsTrue device.tells → device.given mid + length (device.unread mid) ≡ device.given old.input + length (device.unread old.input))
    → (0 < length front → device.given mid < 2 ^ 63)
    → (IsTrue device.tells → device.unread old.input ≡ front ++ device.unread mid)
    → ReadsUnit device (record { input = mid; file = old.file; buffer = old.buffer; table = old.table; spans = old.spans }) front r new
    → ReadsUnit device old [] r new
ReadsUnit-following device old mid front (Ok c) new given failed sure told small splits reads = grind arith
ReadsUnit-following device old mid front (Err fault) new given failed sure told small splits reads = search rules

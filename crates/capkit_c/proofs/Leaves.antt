-- The effect of reading the unit at a reader's offset.
use Rattle.capkit_c.proofs.Common.{◌≡◌, ℕ, ◌+◌, ◌-◌, ◌<◌, ◌≤◌, List, [], length, take, drop, Option, Some, None, refl, sym, ap, ◌∙◌, subst, arith}
use Rattle.capkit_c.proofs.Common.{min, option_map, drop-drop, drop-take, take-take, length-drop, length-take-le, Captured, Fault, Declared}
use Rattle.capkit_c.proofs.Common.{NoUnit, Whole, first_link_of, front_of, declared_by, declared_in, first_interfaces}
use Rattle.capkit_c.proofs.Common.{reader_form, most_known, packet_of, IsPastUnit, IsPacketFound, NextLeaves, Stays, DeclaresOne, comment_by}
use Rattle.capkit_c.proofs.Common.{ends, fails, finds, is_full, passes, Counts, IsAtEnd, IsPacketAt, BeginsWithUnit, HoldsPacket, HoldsPackets, FileState}
use Rattle.capkit_c.proofs.Common.{Interface, Packet, Reader, Described, HasLink}
use Rattle.capkit_c.specs.Units.{name_by}
use Rattle.capkit_c.specs.declared.memory.reader.Found.{Found}
use Rattle.capkit_c.specs.inside.Units.{FindsNoRoom, IsBare, IsFull}
use Rattle.cap_io.proofs.FirstUnits.{has-interface}
use Rattle.cap_io.specs.{Reading.packet_in_unit, FirstUnit.IsEffectIn, inside.Reading.HasInterface}
use Rattle.cap_io.specs.declared.first_unit.FoundUnit.{FoundUnit}
use Rattle.cap_pcapng.specs.{Effect.interfaces_after, Effect.span_bytes}
use Rattle.cap_pcapng.specs.declared.effect.{BlockEffect.BlockEffect, PacketSpans.PacketSpans}
use Rattle.std.proofs.lemmas.List.{length-map}
use Rattle.cap_io.specs.declared.file_state.FileState.TheVariants as form
use Rattle.cap_pcapng.specs.declared.effect.BlockEffect.TheVariants as does

-- ---- what is declared

min_left : (a b : ℕ) → a ≤ b → min a b ≡ a
min_left a b upper_bound = grind arith

pub declared_as : (f : FileState) (r : Reader) (table : List Interface) (count : ℕ) → f ≡ reader_form r → Counts f r (length table) count
    → declared_by f (first_interfaces count table) ≡ declared_in r table
declared_as f r table count h1 h2 = grind arith

most_is : (r : Reader) (table : List Interface) (count : ℕ) → r.interfaces ≡ count → count ≤ length table → count ≤ 256 → most_known r (length table) ≡ count
most_is r table count counts fits upper_bound = grind (arith, min_left)

pub declared_after : (f : FileState) (r : Reader) (table : List Interface) (count : ℕ) → reader_form r ≡ f → r.interfaces ≡ count
    → count ≤ length table → count ≤ 256
    → declared_by f (first_interfaces count table) ≡ declared_in r table
declared_after f r table count is counts fits upper_bound = grind (arith, most_is)

-- a table without room for more has as many interfaces as are known
pub all_known : (f : FileState) (r : Reader) (room count : ℕ) → f ≡ reader_form r → Counts f r room count → IsBare f count → IsFull (reader_form r) r room
    → count ≡ room
all_known f r room count is counts bare full = grind arith

-- ---- a unit

-- what was read, in terms of the reader
record Read (capture : List ℕ) (r r' : Reader) (t t' : List Interface) (u : FoundUnit) : Type 0 where
  packets : List Captured
  front : front_of (declared_in r t) (drop r.offset capture) ≡ Whole u.size packets (declared_in r' t')
  has : HoldsPackets (declared_in r' t') (drop r.offset capture) u.size u.effect packets
  there : u.size ≤ length (drop r.offset capture)

-- a file's first link type is known without its interfaces
first_known : (f : FileState) (interfaces : List Described) → first_link_of (declared_by f []) ≡ first_link_of (declared_by f interfaces)
first_known f interfaces = grind arith

pub is_after : (capture : List ℕ) (size : ℕ) (r r' : Reader) (t' : List Interface) (f : FileState) (count : ℕ) → r'.offset ≡ r.offset + size
    → size ≤ length (drop r.offset capture) → 0 < size → reader_form r' ≡ f
    → HasLink (first_link_of (declared_by f [])) r' → r'.interfaces ≡ count → count ≤ length t' → count ≤ 256 → IsPastUnit capture size r r' t'
is_after capture size r r' t' f count offset there some form' link counts fits upper_bound = grind (arith, first_known, most_is)

read : (capture text : List ℕ) (r r' : Reader) (t t' : List Interface) (f : FileState) (count after : ℕ) (u : FoundUnit) → f ≡ reader_form r
    → Counts f r (length t) count → text ≡ drop r.offset capture → BeginsWithUnit f (first_interfaces count t) text u
    → first_interfaces after t' ≡ interfaces_after u.effect (first_interfaces count t) → after ≤ length t' → after ≤ 256
    → reader_form r' ≡ u.file → r'.interfaces ≡ after → Read capture r r' t t' u
read capture text r r' t t' f count after u is counts same begins entered inside most form' interfaces' = grind (arith, declared_as, declared_after)

no_packets : (d : Declared) (text : List ℕ) (size : ℕ) (effect : BlockEffect) (packets : List Captured)
    → ((spans : PacketSpans) → effect ≡ does.Packet spans → ⊥) → HoldsPackets d text size effect packets → packets ≡ []
no_packets d text size effect packets h1 h2 = grind arith

-- no more interfaces are known than a section may have
few_after : (t t' : List Interface) (count after : ℕ) (effect : BlockEffect) → count ≤ length t → count ≤ 256 → after ≤ length t'
    → first_interfaces after t' ≡ interfaces_after effect (first_interfaces count t)
    → (length (first_interfaces count t) ≤ 256 → length (interfaces_after effect (first_interfaces count t)) ≤ 256) → after ≤ 256
few_after t t' count after effect fits few inside entered most = grind (arith, length-map, length-take-le)

pub passed : (capture text : List ℕ) (r r' : Reader) (t t' : List Interface) (p : Packet) (f : FileState) (count after : ℕ) (u : FoundUnit)
    → f ≡ reader_form r → Counts f r (length t) count → count ≤ length t → count ≤ 256
    → text ≡ drop r.offset capture → BeginsWithUnit f (first_interfaces count t) text u
    → first_interfaces after t' ≡ interfaces_after u.effect (first_interfaces count t) → after ≤ length t'
    → reader_form r' ≡ u.file → r'.interfaces ≡ after → r'.offset ≡ r.offset + u.size
    → ((spans : PacketSpans) → u.effect ≡ does.Packet spans → ⊥)
    → HasLink (first_link_of (declared_by u.file [])) r' → NextLeaves capture r r' t t' p p Found.Unit
passed capture text r r' t t' p f count after u is counts fits few same begins entered inside form' interfaces' offset other link =
    let most = few_after t t' count after u.effect fits few inside entered begins.fits in
    let b = read capture text r r' t t' f count after u is counts same begins entered inside most form' interfaces' in
    let empty : b.packets ≡ [] = no_packets (declared_in r' t') (drop r.offset capture) u.size u.effect b.packets other b.has in
    passes u.size (b.front ∙ ap (λ qs. Whole u.size qs (declared_in r' t')) empty) (is_after capture u.size r r' t' u.file after offset b.there
    begins.some form' link interfaces' inside most) refl

-- ---- a packet

-- bytes of a unit that begins a text are bytes of the text
part_within : (text : List ℕ) (size start count : ℕ) → start + count ≤ size → take count (drop start (take size text)) ≡ take count (drop start text)
part_within text size start count fits =
    let whole : size ≡ start + (size - start) = omega arith in
    ap (λ n. take count (drop start (take n text))) whole ∙ ap (take count) (drop-take start (size - start) text) ∙ take-take count (size - start)
    (drop start text) (omega (arith, fits))

-- a part of a unit, as a part of the capture
part_at : (capture : List ℕ) (at size start count place length : ℕ) → start + count ≤ size → place ≡ at + start → length ≡ count
    → take count (drop start (take size (drop at capture))) ≡ take length (drop place capture)
part_at capture at size start count place length fits place_is length_is = grind (arith, part_within, drop-drop)

-- the packet at some spans of a unit
record Held (declared : Declared) (spans : PacketSpans) (unit : List ℕ) (q : Captured) : Type 0 where
  name : name_by declared spans.interface ≡ Some q.name
  time : q.time ≡ spans.time
  orig : q.orig ≡ spans.orig
  bytes : q.bytes ≡ span_bytes spans.bytes unit
  comment : q.comment ≡ comment_by declared (span_bytes spans.options unit)

-- the interface of a packet
lent : (found : Option Described) (time orig : ℕ) (bytes comment : List ℕ) (q : Captured)
    → option_map (λ (i : Described). packet_of i time orig bytes comment) found ≡ Some q
    → (i : Described) × (found ≡ Some i) × (packet_of i time orig bytes comment ≡ q)
lent found time orig bytes comment q h1 = grind arith

held : (declared : Declared) (spans : PacketSpans) (unit : List ℕ) (q : Captured) → packet_in_unit declared spans unit ≡ Some q
    → Held declared spans unit q
held declared spans unit q h1 = grind (arith, lent)

found_at : (capture : List ℕ) (declared : Declared) (at size : ℕ) (spans : PacketSpans) (packets : List Captured) (p : Packet) → at ≤ length capture
    → size ≤ length (drop at capture) → (h : HoldsPacket declared (drop at capture) size spans packets) → IsPacketAt at declared spans p
    → IsPacketFound capture at declared p h.packet
found_at capture declared at size spans packets p inside there h a =
    let left : length (drop at capture) ≡ length capture - at = length-drop at capture in
    let q = held declared spans (take size (drop at capture)) h.packet h.is_lent in
    record {
      spans = spans;
      lies = h.lies;
      number = a.interface;
      data_at = a.at;
      data_length = a.captured;
      options_at = a.options_at;
      options_length = a.options_length;
      link = a.link (take size (drop at capture)) h.packet h.is_lent;
      snap = a.snap (take size (drop at capture)) h.packet h.is_lent;
      name = ap (name_by declared) a.interface ∙ q.name;
      time = q.time ∙ sym a.time;
      orig = q.orig ∙ sym a.original;
      bytes = q.bytes ∙ part_at capture at size spans.bytes.start spans.bytes.length p.at p.captured h.bytes a.at a.captured;
      within = omega (arith, h.bytes, there, left, inside, a.at, a.captured);
      comment = q.comment ∙ ap (comment_by declared)
          (part_at capture at size spans.options.start spans.options.length p.options_at p.options_length h.options a.options_at a.options_length);
      options = omega (arith, h.options, there, left, inside, a.options_at, a.options_length);
    }

pub found_packet : (capture text : List ℕ) (r r' : Reader) (t : List Interface) (p p' : Packet) (f file : FileState) (count size : ℕ)
    (spans : PacketSpans) → f ≡ reader_form r → Counts f r (length t) count → count ≤ length t → count ≤ 256
    → text ≡ drop r.offset capture
    → BeginsWithUnit f (first_interfaces count t) text (record { size = size; file = file; effect = does.Packet spans })
    → reader_form r' ≡ file → r'.interfaces ≡ count → r'.offset ≡ r.offset + size
    → IsPacketAt r.offset (declared_by file (first_interfaces count t)) spans p' → HasLink (first_link_of (declared_by file [])) r'
    → NextLeaves capture r r' t t p p' Found.Packet
found_packet capture text r r' t p p' f file count size spans is counts fits most same begins form' interfaces' offset packet link =
    let u : FoundUnit = record { size = size; file = file; effect = does.Packet spans } in
    let b = read capture text r r' t t f count count u is counts same begins refl fits most form' interfaces' in
    let h = b.has in
    let left : length (drop r.offset capture) ≡ length capture - r.offset = length-drop r.offset capture in
    let inside : r.offset ≤ length capture = omega (arith, b.there, left, begins.some) in
    let P : Declared → Type 0 = λ d. IsPacketAt r.offset d spans p' in
    finds size h.packet (b.front ∙ ap (λ qs. Whole size qs (declared_in r' t)) h.only)
    (is_after capture size r r' t file count offset b.there begins.some form' link interfaces' fits most)
    (found_at capture (declared_in r' t) r.offset size spans b.packets p' inside b.there h
    (subst P (declared_after file r' t count form' interfaces' fits most) packet))

-- a packet's interface is known
pub interface_known : (f : FileState) (interfaces : List Described) (text : List ℕ) (size : ℕ) (file : FileState) (spans : PacketSpans)
    → BeginsWithUnit f interfaces text (record { size = size; file = file; effect = does.Packet spans }) → HasInterface (declared_by file interfaces) spans
interface_known f interfaces text size file spans begins = grind (arith, has-interface)

-- ---- no unit

stays : (r : Reader) (t t' : List Interface) (p : Packet) → t' ≡ t → Stays r r t t' p p
stays r t t' p same = grind arith

pub ended : (capture text : List ℕ) (r : Reader) (t : List Interface) (p : Packet) (f : FileState) (count : ℕ) → f ≡ reader_form r
    → Counts f r (length t) count → text ≡ drop r.offset capture → IsAtEnd f text
    → NextLeaves capture r r t t p p Found.End
ended capture text r t p f count is counts same over =
    ends (ap (front_of (declared_in r t)) (sym same) ∙ ap (λ d. front_of d text) (sym (declared_as f r t count is counts)) ∙ stops f over) (stays r t t p refl)
  where
    stops : (g : FileState) → IsAtEnd g text → front_of (declared_by g (first_interfaces count t)) text ≡ NoUnit None
    stops form.Unknown over = absurd over
    stops (form.Pcap head) over = ap (front_of (declared_by (form.Pcap head) (first_interfaces count t))) over
    stops (form.Pcapng order link) over = ap (front_of (declared_by (form.Pcapng order link) (first_interfaces count t))) over

pub refused : (capture text : List ℕ) (r : Reader) (t : List Interface) (p : Packet) (f : FileState) (count : ℕ) (fault : Fault)
    → f ≡ reader_form r → Counts f r (length t) count → text ≡ drop r.offset capture
    → front_of (declared_by f (first_interfaces count t)) text ≡ NoUnit (Some fault) → NextLeaves capture r r t t p p (Found.Fault fault)
refused capture text r t p f count fault is counts same why =
    fails fault (ap (front_of (declared_in r t)) (sym same) ∙ ap (λ d. front_of d text) (sym (declared_as f r t count is counts)) ∙ why) (stays r t t p refl)

-- the interface that a unit adds
declares_one : (declared : Declared) (text : List ℕ) (interfaces : List Described) (count room size : ℕ) (packets : List Captured) (file : FileState)
    (effect : BlockEffect) → FindsNoRoom effect count room
    → IsEffectIn file effect → HoldsPackets (declared_by file (interfaces_after effect interfaces)) text size effect packets
    → front_of declared text ≡ Whole size packets (declared_by file (interfaces_after effect interfaces)) → DeclaresOne declared text interfaces
declares_one declared text interfaces count room size packets (form.Pcapng order first) (does.Interface i) full adds none front = grind arith
declares_one declared text interfaces count room size packets form.Unknown (does.Interface i) full adds none front = grind arith
declares_one declared text interfaces count room size packets (form.Pcap head) (does.Interface i) full adds none front = grind arith
declares_one declared text interfaces count room size packets file does.Section full adds none front = grind arith
declares_one declared text interfaces count room size packets file (does.Packet spans) full adds none front = grind arith
declares_one declared text interfaces count room size packets file does.Nothing full adds none front = grind arith

no_room : (effect : BlockEffect) (count room : ℕ) → FindsNoRoom effect count room → count ≡ room
no_room effect count room h1 = grind arith

pub full : (capture text : List ℕ) (r : Reader) (t t' : List Interface) (p : Packet) (f : FileState) (count : ℕ) (u : FoundUnit) → f ≡ reader_form r
    → Counts f r (length t) count → count ≤ length t → text ≡ drop r.offset capture → BeginsWithUnit f (first_interfaces count t) text u
    → FindsNoRoom u.effect count (length t) → t' ≡ t → NextLeaves capture r r t t' p p Found.NoRoom
full capture text r t t' p f count u is counts fits same begins none kept =
    let known : length (first_interfaces count t) ≡ count = length-map (take count t) _ ∙ length-take-le count t fits in
    let front : front_of (declared_in r t) text ≡ Whole u.size begins.packets (declared_by u.file (interfaces_after u.effect (first_interfaces count t))) =
    ap (λ d. front_of d text) (sym (declared_as f r t count is counts)) ∙ begins.front in
    let P : List ℕ → Type 0 = λ v. DeclaresOne (declared_in r t) v (first_interfaces count t) in
    is_full (first_interfaces count t) (sym (no_room u.effect count (length t) none) ∙ sym known)
    (subst P same (declares_one (declared_in r t) text (first_interfaces count t) count (length t) u.size begins.packets u.file u.effect none begins.adds
    begins.has front)) (stays r t t' p kept)

-- A block is entered into the table of interfaces, and its packet has the data of the definitions.
use Rattle.std.proofs.Common.{◌≡◌, ℕ, ◌+◌, ◌-◌, ◌^◌, ◌<◌, ◌≤◌, Bool, true, false, List, [], ◌∷◌, length, take, drop, Option, Some, None, Ok, refl, sym, ap, ap₂}
use Rattle.std.proofs.Common.{subst, ◌∙◌, arith, lit≤, leb-true, length-drop, inl, inr, if◌then◌else◌, nat_lt, is_some, unwrap_or}
use Rattle.std.proofs.lemmas.List.{drop-drop, drop-take, take-take, length-take-le, length-take, take_all}
use Rattle.cap_pcapng.proofs.Common.{first_failing, Fault, TimeOutOfRange, TooManyInterfaces, Order, all_met, met_front, comment_code, Described, first_value}
use Rattle.cap_pcapng.proofs.Common.{fitting_options, padded_length, Frame, Block, EnhancedBlock}
use Rattle.cap_pcapng.specs.Block.{Parts, InterfaceParts, EnhancedParts, SimpleParts, block_checks, block_fault, option_checks, body_checks, body_in}
use Rattle.cap_pcapng.specs.Block.{data_checks, parts_in, parts_in_body, parts_of, simple_captured}
use Rattle.cap_pcapng.specs.Unit.{checks_among, packet_by, packet_of, section_by}
use Rattle.cap_pcapng.specs.Effect.{Enters, IsBlockFault, held_packet, section_of}
use Rattle.cap_pcapng.specs.declared.{frames.BlockType.BlockType, blocks.SimpleBlock.SimpleBlock, effect.PacketSpans.PacketSpans}
use Rattle.cap_pcapng.proofs.{WholeBlocks.block_fails, WholeBlocks.block_passes, Faults.all_failing, Faults.all_of_options, OptionLists.options_in-none}
use Rattle.cap_pcapng.specs.{inside.Effect.PacketFound, inside.Effect.fault_among, Time.representable_time, Comment.comment_in, Interface.most_interfaces}
use Rattle.std.specs.{List.AllByRecursion, List.slice_get, Option.option_map, Option.ok_or}

-- ---- a packet's data

-- captured bytes are within the remainder of a body if they are with their padding
captured_fits : (captured : ℕ) (rest : List ℕ) → first_failing (data_checks captured rest) ≡ None → captured ≤ length rest
captured_fits captured rest none = grind (arith, leb-true, all_met)

pub known_interface : {X : Type 0} (found : Option X) (f : X → Described) (x : X) (i : Option Described) → found ≡ Some x → option_map f found ≡ i
    → i ≡ Some (f x)
known_interface found f x i is same = sym same ∙ ap (option_map f) is

pub found_by : {X E : Type 0} (exact : Option X) (e : E) (x : X) → ok_or exact e ≡ Ok x → exact ≡ Some x
found_by None e x is = (cc)
found_by (Some t) e x is = (cc)

-- options lie after the padded data
options_after : (padding optional : ℕ) (rest options : List ℕ) → padding ≤ length rest → options ≡ drop padding rest → optional ≡ length options
    → take optional (drop (28 + length rest - optional - 28) rest) ≡ options
options_after padding optional rest options there is count = grind (arith, length-drop, take_all)

-- what is found fails none of its checks
abbrev pub IsFound : List (Bool × Fault) → Type 0 → Type 0
IsFound checks Found = (first_failing checks ≡ None) × Found

pub enhanced_found : (order : Order) (interfaces : List Described) (i : Described) (number ticks captured orig time size optional : ℕ) (rest options : List ℕ)
    → slice_get interfaces number ≡ Some i → first_failing (data_checks captured rest) ≡ None
    → Ok time ≡ ok_or (representable_time ticks i.units i.offset) TimeOutOfRange → time < 2 ^ 63
    → options ≡ drop (padded_length captured) rest → optional ≡ length options
    → IsFound (checks_among interfaces (EnhancedParts number ticks captured orig order rest))
    (PacketFound order interfaces (EnhancedParts number ticks captured orig order rest) 28 size rest
    (record {
      size = size;
      bytes = record { start = 28; length = captured };
      options = record { start = 28 + length rest - optional; length = optional };
      interface = number;
      time = time;
      orig = orig;
    }))
enhanced_found order interfaces i number ticks captured orig time size optional rest options known upper_bound exact small following optional_is =
    let room = leb-true (padded_length _) _ (all_met (data_checks _ rest) upper_bound).0 in
    let lies_there = options_after (padded_length _) _ rest
    _ room following optional_is in
    let left = ap length following ∙ length-drop (padded_length _) rest in
    let fits = captured_fits _ rest upper_bound in
    let at = found_by (representable_time ticks _ i.offset) _ time (sym exact) in (
      rw (known, at) (met_front (data_checks _ rest) ((is_some (Some time), TimeOutOfRange) ∷ []) upper_bound),
      record {
        whole = refl;
        known = rw known refl;
        from = refl;
        packet = packet_of i time orig (take captured rest) (comment_in order (drop (padded_length captured) rest));
        stands = rw (known, at) refl;
        is_lent = rw (known, lies_there ∙ following) refl;
        there = fits;
        following = omega arith;
        options = omega arith;
        time = small;
        lies = (refl, refl, ap₂ (λ a b. record { start = a; length = b }) (omega arith) (omega arith));
      },
    )

pub simple_found : (interfaces : List Described) (i : Described) (orig size : ℕ) (rest : List ℕ)
    → slice_get interfaces 0 ≡ Some i → first_failing (data_checks (simple_captured orig i.snap) rest) ≡ None
    → IsFound (checks_among interfaces (SimpleParts orig rest)) ((order : Order) → PacketFound order interfaces (SimpleParts orig rest) 12 size rest
    (record {
      size = size;
      bytes = record { start = 12; length = simple_captured orig i.snap };
      options = record { start = 12; length = 0 };
      interface = 0;
      time = 0;
      orig = orig;
    }))
simple_found interfaces i orig size rest known upper_bound = (
  rw known upper_bound,
  λ order. record {
    whole = refl;
    known = rw known refl;
    from = refl;
    packet = packet_of i 0 orig (take (simple_captured orig i.snap) rest) [];
    stands = rw known refl;
    is_lent = rw known (ap (λ items. Some (packet_of i 0 orig (take (simple_captured orig i.snap) rest)
        (unwrap_or (first_value comment_code (fitting_options items)) []))) (options_in-none order));
    there = captured_fits _ rest upper_bound;
    following = lit≤ tt;
    options = omega arith;
    time = omega arith;
    lies = (refl, refl, refl);
  },
)

-- ---- the body in its block

enhanced_body : (kind : BlockType) (order own : Order) (body rest : List ℕ) (number ticks captured orig : ℕ) → parts_in_body kind order body ≡
    EnhancedParts number ticks captured orig own rest
    → first_failing (body_checks kind order body) ≡ None → (rest ≡ drop 20 body) × (20 ≤ length body) × (own ≡ order)
enhanced_body BlockType.EnhancedPacket order own body rest number ticks captured orig e none = grind (arith, leb-true, all_met)
enhanced_body kind order own body rest number ticks captured orig e none = absurd (cc)

simple_body : (kind : BlockType) (order : Order) (body rest : List ℕ) (orig : ℕ) → parts_in_body kind order body ≡ SimpleParts orig rest
    → first_failing (body_checks kind order body) ≡ None → (rest ≡ drop 4 body) × (4 ≤ length body)
simple_body BlockType.SimplePacket order body rest orig e none = grind (arith, leb-true, all_met)
simple_body kind order body rest orig e none = absurd (cc)

rows_after : (b : Bool) (fault : Fault) (rows : List (Bool × Fault)) → first_failing ((b, fault) ∷ rows) ≡ None → first_failing rows ≡ None
rows_after true fault rows none = none
rows_after false fault rows none = (cc)

pub body_passes : (frame : Frame) (block : List ℕ) → first_failing (block_checks frame block) ≡ None
    → first_failing (body_checks frame.block_type frame.order (body_in frame block)) ≡ None
body_passes frame block none = grind (arith, rows_after)

-- bytes of a part of a block, as bytes of the block
part_lies : (block rest : List ℕ) (most start at count : ℕ) → rest ≡ take most (drop start block) → at + count ≤ length rest
    → take count (drop (start + at) block) ≡ take count (drop at rest)
part_lies block rest most start at count is within =
    let size : length rest ≤ most = omega (arith, ap length is, length-take most (drop start block)) in
    let whole : at + (most - at) ≡ most = omega arith in
    let same =
    ap (drop at) is ∙ ap (λ n. drop at (take n (drop start block))) (sym whole) ∙ drop-take at (most - at) (drop start block)
    ∙ ap (take _) (drop-drop at start block) in
    sym (take-take count _ _ (omega arith)) ∙ ap (take count) (sym same)

-- ---- a block with a packet

packet_enters : (frame : Frame) (interfaces : List Described) (block rest : List ℕ) (parts : Parts) (skip : ℕ) (spans : PacketSpans)
    → length block ≡ frame.length → 12 ≤ frame.length
    → parts ≡ parts_in frame block → first_failing (block_checks frame block) ≡ None → rest ≡ drop skip (body_in frame block)
    → skip ≤ length (body_in frame block)
    → first_failing (checks_among interfaces parts) ≡ None → PacketFound frame.order interfaces parts (8 + skip) frame.length rest spans
    → section_by (Some (section_of frame.order interfaces)) frame.order parts ≡ section_of frame.order interfaces
    → Enters frame interfaces block (Some spans) interfaces
packet_enters frame interfaces block rest parts skip spans whole least is passes left there among found stays =
    let most = frame.length - 12 - skip in
    let skipped : skip + most ≡ frame.length - 12 = omega (arith, length-take (frame.length - 12) (drop 8 block)) in
    let rest_is = left ∙ ap (λ n. drop skip (take n (drop 8 block))) (sym skipped) ∙ drop-take skip most _ ∙ ap (take most) (drop-drop skip 8 block) in
    let size : length rest ≤ most = omega (arith, ap length rest_is, length-take most (drop (8 + skip) block)) in
    let f = found in
    let further = spans.options.start - spans.bytes.start in
    let bytes =
    ap (λ n. take spans.bytes.length (drop n block)) (omega arith) ∙ part_lies block rest most _ 0 _ rest_is
    (omega arith) in
    let options =
    ap (λ n. take spans.options.length (drop n block)) (omega arith) ∙ part_lies block rest most _ _
    _ rest_is f.options in
    record {
      passes = passes;
      among = ap (λ p. first_failing (checks_among interfaces p)) (sym is) ∙ among;
      section = ap (λ p. section_by (Some (section_of frame.order interfaces)) frame.order p) (sym is) ∙ stays;
      packet = record {
        packet = found.packet;
        stands = ap (packet_by _) (sym is) ∙ found.stands;
        is_lent = ap₂ (held_packet _ _ spans) bytes options ∙ found.is_lent;
      };
      fits = (found.whole, omega arith, found.time, omega arith);
      known = found.known;
    }

-- the remainder of the body after the fields of an enhanced packet is within the block
pub enhanced_room : (frame : Frame) (block : List ℕ) (b : EnhancedBlock) → length block ≡ frame.length → 12 ≤ frame.length
    → parts_of (Block.Enhanced b) ≡ parts_in frame block → block_fault frame block ≡ None → 28 + length b.rest.now ≤ frame.length
enhanced_room frame block b whole least is none =
    let passes = (block_passes frame block least (omega arith) none).0 in
    let body = enhanced_body _ _ _ _ _ b.interface b.ticks b.captured b.orig (sym is)
    (body_passes frame block passes) in
    let size : length (body_in frame block) ≡ frame.length - 12 = length-take-le _ (drop 8 block) (omega (arith, length-drop 8 block)) in
    omega (arith, size, ap length body.0, length-drop 20 (body_in frame block))

pub enhanced_enters : (frame : Frame) (interfaces : List Described) (block : List ℕ) (b : EnhancedBlock) (spans : PacketSpans)
    → length block ≡ frame.length → 12 ≤ frame.length
    → parts_of (Block.Enhanced b) ≡ parts_in frame block → block_fault frame block ≡ None
    → IsFound (checks_among interfaces (parts_of (Block.Enhanced b))) (PacketFound b.order interfaces (parts_of (Block.Enhanced b)) 28 frame.length
    b.rest.now spans)
    → Enters frame interfaces block (Some spans) interfaces
enhanced_enters frame interfaces block b spans whole least is none found =
    let passes = (block_passes frame block least (omega arith) none).0 in
    let body = enhanced_body _ _ _ _ _ _ _ _ b.orig (sym is)
    (body_passes frame block passes) in
    let P : Order → Type 0 = λ order. PacketFound order interfaces (parts_of (Block.Enhanced b)) 28 frame.length b.rest.now spans in
    packet_enters frame _ block _ _ 20 spans whole least is passes body.0 body.1 found.0
    (subst P body.2 found.1) refl

pub simple_enters : (frame : Frame) (interfaces : List Described) (block : List ℕ) (b : SimpleBlock) (spans : PacketSpans)
    → length block ≡ frame.length → 12 ≤ frame.length
    → parts_of (Block.Simple b) ≡ parts_in frame block → block_fault frame block ≡ None
    → IsFound (checks_among interfaces (parts_of (Block.Simple b))) ((order : Order) → PacketFound order interfaces (parts_of (Block.Simple b)) 12
    frame.length b.rest.now spans)
    → Enters frame interfaces block (Some spans) interfaces
simple_enters frame interfaces block b spans whole least is none found =
    let passes = (block_passes frame block least (omega arith) none).0 in
    let body = simple_body _ _ _ _ b.orig (sym is) (body_passes frame block passes) in
    packet_enters frame _ block _ _ 4 spans whole least is passes body.0 body.1 found.0 (found.1 _) refl

-- ---- a block that is refused by itself

-- those of its body don't hang on the interfaces before it
Stays : Fault → Type 0
Stays fault = (interfaces : List Described) → fault_among interfaces fault ≡ fault

body_stays : (kind : BlockType) (order : Order) (body : List ℕ) → AllByRecursion (λ row. Stays row.1) (body_checks kind order body)
unfolding Stays
body_stays BlockType.Section order body = (λ i. refl, (λ i. refl, tt))
body_stays BlockType.Other order body = tt
body_stays _ order body = (λ i. refl, tt)

block_stays : (frame : Frame) (block : List ℕ) (fault : Fault) → first_failing (block_checks frame block) ≡ Some fault → (interfaces : List Described)
    → fault_among interfaces fault ≡ fault
unfolding Stays
block_stays frame block fault fails = grind (arith, all_failing, body_stays)

-- those of its options come after that of how many interfaces there are
Yields : Fault → Type 0
Yields fault = (interfaces : List Described) → fault_among interfaces fault ≡ (if nat_lt (length interfaces) most_interfaces then fault else TooManyInterfaces)

option_yields : (parts : Parts) (fault : Fault) → first_failing (option_checks parts) ≡ Some fault → Yields fault
unfolding Yields
option_yields parts fault fails = all_failing Yields _ fault (all_of_options Yields (λ i. refl) (λ i. refl) parts) fails

after_room : (room : Bool) (rows : List (Bool × Fault)) (fault : Fault) → first_failing rows ≡ Some fault
    → first_failing ((room, TooManyInterfaces) ∷ rows) ≡ Some (if room then fault else TooManyInterfaces)
after_room true rows fault fails = fails
after_room false rows fault fails = refl

among_options : (interfaces : List Described) (parts : Parts) (fault : Fault) → first_failing (option_checks parts) ≡ Some fault
    → first_failing (checks_among interfaces parts) ≡ Some (if nat_lt (length interfaces) most_interfaces then fault else TooManyInterfaces)
among_options interfaces (InterfaceParts link snap order options) fault fails = grind (arith, after_room)
among_options interfaces parts fault fails = (cc)

pub refused_by_itself : (frame : Frame) (interfaces : List Described) (block : List ℕ) (fault : Fault) → length block ≡ frame.length
    → 12 ≤ frame.length → block_fault frame block ≡ Some fault
    → IsBlockFault frame interfaces block (fault_among interfaces fault)
unfolding Yields
refused_by_itself frame interfaces block fault whole least fails =
    elim (block_fails frame block fault least (omega arith) fails) [
      | inl body ↦ inl (body ∙ ap Some (sym (block_stays frame block fault body _)))
      | inr options ↦ inr (
        options.0,
        among_options _ _ fault options.1 ∙ ap Some (sym (option_yields _ fault options.1 _)),
      )
    ]

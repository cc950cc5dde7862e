-- The effect of reading a block, from one read of the device to the next.
use Rattle.std.proofs.Common.{◌≡◌, ℕ, true, ◌+◌, ◌<◌, ◌≤◌, ◌⊎◌, inl, inr, List, [], ◌∷◌, ◌++◌, length, take, drop, Option, Some, None, Result, Ok, Err, refl}
use Rattle.std.proofs.Common.{rules, sym, ap, ◌∙◌, subst, unwrap_or}
use Rattle.cap_io.proofs.Common.{arith, length-append, length-take-le, drop_at, drop-drop, take-append-drop, checked, first_failing, Captured, Fault, NoMemory}
use Rattle.cap_io.proofs.Common.{ReadFailed, Order, checked_ok, checked_err, Described, block_size, Frame, AddsInterface, IsEntryFault, PacketSpans}
use Rattle.cap_pcapng.specs.Unit.{IsBlock, Section, frame_after, interfaces_before, order_before, packets_in, parts_after, section_after, unit_fault}
use Rattle.cap_pcapng.proofs.Units.{passes, frame_checks-append, frame_in-append, unit_fault-frame, unit_fault-short, unit_fault-block, unit_fault-among}
use Rattle.cap_pcapng.proofs.Units.{parts_in-append, block_checks-append}
use Rattle.cap_pcapng.specs.Effect.{Enters, held_packet, section_of, IsBlockFault, span_bytes, is_interface}
use Rattle.cap_io.proofs.Fronts.{decisive_block_length, length_by_header-whole}
use Rattle.cap_io.proofs.OwnFaults.{entry-not_failed, own-frame, own-not_failed, own-not_memory}
use Rattle.cap_io.specs.{Reading.most_in_unit, Reading.block_length, inside.Reading.RestMissing}
use Rattle.cap_pcapng.specs.{Block.block_checks, Block.parts_in, Frame.frame_checks, Frame.frame_fault, Frame.frame_in, Frame.most_block}

-- ---- what was read

-- a block whose first 12 bytes fail no check was read, and is at the start of the buffer
pub record WholeCame (section : Option Order) (text buffer : List ℕ) (frame : Frame) (unread' : List ℕ) : Type 0 where
  pub passes : frame_fault section (take frame.length buffer) ≡ None
  pub says : frame_in section (take frame.length buffer) ≡ frame
  pub splits : text ≡ take frame.length buffer ++ unread'

-- Why no block was read: there is a fault, or the device failed, or memory ran out. At most the
-- block's bytes were read, and if the device failed, fewer bytes than decide what is there.
pub record BlockMissing (before : Option Section) (text unread' : List ℕ) (fault : Fault) : Type 0 where
  pub why : (unit_fault before text ≡ Some fault) ⊎ (fault ≡ ReadFailed) ⊎ (fault ≡ NoMemory)
  pub count : ℕ
  pub within : unit_fault before text ≡ None → count ≤ block_size before text
  pub upper_bound : count ≤ most_in_unit
  pub unfinished : fault ≡ ReadFailed → count < decisive_block_length before text
  pub there : count ≤ length text
  pub rest : unread' ≡ drop count text

-- the packet of a block after others
pub record BlockPacket (order : Order) (before : Option Section) (block : List ℕ) (spans : PacketSpans) : Type 0 where
  pub packet : Captured
  pub stands : packets_in before block ≡ packet ∷ []
  pub is_lent : held_packet order (interfaces_before before) spans (span_bytes spans.bytes block) (span_bytes spans.options block) ≡ Some packet

abbrev pub BlockPacketIfAny : Order → Option Section → List ℕ → Option PacketSpans → Type 0
BlockPacketIfAny order before block None = packets_in before block ≡ []
BlockPacketIfAny order before block (Some spans) = BlockPacket order before block spans

-- a block was read, and is at the start of the buffer
pub record BlockCame (before : Option Section) (text buffer : List ℕ) (order : Order) (size : ℕ) (spans : Option PacketSpans)
    (interfaces' : List Described) (unread' : List ℕ) : Type 0 where
  pub is_block : IsBlock before (take size buffer)
  pub section : section_after before (take size buffer) ≡ section_of order interfaces'
  pub packet : BlockPacketIfAny order before (take size buffer) spans
  pub splits : text ≡ take size buffer ++ unread'

-- ---- the first 12 bytes

-- the fields of the first 12 bytes
pub record FrontSays (section : Option Order) (front : List ℕ) (frame : Frame) : Type 0 where
  pub passes : frame_fault section front ≡ None
  pub says : frame_in section front ≡ frame

pub front_says : (section : Option Order) (front : List ℕ) (answer : Result Frame Fault) (frame : Frame)
    → answer ≡ checked (frame_fault section front) (frame_in section front) → answer ≡ Ok frame
    → FrontSays section front frame
front_says section front answer frame is ok = grind (arith, checked_ok)

-- the same for bytes that begin with them
pub says_after : (before : Option Section) (section : Option Order) (front more : List ℕ) (frame : Frame) → order_before before ≡ section
    → 12 ≤ length front → FrontSays section front frame
    → (first_failing (frame_checks (order_before before) (front ++ more)) ≡ None) × (frame_after before (front ++ more) ≡ frame)
says_after before section front more frame is enough said = grind (arith, frame_checks-append, frame_in-append)

-- a given number of bytes were taken, the front among them
taken_after : (front unread unread' : List ℕ) (count : ℕ) → unread' ≡ drop count unread → unread' ≡ drop (length front + count) (front ++ unread)
taken_after front unread unread' count rest =
    rest ∙ ap (drop count) (sym (drop_at front unread (length front) refl)) ∙ drop-drop count (length front) (front ++ unread)

block_missing : (before : Option Section) (front unread unread' : List ℕ) (fault : Fault) (count : ℕ) → length front ≡ 12
    → (unit_fault before (front ++ unread) ≡ Some fault) ⊎ (fault ≡ ReadFailed) ⊎ (fault ≡ NoMemory)
    → (unit_fault before (front ++ unread) ≡ None → 12 + count ≤ block_size before (front ++ unread))
    → (fault ≡ ReadFailed → 12 + count < decisive_block_length before (front ++ unread)) → 12 + count ≤ most_in_unit
    → count ≤ length unread → unread' ≡ drop count unread → BlockMissing before (front ++ unread) unread' fault
block_missing before front unread unread' fault count upper_bound why within unfinished small there rest = record {
  why = why;
  count = length front + count;
  within = λ none. rw upper_bound (within none);
  upper_bound = rw upper_bound small;
  unfinished = λ failed. rw upper_bound (unfinished failed);
  there = omega (arith, length-append front unread, there);
  rest = taken_after front unread unread' count rest;
}

pub frame_refused : (before : Option Section) (section : Option Order) (front unread : List ℕ) (answer : Result Frame Fault) (fault : Fault)
    → order_before before ≡ section → length front ≡ 12
    → answer ≡ checked (frame_fault section front) (frame_in section front) → answer ≡ Err fault → BlockMissing before (front ++ unread) unread fault
frame_refused before section front unread answer fault is upper_bound exact err =
    let fails : frame_fault section front ≡ Some fault = grind (arith, checked_err) in
    let whole : first_failing (frame_checks (order_before before) (front ++ unread)) ≡ Some fault =
    ap (λ o. first_failing (frame_checks o (front ++ unread))) is ∙ ap first_failing (frame_checks-append section front unread (omega arith)) ∙ fails in
    block_missing before front unread unread fault 0 upper_bound
    (inl (unit_fault-frame before (front ++ unread) fault (omega (arith, length-append front unread)) whole))
    (λ none. omega (arith, (passes before (front ++ unread) none).least))
    (λ failed. absurd (own-not_failed fault (own-frame section front fault fails) failed)) (omega arith) (omega arith) refl

pub no_room_for_block : (before : Option Section) (front unread : List ℕ) → length front ≡ 12 → BlockMissing before (front ++ unread) unread NoMemory
no_room_for_block before front unread upper_bound =
    block_missing before front unread unread NoMemory 0 upper_bound (inr (inr refl))
    (λ none. omega (arith, (passes before (front ++ unread) none).least)) (λ failed. (cc)) (omega arith) (omega arith) refl

-- the first 12 bytes tell a block's length, where they pass
block_length-whole : (before : Option Section) (front unread : List ℕ) → 12 ≤ length front
    → first_failing (frame_checks (order_before before) (front ++ unread)) ≡ None
    → block_length before (front ++ unread) ≡ Some (block_size before (front ++ unread))
block_length-whole before front unread enough none = grind (arith, length_by_header-whole, block_size, length-append)

-- a block whose first bytes pass takes memory where there is less room
pub block-exceeds : (before : Option Section) (section : Option Order) (front unread : List ℕ) (frame : Frame) (room : ℕ)
    → order_before before ≡ section → length front ≡ 12
    → FrontSays section front frame → room < frame.length → room < unwrap_or (block_length before (front ++ unread)) 0
block-exceeds before section front unread frame room is upper_bound said less =
    let both = says_after before section front unread frame is (omega arith) said in
    grind (arith, block_size, block_length-whole)

pub frame-has_memory : (section : Option Order) (front : List ℕ) (answer : Result Frame Fault) (fault : Fault)
    → answer ≡ checked (frame_fault section front) (frame_in section front) → answer ≡ Err fault
    → fault ≡ NoMemory → ⊥
frame-has_memory section front answer fault is err = grind (arith, own-not_memory, own-frame, checked_err)

pub rest_of_block : (before : Option Section) (section : Option Order) (front unread unread' : List ℕ) (frame : Frame) (fault : Fault)
    → order_before before ≡ section → length front ≡ 12
    → FrontSays section front frame → frame.length ≤ most_block → RestMissing (length front) frame.length unread unread' fault
    → BlockMissing before (front ++ unread) unread' fault
rest_of_block before section front unread unread' frame fault is upper_bound said small missing =
    let both = says_after before section front unread frame is (omega arith) said in
    let size : block_size before (front ++ unread) ≡ frame.length = ap (λ (f : Frame). f.length) both.1 in
    let stated = block_length-whole before front unread (omega arith) both.0 in
    let reads : decisive_block_length before (front ++ unread) ≡ block_size before (front ++ unread) = ap (λ (o : Option ℕ). unwrap_or o 12) stated in
    let long : length (front ++ unread) ≡ length front + length unread = length-append front unread in
    block_missing before front unread unread' fault missing.count upper_bound
    (grind (arith, unit_fault-short))
    (λ none. omega (arith, missing.within)) (λ failed. rw reads (omega (arith, missing.within))) (omega (arith, missing.within)) missing.there missing.rest

-- ---- the complete block

pub whole_came : (section : Option Order) (front unread unread' unit buffer : List ℕ) (frame : Frame) → length front ≡ 12 → FrontSays section front frame
    → take frame.length buffer ≡ unit → take (length front) unit ≡ front → unread ≡ drop (length front) unit ++ unread'
    → WholeCame section (front ++ unread) buffer frame unread'
whole_came section front unread unread' unit buffer frame upper_bound said there same rest =
    let joined : front ++ drop (length front) unit ≡ unit = grind (arith, take-append-drop) in
    grind (arith, frame_checks-append, frame_in-append)

-- the frame of a block is that of any bytes that begin with it
record IsFramed (before : Option Section) (block more : List ℕ) (frame : Frame) : Type 0 where
  framed : first_failing (frame_checks (order_before before) (block ++ more)) ≡ None
  following : frame_after before (block ++ more) ≡ frame
  alone : frame_after before block ≡ frame

framed_block : (before : Option Section) (section : Option Order) (block more : List ℕ) (frame : Frame) → order_before before ≡ section → 12 ≤ length block
    → frame_fault section block ≡ None → frame_in section block ≡ frame → IsFramed before block more frame
framed_block before section block more frame is enough none says = grind (arith, frame_checks-append, frame_in-append)

-- a block that fails a check
pub block_refused : (before : Option Section) (section : Option Order) (interfaces : List Described) (text unread' block buffer : List ℕ)
    (frame : Frame) (fault : Fault)
    → order_before before ≡ section → interfaces_before before ≡ interfaces → 12 ≤ frame.length → frame.length ≤ length buffer
    → WholeCame section text buffer frame unread' → block ≡ take frame.length buffer → IsBlockFault frame interfaces block fault
    → unit_fault before text ≡ Some fault
block_refused before section interfaces text unread' block buffer frame fault is same least room came block_is checked =
    let size : length block ≡ frame.length = ap length block_is ∙ length-take-le frame.length buffer room in
    let splits : text ≡ block ++ unread' = came.splits ∙ ap (λ (l : List ℕ). l ++ unread') (sym block_is) in
    let f = framed_block before section block unread' frame is (omega arith) (ap (frame_fault section) block_is ∙ came.passes)
    (ap (frame_in section) block_is ∙ came.says) in
    let whole : block_size before (block ++ unread') ≡ frame.length = ap (λ (g : Frame). g.length) f.following in
    let long : length (block ++ unread') ≡ length block + length unread' = length-append block unread' in
    let blocked : first_failing (block_checks (frame_after before (block ++ unread')) (block ++ unread')) ≡ first_failing (block_checks frame block) =
    ap (λ (g : Frame). first_failing (block_checks g (block ++ unread'))) f.following
    ∙ ap first_failing (block_checks-append frame block unread' least (omega arith)) in
    let parts : parts_after before (block ++ unread') ≡ parts_in frame block =
    ap (λ (g : Frame). parts_in g (block ++ unread')) f.following ∙ parts_in-append frame block unread' least (omega arith) in
    let P : List ℕ → Type 0 = λ t. unit_fault before t ≡ Some fault in
    subst P (sym splits) (elim checked [
      | inl fails ↦ unit_fault-block before (block ++ unread') fault (omega arith) f.framed (omega arith) (blocked ∙ fails)
      | inr among ↦ grind (arith, unit_fault-among)
    ])

-- a block that doesn't find its place
pub entry_refused : (before : Option Section) (section : Option Order) (interfaces : List Described) (text unread' block buffer : List ℕ)
    (frame : Frame) (fault : Fault)
    → order_before before ≡ section → interfaces_before before ≡ interfaces → 12 ≤ frame.length → frame.length ≤ most_in_unit → frame.length ≤ length buffer
    → WholeCame section text buffer frame unread' → block ≡ take frame.length buffer → IsEntryFault frame interfaces block fault
    → BlockMissing before text unread' fault
entry_refused before section interfaces text unread' block buffer frame fault is same least small room came block_is entry =
    let size : length block ≡ frame.length = ap length block_is ∙ length-take-le frame.length buffer room in
    let splits : text ≡ block ++ unread' = came.splits ∙ ap (λ (l : List ℕ). l ++ unread') (sym block_is) in
    let f = framed_block before section block unread' frame is (omega arith) (ap (frame_fault section) block_is ∙ came.passes)
    (ap (frame_in section) block_is ∙ came.says) in
    let whole : block_size before text ≡ frame.length = ap (block_size before) splits ∙ ap (λ (g : Frame). g.length) f.following in
    let long : length text ≡ length block + length unread' = ap length splits ∙ length-append block unread' in
    record {
      why = elim entry [
        | inl checked ↦ inl (block_refused before section interfaces text unread' block buffer frame fault is same least room came block_is checked)
        | inr memory ↦ inr (inr memory.0)
      ];
      count = frame.length;
      within = λ none. omega (arith, whole);
      upper_bound = small;
      unfinished = λ failed. absurd (entry-not_failed frame interfaces block fault entry failed);
      there = omega (arith, long, size);
      rest = sym (ap (drop frame.length) splits ∙ drop_at block unread' frame.length size);
    }

-- what is true of a block with an interface is true of any bytes that begin with it
pub record Describes (before : Option Section) (text : List ℕ) : Type 0 where
  pub passes : unit_fault before text ≡ None
  pub is : is_interface (parts_after before text) ≡ true

pub adds-describes : (before : Option Section) (section : Option Order) (interfaces : List Described) (text unread' block buffer : List ℕ) (frame : Frame)
    → order_before before ≡ section → interfaces_before before ≡ interfaces → 12 ≤ frame.length → frame.length ≤ length buffer
    → WholeCame section text buffer frame unread' → block ≡ take frame.length buffer → AddsInterface frame interfaces block → Describes before text
adds-describes before section interfaces text unread' block buffer frame is same least room came block_is adds =
    let size : length block ≡ frame.length = ap length block_is ∙ length-take-le frame.length buffer room in
    let splits : text ≡ block ++ unread' = came.splits ∙ ap (λ (l : List ℕ). l ++ unread') (sym block_is) in
    let f = framed_block before section block unread' frame is (omega arith) (ap (frame_fault section) block_is ∙ came.passes)
    (ap (frame_in section) block_is ∙ came.says) in
    grind (arith, block_size, length-append, block_checks-append, parts_in, parts_in-append, unit_fault-among)

-- ---- a block that found it

pub block_came : (before : Option Section) (section : Option Order) (interfaces interfaces' : List Described) (text unread' block buffer : List ℕ)
    (frame : Frame) (spans : Option PacketSpans)
    → order_before before ≡ section → interfaces_before before ≡ interfaces → 12 ≤ frame.length → frame.length ≤ length buffer
    → WholeCame section text buffer frame unread' → block ≡ take frame.length buffer → Enters frame interfaces block spans interfaces'
    → BlockCame before text buffer frame.order frame.length spans interfaces' unread'
block_came before section interfaces interfaces' text unread' block buffer frame spans is same least room came block_is enters = search rules

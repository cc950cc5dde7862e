-- The first bytes determine which block they begin with.
use Rattle.std.proofs.Common.{◌≡◌, ℕ, ◌<◌, ◌≤◌, Bool, true, false, ◌&&◌, List, [], ◌∷◌, ◌++◌, length, take, drop, Option, Some, None, refl, sym, ap, ap₂, ◌∙◌}
use Rattle.std.proofs.Common.{arith, leb-true, le-leb, nat_le}
use Rattle.cap_pcapng.specs.Block.{Parts, block_checks, body_in, parts_in}
use Rattle.cap_pcapng.proofs.Common.{lt-leb, first_failing, Fault, Truncated, Order, all_met, failing_front, met_front, Frame}
use Rattle.std.proofs.lemmas.List.{length-take-le, take-append-drop, take-append-le, drop-append-le, length-append, length-drop}
use Rattle.cap_pcapng.specs.Frame.{frame_checks, frame_in, length_in}
use Rattle.cap_pcapng.specs.Unit.{IsBlock, Section, block_size, checks_among, frame_after, interfaces_before, order_before, parts_after, unit_fault}
use Rattle.cap_octet.proofs.Numbers.{number_in-append}

-- ---- more bytes after

pub frame_in-append : (section : Option Order) (front more : List ℕ) → 12 ≤ length front → frame_in section (front ++ more) ≡ frame_in section front
frame_in-append section front more enough = grind (arith, number_in-append)

pub frame_checks-append : (section : Option Order) (front more : List ℕ) → 12 ≤ length front → frame_checks section (front ++ more) ≡ frame_checks section front
frame_checks-append section front more enough = grind (arith, number_in-append)

pub body_in-append : (frame : Frame) (front more : List ℕ) → 12 ≤ frame.length → frame.length ≤ length front → body_in frame (front ++ more) ≡ body_in
    frame front
body_in-append frame front more least whole = grind (arith, drop-append-le, take-append-le, length-drop)

pub block_checks-append : (frame : Frame) (front more : List ℕ) → 12 ≤ frame.length → frame.length ≤ length front
    → block_checks frame (front ++ more) ≡ block_checks frame front
block_checks-append frame front more least whole = grind (arith, number_in-append, body_in-append)

pub parts_in-append : (frame : Frame) (front more : List ℕ) → 12 ≤ frame.length → frame.length ≤ length front → parts_in frame (front ++ more) ≡
    parts_in frame front
parts_in-append frame front more least whole = simp body_in-append

-- ---- the checks, one after another

-- the checks of the block by itself, and those that need its section
after_frame : Option Section → List ℕ → List (Bool × Fault)
after_frame before text = block_checks (frame_after before text) text ++ checks_among (interfaces_before before) (parts_after before text)

module _ (before : Option Section) (text : List ℕ) where
  past_first : 12 ≤ length text
      → unit_fault before text ≡ first_failing (frame_checks (order_before before) text
      ++ ((nat_le (block_size before text) (length text), Truncated) ∷ after_frame before text))
  unfolding after_frame
  past_first enough = rw le-leb refl

  after_size : 12 ≤ length text → first_failing (frame_checks (order_before before) text) ≡ None
      → block_size before text ≤ length text → unit_fault before text ≡ first_failing (after_frame before text)
  after_size enough framed whole = grind (arith, past_first, met_front, le-leb)

  pub unit_fault-few : length text < 12 → unit_fault before text ≡ Some Truncated
  unit_fault-few upper_bound = rw lt-leb refl

  pub unit_fault-frame : (fault : Fault) → 12 ≤ length text
      → first_failing (frame_checks (order_before before) text) ≡ Some fault → unit_fault before text ≡ Some fault
  unit_fault-frame fault enough fails =
      past_first enough
      ∙ failing_front (frame_checks _ text) ((nat_le _ _, Truncated) ∷ after_frame before text) fault fails

  pub unit_fault-short : 12 ≤ length text → first_failing (frame_checks (order_before before) text) ≡ None
      → length text < block_size before text → unit_fault before text ≡ Some Truncated
  unit_fault-short enough framed short = grind (arith, past_first, met_front, lt-leb)

  pub unit_fault-block : (fault : Fault) → 12 ≤ length text
      → first_failing (frame_checks (order_before before) text) ≡ None → block_size before text ≤ length text
      → first_failing (block_checks (frame_after before text) text) ≡ Some fault → unit_fault before text ≡ Some fault
  unfolding after_frame
  unit_fault-block fault enough framed whole fails =
      after_size enough framed whole
      ∙ failing_front (block_checks _ text) _ fault fails

  -- the checks among others decide where all before them are met
  pub unit_fault-among : 12 ≤ length text
      → first_failing (frame_checks (order_before before) text) ≡ None → block_size before text ≤ length text
      → first_failing (block_checks (frame_after before text) text) ≡ None
      → unit_fault before text ≡ first_failing (checks_among (interfaces_before before) (parts_after before text))
  unfolding after_frame
  unit_fault-among enough framed whole blocked =
      after_size enough framed whole
      ∙ met_front (block_checks _ text) _ blocked

-- ---- the checks on bytes

pub record Passes (before : Option Section) (text : List ℕ) : Type 0 where
  pub enough : 12 ≤ length text
  pub framed : first_failing (frame_checks (order_before before) text) ≡ None
  pub least : 12 ≤ block_size before text
  pub whole : block_size before text ≤ length text
  pub blocked : first_failing (block_checks (frame_after before text) text) ≡ None
  pub among : first_failing (checks_among (interfaces_before before) (parts_after before text)) ≡ None

pub both_none : (rows more : List (Bool × Fault)) → first_failing (rows ++ more) ≡ None → (first_failing rows ≡ None) × (first_failing more ≡ None)
both_none [] more none = (refl, none)
both_none ((true, fault) ∷ rows) more none = both_none rows more none
both_none ((false, fault) ∷ rows) more none = (cc)

and_first : (a b : Bool) → (a && b) ≡ true → a ≡ true
and_first true b is = refl
and_first false b is = is

-- a frame that fails no check has a total length of at least 12
pub least_length : (section : Option Order) (text : List ℕ) → first_failing (frame_checks section text) ≡ None → 12 ≤ length_in section text
least_length section text framed = leb-true 12 _ (and_first _ _ (all_met (frame_checks _ text) framed).1.1.0)

met_first : (b : Bool) (fault : Fault) (rows : List (Bool × Fault)) → first_failing ((b, fault) ∷ rows) ≡ None → (b ≡ true) × (first_failing rows ≡ None)
met_first true fault rows none = (refl, none)
met_first false fault rows none = (cc)

pub passes : (before : Option Section) (text : List ℕ) → unit_fault before text ≡ None → Passes before text
unfolding after_frame
passes before text none =
    let first = met_first _ _
    (frame_checks _ text ++ ((nat_le _ _, Truncated) ∷ after_frame before text)) none in
    let enough = leb-true 12 _ first.0 in
    let framed = both_none (frame_checks _ text) ((nat_le _ _, Truncated) ∷ after_frame before text)
    (sym (past_first before text enough) ∙ none) in
    let size = met_first _ _ (after_frame before text) framed.1 in
    let block = both_none (block_checks _ text) _ size.1 in
    record {
      enough = enough;
      framed = framed.0;
      least = least_length _ text framed.0;
      whole = leb-true _ _ size.0;
      blocked = block.0;
      among = block.1;
    }

pub unit_fault-passes : (before : Option Section) (text : List ℕ) → Passes before text → unit_fault before text ≡ None
unit_fault-passes before text p = grind (arith, unit_fault-among)

-- ---- a block before other bytes

module _ (before : Option Section) (front more : List ℕ) (enough : 12 ≤ length front) where
  pub block_size-append : block_size before (front ++ more) ≡ block_size before front
  block_size-append = grind (arith, frame_in-append)

  module _ (least : 12 ≤ block_size before front) (whole : block_size before front ≤ length front) where
    pub parts_after-append : parts_after before (front ++ more) ≡ parts_after before front
    parts_after-append =
        ap (λ f. parts_in f (front ++ more)) (frame_in-append _ front more enough) ∙ parts_in-append _ front more least whole

    block_checks-following : block_checks (frame_after before (front ++ more)) (front ++ more) ≡ block_checks (frame_after before front) front
    block_checks-following =
        ap (λ f. block_checks f (front ++ more)) (frame_in-append _ front more enough) ∙ block_checks-append _ front more least whole

    unit_fault-append : unit_fault before (front ++ more) ≡ unit_fault before front
    unfolding after_frame
    unit_fault-append =
        let size = length-append front more in
        let there = le-leb (block_size before (front ++ more)) (length (front ++ more)) (omega (arith, block_size-append)) ∙ sym (le-leb _ _ whole) in
        let checks =
        ap₂ (λ (rows : List (Bool × Fault)) (q : Parts). rows ++ checks_among (interfaces_before before) q) block_checks-following parts_after-append in
        past_first before _ (omega arith)
        ∙ ap₂ (λ (rows rest : List (Bool × Fault)). first_failing (rows ++ rest)) (frame_checks-append _ front more enough)
        (ap₂ (λ (b : Bool) (rows : List (Bool × Fault)). (b, Truncated) ∷ rows) there checks)
        ∙ sym (past_first before front enough)

-- a block at the front of a text
pub IsBlock-front : (before : Option Section) (bytes more : List ℕ) → IsBlock before bytes
    → (unit_fault before (bytes ++ more) ≡ None) × (block_size before (bytes ++ more) ≡ length bytes)
IsBlock-front before bytes more is =
    let p = passes before bytes is.passes in
    (unit_fault-append before bytes more p.enough p.least p.whole ∙ is.passes, block_size-append before bytes more p.enough ∙ sym is.whole)

-- the block at the start of bytes that fail no check
pub IsBlock-take : (before : Option Section) (text : List ℕ) → unit_fault before text ≡ None → IsBlock before (take (block_size before text) text)
IsBlock-take before text none =
    let p = passes before text none in
    let front = take _ text in
    let rest = drop _ text in
    let size = length-take-le _ text p.whole in
    let joined = take-append-drop _ text in
    let enough : 12 ≤ length front = omega arith in
    let same = ap (block_size before) (sym joined) ∙ block_size-append before front rest enough in
    record {
      passes = sym (unit_fault-append before front rest enough (omega arith) (omega arith)) ∙ ap (unit_fault before) joined ∙ none;
      whole = size ∙ same;
    }

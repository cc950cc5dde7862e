-- All checks of a block by itself, and those that need its section.
use Rattle.std.proofs.Common.{arith, take, drop, ◌≡◌, ℕ, ◌-◌, ◌≤◌, ◌⊎◌, inl, inr, Bool, true, false, List, [], ◌∷◌, ◌++◌, length, Some, None, refl, le-leb}
use Rattle.std.proofs.Common.{eq-eqb}
use Rattle.cap_pcapng.specs.Block.{block_checks, block_fault, body_checks, option_checks, parts_in, parts_in_body}
use Rattle.cap_pcapng.proofs.{Common.first_failing, Common.u32_in, Common.Fault, Common.Frame, Units.both_none}

-- the checks of a body, and of its options
abbrev pub own_checks : Frame → List ℕ → List (Bool × Fault)
own_checks frame body = body_checks frame.block_type frame.order body ++ option_checks (parts_in_body frame.block_type frame.order body)

-- they decide where those before them are met
pub block_fault-body : (frame : Frame) (text : List ℕ) → 12 ≤ frame.length → frame.length ≤ length text → u32_in frame.order text
    (frame.length - 4) ≡ frame.length
    → first_failing (own_checks frame (take (frame.length - 4 - 8) (drop 8 text))) ≡ block_fault frame text
block_fault-body frame text least whole same = let ends : frame.length - 4 - 8 ≡ frame.length - 12 = omega arith in grind (arith, le-leb, eq-eqb)

-- ---- what the result of all checks means for each

either_fails : (rows more : List (Bool × Fault)) (fault : Fault) → first_failing (rows ++ more) ≡ Some fault
    → (first_failing rows ≡ Some fault) ⊎ ((first_failing rows ≡ None) × (first_failing more ≡ Some fault))
either_fails [] more fault fails = inr (refl, fails)
either_fails ((true, other) ∷ rows) more fault fails = either_fails rows more fault fails
either_fails ((false, other) ∷ rows) more fault fails = inl fails

-- checks of a block whose bytes are there
after_size : (frame : Frame) (text : List ℕ) → 12 ≤ frame.length → frame.length ≤ length text
    → block_fault frame text ≡ first_failing (block_checks frame text ++ option_checks (parts_in frame text))
after_size frame text least whole = simp le-leb

pub block_passes : (frame : Frame) (text : List ℕ) → 12 ≤ frame.length → frame.length ≤ length text → block_fault frame text ≡ None
    → (first_failing (block_checks frame text) ≡ None) × (first_failing (option_checks (parts_in frame text)) ≡ None)
block_passes frame text least whole none = grind (arith, both_none, after_size)

pub block_fails : (frame : Frame) (text : List ℕ) (fault : Fault) → 12 ≤ frame.length → frame.length ≤ length text → block_fault frame text ≡ Some fault
    → (first_failing (block_checks frame text) ≡ Some fault)
    ⊎ ((first_failing (block_checks frame text) ≡ None) × (first_failing (option_checks (parts_in frame text)) ≡ Some fault))
block_fails frame text fault least whole fails = grind (arith, either_fails, after_size)

-- Unconditional jumps in a program, and which of them are needed.
use Rattle.std.specs.Prelude.{◌≡◌, ◌≢◌, ◌⊎◌, ℕ, ◌+◌, ◌<◌, ◌≤◌, Bool, true, false, List, length, Option, Some, slice_get, All}
use Rattle.flt_bpf.specs.{Instructions.operation_of, declared.insn.Insn.Insn}
use Rattle.flt_bpf.specs.declared.operation.Operation.{Operation, TheVariants.JumpIf}

-- a conditional jump
abbrev pub is_branch : Option Operation → Bool
is_branch (Some (JumpIf test operand)) = true
is_branch _ = false

-- the code of an unconditional jump; below, "jump" means one
abbrev pub JUMP : ℕ
JUMP = 5

-- the greatest offset of a conditional jump
abbrev pub MOST_OFFSET : ℕ
MOST_OFFSET = 255

-- a conditional jump leads to the jump at a place, whose target is too far from the instruction
-- after the conditional jump
pub record IsNeeded (prog : List Insn) (place : ℕ) (jump : Insn) : Type 0 where
  pub from : ℕ
  pub branch : Insn
  pub there : slice_get prog from ≡ Some branch
  pub branches : is_branch (operation_of branch.code) ≡ true
  pub leads : (from + 1 + branch.jt ≡ place) ⊎ (from + 1 + branch.jf ≡ place)
  pub far : from + 1 + MOST_OFFSET < place + 1 + jump.k

-- each jump of a program is needed
pub record JumpsAreNeeded (prog : List Insn) : Type 0 where
  pub each : (place : ℕ) (jump : Insn) → slice_get prog place ≡ Some jump → jump.code ≡ JUMP
      → IsNeeded prog place jump

-- a program has no jump
abbrev pub HasNoJump : List Insn → Type 0
HasNoJump prog = All (λ i. i.code ≢ JUMP) prog

-- a program has no jump, and at most `most` instructions
pub record IsShort (prog : List Insn) (most : ℕ) : Type 0 where
  pub no_jump : HasNoJump prog
  pub short : length prog ≤ most

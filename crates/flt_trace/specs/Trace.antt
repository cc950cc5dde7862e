-- The steps of a run, as a caller sees them; `p` is the captured bytes of a packet, `n` its
-- original length.
use Rattle.std.specs.Prelude.{◌≡◌, ℕ, ◌<◌, ◌≤◌, List, length, slice_get, IsSomeAnd}
use Rattle.flt_bpf.specs.Machine.{Stands, Answered, machine}
use Rattle.flt_bpf.specs.declared.{insn.Insn.Insn, machine.State.State}
use Rattle.flt_trace.specs.declared.walk.Step.{Step}

-- the machine's state that a step shows: its registers and memory
abbrev pub step_state : Step → State
step_state s = record { accumulator = s.accumulator; index = s.index; memory = s.memory }

-- after t instructions the run of a program is at the index and in the state that a step shows
abbrev pub IsAfter : List Insn → List ℕ → ℕ → ℕ → Step → Type 0
IsAfter prog p n t s = machine prog p n t ≡ Stands s.place (step_state s)

-- a run that returns after a count of instructions, as a caller's array shows it: the steps before
-- each instruction, from the first on, as far as there is room, and nothing else
pub record Traces (prog : List Insn) (p : List ℕ) (n : ℕ) (old new : List Step)
    (answer count : ℕ) : Type 0 where
  pub answers : machine prog p n (length prog) ≡ Answered answer count
  pub each : (t : ℕ) → t < count → t < length old → IsSomeAnd (slice_get new t) (IsAfter prog p n t)
  pub others : (t : ℕ) → count ≤ t → slice_get new t ≡ slice_get old t

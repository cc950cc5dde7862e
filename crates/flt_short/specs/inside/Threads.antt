-- Jump threading, as `thread.rt` does it: the targets of tests are moved further on. In a walk a
-- place is an index of the code c that follows the test, k is the state at the start of the walk, h
-- the value of A after the passed instructions, and i an instruction.
use Rattle.std.specs.Prelude.{◌≡◌, ℕ, ◌+◌, ◌<◌, Bool, true, false, ◌&&◌, ◌||◌, not, List, [], ◌∷◌, length, map, Option, Some, None}
use Rattle.flt_bpf.specs.{Answer.answer_of, Check.fault_of, Check.IsFaultless}
use Rattle.flt_bpf.specs.{Instructions.operation_of, Machine.Goes, Machine.step, Machine.test_holds}
use Rattle.flt_bpf.specs.Registers.{reads_accumulator, sets_accumulator}
use Rattle.flt_bpf.specs.declared.{insn.Insn.Insn, machine.State.State}
use Rattle.flt_bpf.specs.declared.operation.{Operation.Operation, Test.Test}
use Rattle.flt_bpf.specs.declared.operation.Operation.TheVariants.{Jump, JumpIf, ReturnConstant}
use Rattle.flt_short.specs.declared.{facts.Held.Held, facts.Known.Known, thread.Spot.Spot}
use Rattle.flt_short.specs.inside.Facts.{HeldHolds, Holds, HoldsAt}

-- the state with another value of A
abbrev pub with_a : State → ℕ → State
with_a s a = record s { accumulator = a }

-- in a run with the state k, in which A is h instead, the test of A and a number has this outcome
abbrev pub IsDecided : Known → Test → ℕ → Held → Bool → Type 0
IsDecided k test number h outcome = (p : List ℕ) (n : ℕ) (s : State) (a : ℕ)
    → Holds p n k s → HeldHolds p n h (with_a s a) → test_holds test a number ≡ outcome

-- in a run with the state k, in which A is h instead, the instruction goes on past `skipped` others
-- and changes only A
abbrev pub Passes : Known → Insn → Held → ℕ → Type 0
Passes k i h skipped = (p : List ℕ) (n : ℕ) (s : State) (a : ℕ)
    → Holds p n k s → HeldHolds p n h (with_a s a)
    → (b : ℕ) × (step i p n (with_a s a) ≡ Goes skipped (with_a s b))

-- `is_free` of code that begins with this operation, by that of the instructions after it
abbrev pub is_free_by : Option Operation → Bool → Bool
is_free_by None rest = false
is_free_by (Some Jump) rest = false
is_free_by (Some (JumpIf test operand)) rest = false
is_free_by (Some ReturnConstant) rest = true
is_free_by (Some op) rest = not (reads_accumulator op) && (sets_accumulator op || rest)

-- whether the value of A doesn't matter before this code: it overwrites A, or ends the run, without
-- reading A
abbrev pub is_free : List Insn → Bool
is_free [] = false
is_free (i ∷ is) = is_free_by (operation_of i.code) (is_free is)

-- if a run that is at the spot of a walk, with that value of A, has the answer of one that goes on
-- at the place `best`, so has one that goes on at the place `found`; A is as at the start there
abbrev pub LeadsTo : Known → List Insn → Spot → ℕ → ℕ → Type 0
LeadsTo k c spot best found = (p : List ℕ) (n : ℕ) (s : State) (a : ℕ)
    → Holds p n k s → HeldHolds p n spot.held (with_a s a)
    → answer_of c p n spot.place (with_a s a) ≡ answer_of c p n best s
    → answer_of c p n found s ≡ answer_of c p n best s

-- a run with the state k may go on at the place `to` instead of `from`
abbrev pub GoesOn : Known → List Insn → ℕ → ℕ → Type 0
GoesOn k c from to = (p : List ℕ) (n : ℕ) (s : State)
    → Holds p n k s → answer_of c p n to s ≡ answer_of c p n from s

-- so it may, and `to` is inside the code if `from` is
pub record Moves (k : Known) (c : List Insn) (from to : ℕ) : Type 0 where
  pub runs : GoesOn k c from to
  pub inside : from < length c → to < length c

-- the code `new`, which begins at the place `from`, has the answers of `old` from each place where
-- what is known is true
abbrev pub Alike : ℕ → List Known → List Insn → List Insn → Type 0
Alike from seen new old = (p : List ℕ) (n m : ℕ) (s : State)
    → HoldsAt p n seen (from + m) s → answer_of new p n m s ≡ answer_of old p n m s

-- `new` is the instruction i, threaded; it is in front of the code `is`, which begins at the place
-- `from`; k is known before it, and after it `seen` instead of `old`
pub record IsThreaded (from : ℕ) (k : Known) (i : Insn) (is : List Insn) (new : Insn) (old seen : List Known) : Type 0 where
  pub code : new.code ≡ i.code
  pub sound : fault_of i (length is) ≡ None → fault_of new (length is) ≡ None
  pub keeps : (p : List ℕ) (n q : ℕ) (s : State) → HoldsAt p n old q s → HoldsAt p n seen q s
  pub runs : (d : List Insn) → Alike from seen d is → (p : List ℕ) (n : ℕ) (s : State)
      → Holds p n k s → answer_of (new ∷ d) p n 0 s ≡ answer_of (i ∷ is) p n 0 s

-- `new` is the code `old`, threaded; both begin at the place `from`, and `seen` is what is known
pub record AreThreaded (from : ℕ) (seen : List Known) (new old : List Insn) : Type 0 where
  pub codes : map (λ i. i.code) new ≡ map (λ i. i.code) old
  pub sound : IsFaultless old → IsFaultless new
  pub runs : Alike from seen new old

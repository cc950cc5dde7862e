-- The run is at the step that the trace shows, and earlier steps stay as they were written.
use Rattle.std.proofs.Common.{◌≡◌, ◌≢◌, ℕ, zero, suc, ◌+◌, ◌-◌, ◌<◌, ◌≤◌, List, length, Some, arith, length-set, below_more, slice_get, slice_set, IsSomeAnd}
use Rattle.flt_trace.proofs.Common.{Insn, State, IsValid, parts}
use Rattle.flt_bpf.specs.Machine.{Next, Goes, Ends, Stands, step, step_if_there, progress_after, run_from, start, machine}
use Rattle.flt_bpf.proofs.Steps.{goes_inside, run_ends, run_goes}
use Rattle.std.proofs.lemmas.{Option.gets, Grind.common_steps}
use Rattle.flt_trace.specs.{Trace.IsAfter, Trace.Traces, declared.walk.Step.Step, inside.Trace.step_at}

-- an instruction that a run is before, and the next one
pub run_more : (prog : List Insn) (p : List ℕ) (n t place count : ℕ) (s : State) (at : ℕ) (s' : State) (i : Insn) (k : ℕ) (s'' : State)
    → run_from prog p n t place s count ≡ Stands at s' → slice_get prog at ≡ Some i → step i p n s' ≡ Goes k s'' → run_from prog p n (suc t) place s
    count ≡ Stands (at + 1 + k) s''
run_more prog p n zero place count s at s' i k s'' here there leads = grind arith
run_more prog p n (suc t) place count s at s' i k s'' here there leads =
    led (λ j s1 e. run_more prog p n t (place + 1 + j) (count + 1) s1 at s' i k s'' e there leads) (step_if_there (slice_get prog place) p n s) here
  where
    Later : Type 0
    Later = (j : ℕ) (s1 : State) → run_from prog p n t (place + 1 + j) s1 (count + 1) ≡ Stands at s' → run_from prog p n (suc t) (place + 1 + j) s1
        (count + 1) ≡ Stands (at + 1 + k) s''

    led : Later → (m : Next) → progress_after (run_from prog p n t) place count m ≡ Stands at s' → progress_after (run_from prog p n (suc t)) place
        count m ≡ Stands (at + 1 + k) s''
    led later m e = grind arith

-- what a write at a place changes
pub get_set_same : {X : Type 0} → (xs : List X) (i : ℕ) (x : X) → i < length xs → slice_get (slice_set xs i x) i ≡ Some x
get_set_same xs i x inside = grind (arith, common_steps, gets)

pub get_set_other : {X : Type 0} → (xs : List X) (i j : ℕ) (x : X) → i ≢ j → slice_get (slice_set xs i x) j ≡ slice_get xs j
get_set_other xs i j x other = grind (arith, common_steps, gets)

-- the steps before a count are written, and nothing else
pub record Written (prog : List Insn) (p : List ℕ) (n : ℕ) (old now : List Step) (count : ℕ) : Type 0 where
  pub room : length now ≡ length old
  pub each : (t : ℕ) → t < count → t < length old → IsSomeAnd (slice_get now t) (IsAfter prog p n t)
  pub others : (t : ℕ) → count ≤ t → slice_get now t ≡ slice_get old t

-- a run is before the instruction at an index, in a state, after a count of them
pub record Standing (prog : List Insn) (p : List ℕ) (n place : ℕ) (s : State) (count : ℕ) : Type 0 where
  pub counted : count ≤ place
  pub inside : place < length prog
  pub here : IsAfter prog p n count (step_at place s)
  pub same : machine prog p n (length prog) ≡ run_from prog p n (length prog - count) place s count

pub written_none : (prog : List Insn) (p : List ℕ) (n : ℕ) (old : List Step) → Written prog p n old old 0
written_none prog p n old = grind arith

-- one more step is written
pub written_more : (prog : List Insn) (p : List ℕ) (n : ℕ) (old now next : List Step) (s : Step) (count : ℕ) → Written prog p n old now count
    → IsAfter prog p n count s → next ≡ slice_set now count s → Written prog p n old next (count + 1)
written_more prog p n old now next s count was here e = grind (arith, length-set, slice_get, below_more, get_set_other, slice_set, get_set_same)

-- the first step
pub standing_first : (prog : List Insn) (p : List ℕ) (n : ℕ) → IsValid prog → Standing prog p n 0 start 0
standing_first prog p n valid = grind (arith, parts)

-- the next step
pub standing_next : (prog : List Insn) (p : List ℕ) (n place : ℕ) (s s' : State) (count k : ℕ) (i : Insn) → IsValid prog → Standing prog p n place s
    count → slice_get prog place ≡ Some i → step i p n s ≡ Goes k s' → Standing prog p n (place + (1 + k)) s' (count + 1)
standing_next prog p n place s s' count k i valid at there leads =
    let below : count < length prog = grind arith in
    let on : place + 1 + k ≡ place + (1 + k) = omega arith in
    grind (arith, goes_inside, run_more, run_goes)

-- the last step
pub standing_last : (prog : List Insn) (p : List ℕ) (n : ℕ) (old now : List Step) (place : ℕ) (s : State) (count a : ℕ) (i : Insn)
    → Standing prog p n place s count → Written prog p n old now (count + 1) → slice_get prog place ≡ Some i → step i p n s ≡ Ends a
    → Traces prog p n old now a (count + 1)
standing_last prog p n old now place s count a i at written there leads = grind (arith, run_ends)

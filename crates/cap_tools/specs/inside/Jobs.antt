-- The invariant of a job, including before its first step, and the results of its steps.
use Rattle.std.specs.Prelude.{ℕ, ◌+◌, ◌≤◌, Option, None, Some, ◌≡◌, Bool, true, false, IsTrue, ◌⊎◌, ◌<◌, List, []}
use Rattle.std.specs.Option.{is_none}
use Rattle.cap_inputs.specs.{Inputs.next_of, declared.inputs.Next.Next}
use Rattle.cap_inputs.specs.inside.Inputs.{most_steps, steps_left}
use Rattle.cap_process.specs.{Selector.HavePrograms, inside.Output.is_text, inside.Selector.HasFewMarks}
use Rattle.cap_tools.specs.Bounds.{IsBounded, most_turns, IsLight, StepReads}
use Rattle.cap_tools.specs.Commands.{PreparesBy, StepKeeps, StepReadsBy, WritesListing, StopsListing}
use Rattle.cap_tools.specs.Jobs.{JobView, JobGives, turn_goes_on, end_status}
use Rattle.cap_tools.specs.{Packets.StepGives, Packets.room_by, Start.Preparing, Start.ReadsFilter, Start.Compiles}
use Rattle.cap_tools.specs.declared.{job.Turn.Turn, step.JobEnd.JobEnd}
use Rattle.cap_tools.specs.inside.Bounds.{HasFewTurns, steps_owed_in_all, IsPaid}
use Rattle.flt_bpf.specs.declared.insn.Insn.{Insn}
use Rattle.cap_octet.specs.Views.{OutputView}

-- a job that made no step
pub record IsFresh (j : JobView) : Type 0 where
  pub turns : j.turns ≡ 0
  pub done : j.done ≡ None
  pub programs : j.programs ≡ []
  pub left : steps_left j.state.inputs < most_steps
  pub upper_bound : steps_owed_in_all j.state.inputs < most_turns j.state.inputs

-- the step that writes a listing ends the job: all of it is written, or the output's device failed
abbrev pub EndsList : List Insn → Bool → JobView → Turn → JobView → Type 0
EndsList insns tells old Turn.More new = ⊥
EndsList insns tells old (Turn.Done status) new =
    WritesListing insns old status new ⊎ StopsListing insns tells old status new

-- a job that still prepares has made no step; a compilation writes a text
abbrev pub HasMadeNoStep : Preparing → JobView → Type 0
HasMadeNoStep (ReadsFilter asked) j = IsFresh j
HasMadeNoStep (Compiles words link) j = IsFresh j × (is_text j.state.output ≡ true)

-- if something is still to be prepared, the job made no step
abbrev pub IsReadyIf : Option Preparing → JobView → Type 0
IsReadyIf None j = Unit {0}
IsReadyIf (Some preparing) j = HasMadeNoStep preparing j

-- the job with this preparation
abbrev pub with_preparing : Option Preparing → JobView → JobView
with_preparing p j = record j { preparing = p }

-- The result of the first step of a job that reads a filter or compiles an expression.
abbrev pub KeepsFirst : JobView → Turn → JobView → Type 0
KeepsFirst old r new = (p : Preparing) → StepKeeps (with_preparing (Some p) old) r new

-- The result of a step, as each clause of `Job::step` states it.
pub record MakesStep (inputs_tell output_tells tells : Bool) (old : JobView) (r : Turn)
    (new : JobView) : Type 0 where
  pub after : (s : ℕ) → old.done ≡ Some s → (r ≡ Turn.Done s) × (new ≡ old)
  pub exact : IsTrue inputs_tell → IsTrue output_tells → old.done ≡ None → old.preparing ≡ None
      → JobGives tells old r new
  pub prepares : PreparesBy old.preparing output_tells tells old r new
  pub keeps : StepKeeps old r new
  pub reads : StepReadsBy old.preparing inputs_tell (turn_goes_on r) old new

-- one step; or two, if the first goes on
pub data MakesSteps (inputs_tell output_tells tells : Bool) (old : JobView) (r : Turn)
    (new : JobView) : Type 0 where
  one_step : MakesStep inputs_tell output_tells tells old r new
      → MakesSteps inputs_tell output_tells tells old r new
  two_steps : (between : JobView) → MakesStep inputs_tell output_tells tells old Turn.More between
      → MakesStep inputs_tell output_tells tells between r new
      → MakesSteps inputs_tell output_tells tells old r new

-- whether the next action is a read
abbrev pub is_read : Next → Bool
is_read (Next.Read input) = true
is_read other = false

-- a step; or nothing, if the next action is a read, or (with `reads` false) if it isn't
pub data MakesStepUnless (reads inputs_tell output_tells tells : Bool) (old : JobView) (r : Turn)
    (new : JobView) : Type 0 where
  makes : MakesStep inputs_tell output_tells tells old r new
      → MakesStepUnless reads inputs_tell output_tells tells old r new
  rests : is_read (next_of old.state.inputs) ≡ reads → r ≡ Turn.More → new ≡ old
      → MakesStepUnless reads inputs_tell output_tells tells old r new

-- the steps that were made and those that remain are at most `most_steps`; after the end there may
-- be one more, and the status is at most 2
abbrev pub IsCounted : Option ℕ → ℕ → ℕ → Type 0
IsCounted None turns left = turns + left ≤ most_steps
IsCounted (Some status) turns left = (turns ≤ most_steps + 1) × (status ≤ 2)

-- the invariant of a job between its steps
abbrev pub IsSound : JobView → Type 0
IsSound j =
    (j.state.decided + steps_left j.state.inputs ≤ most_steps)
    × IsBounded j.state.inputs j.state.output
    × HasFewMarks j.state.policy j.state.state
    × HavePrograms j.state.policy j.programs
    × IsCounted j.done j.turns (steps_left j.state.inputs)
    × HasFewTurns j.done j.turns j.state.inputs
    × IsReadyIf j.preparing j

-- The result of a step. `exact` applies if contracts know the bytes of the inputs and of the
-- output; the other clauses apply to all devices. Messages and the count of steps don't change.
pub record IsStep (inputs_tell output_tells : Bool) (old : JobView) (r : Option JobEnd)
    (new : JobView) : Type 0 where
  pub exact : IsTrue inputs_tell → IsTrue output_tells → StepGives old.state r new.state
  pub reads : StepReads inputs_tell (is_none r) old new
  pub progress : r ≡ None → steps_left new.state.inputs < steps_left old.state.inputs
  pub paid : r ≡ None → IsPaid old.state.inputs new.state.inputs
  pub light : IsLight new.state
  pub sound : HavePrograms new.state.policy new.programs
  pub policy : new.state.policy ≡ old.state.policy
  pub names : new.state.names ≡ old.state.names
  pub room : room_by new.state ≡ room_by old.state
  pub preparing : new.preparing ≡ old.preparing
  pub err : new.err ≡ old.err
  pub turns : new.turns ≡ old.turns
  pub done : r ≡ None → new.done ≡ old.done

-- the job after this end: with these messages, one more step, and the end's status
abbrev pub ending : JobEnd → OutputView → JobView → JobView
ending end err j = record j { err = err; turns = j.turns + 1; done = Some (end_status end) }

-- A job that hadn't ended and had nothing to prepare made a step, which isn't counted or reported
-- yet.
pub record IsUncounted (inputs_tell output_tells : Bool) (old : JobView) (r : Option JobEnd)
    (now : JobView) : Type 0 where
  pub step : IsStep inputs_tell output_tells old r now
  pub prepared : old.preparing ≡ None
  pub undone : old.done ≡ None
  pub sound : IsSound old

-- a step with this result may be counted: there are no more steps than the bounds allow
abbrev pub MayCount : Option JobEnd → JobView → Type 0
MayCount None j =
    (j.done ≡ None)
    × (j.turns + 1 + steps_left j.state.inputs ≤ most_steps)
    × (j.turns + 1 + steps_owed_in_all j.state.inputs ≤ most_turns j.state.inputs)
MayCount (Some end) j = j.turns ≤ most_steps

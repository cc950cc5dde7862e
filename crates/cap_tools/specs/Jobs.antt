-- The view of a whole job, including its messages, and how a job ends.
use Rattle.std.specs.Prelude.{◌≡◌, ℕ, ◌≤◌, Bool, true, false, List, [], length, Option, None, Some}
use Rattle.cap_process.specs.Messages.{fault_message, write_failed_message, IsTold}
use Rattle.cap_process.specs.Output.{Target, target_at}
use Rattle.cap_process.specs.{Reports.name_at, Selector.HavePrograms, Selector.SelectorView, Verdict.initial_state}
use Rattle.cap_octet.specs.Views.{OutputView}
use Rattle.cap_tools.specs.Packets.{JobState, PacketsDecided, GoesOn, StepGives}
use Rattle.cap_tools.specs.{Start.Assignment, Start.Preparing, declared.job.Turn.Turn, declared.step.JobEnd.JobEnd}
use Rattle.cap_inputs.specs.Fresh.{fresh_inputs}
use Rattle.cap_inputs.specs.Inputs.{InputView, InputsView, InputPast, offset_at}
use Rattle.cap_command.specs.Call.{Call}
use Rattle.flt_bpf.specs.Content.{Content}

-- the view of a job
pub record JobView : Type 0 where
  -- the preparation before the first packet; None once it is done
  pub preparing : Option Preparing
  pub state : JobState
  -- the programs that judge packets
  pub programs : List Content
  -- the messages
  pub err : OutputView
  -- the number of steps made
  pub turns : ℕ
  -- the status, if the job has ended
  pub done : Option ℕ

-- the state of a job with these parts
abbrev pub state_at : List (List ℕ) → InputsView → SelectorView → Target → ℕ → JobState
state_at names inputs selector output decided =
    record {
      names = names;
      inputs = inputs;
      policy = selector.policy;
      state = selector.state;
      output = output;
      decided = decided;
    }

-- a job before its first step
abbrev pub first_job : Assignment → Call → JobView
first_job a call = record {
  preparing = a.preparing;
  state = record {
    names = call.names;
    inputs = fresh_inputs a.order call.inputs;
    policy = a.policy;
    state = initial_state;
    output = target_at a.writing call.output.written call.output.failures call.room;
    decided = 0;
  };
  programs = [];
  err = call.messages;
  turns = 0;
  done = None;
}

-- The invariant of a job between its steps: a part of each input is done, its packets are decided,
-- and what they add to the output is written; and the programs are the policy's.
pub record Decided (ss : List InputPast) (before : List ℕ) (j : JobView) : Type 0 where
  pub packets : PacketsDecided ss before j.state
  pub programs : HavePrograms j.state.policy j.programs

-- the message of a job with this end; empty for a clean end
abbrev pub end_message : List (List ℕ) → List InputView → JobEnd → List ℕ
end_message names cursors JobEnd.Complete = []
end_message names cursors (JobEnd.FaultIn input fault) =
    fault_message (name_at names input) (offset_at cursors input) fault
end_message names cursors JobEnd.OutputFailed = write_failed_message (name_at names (length cursors))

-- the status of a job with this end
abbrev pub end_status : JobEnd → ℕ
end_status JobEnd.Complete = 0
end_status other = 1

-- A step ends a job with one of the ends of `JobEnd`, and with that end's message and status. A
-- message that can't be written is lost.
pub record EndsJob (tells : Bool) (old : JobView) (status : ℕ) (new : JobView) : Type 0 where
  pub end : JobEnd
  pub leaves : StepGives old.state (Some end) new.state
  pub exact : IsTold tells old.err
      (end_message old.state.names new.state.inputs.cursors end) new.err
  -- with status 0 nothing is reported
  pub quiet : status ≡ 0 → new.err ≡ old.err
  pub status_is : status ≡ end_status end

-- a job goes on, and its invariant (`Decided`) holds again
pub record StaysDecided {ss : List InputPast} {before : List ℕ} {old : JobView}
    (d : Decided ss before old) (new : JobView) : Type 0 where
  pub goes : GoesOn d.packets new.state
  pub programs : HavePrograms new.state.policy new.programs

-- the result of a step over packets: the job goes on, reports nothing and keeps its invariant; or
-- it ends
abbrev pub JobGives : Bool → JobView → Turn → JobView → Type 0
JobGives tells old Turn.More new =
    (new.err ≡ old.err)
    × ((ss : List InputPast) (before : List ℕ) (d : Decided ss before old) → StaysDecided d new)
JobGives tells old (Turn.Done status) new = EndsJob tells old status new

-- whether the job goes on
abbrev pub turn_goes_on : Turn → Bool
turn_goes_on Turn.More = true
turn_goes_on (Turn.Done status) = false

-- the status of a job that ended is 0, 1 (a fault, a failed write, or no memory) or 2 (a refusal)
abbrev pub IsStatus : Turn → Type 0
IsStatus Turn.More = Unit {0}
IsStatus (Turn.Done status) = status ≤ 2

-- the status after a step, if the job ended
abbrev pub done_by : Turn → Option ℕ
done_by Turn.More = None
done_by (Turn.Done status) = Some status

-- the names of the inputs and then of the output; and the device for messages
pub record MessagesView : Type 0 where
  pub names : List (List ℕ)
  pub device : OutputView

-- The steps of a command's job, including those before the first packet.
use Rattle.std.specs.Prelude.{◌≡◌, ◌⊎◌, ℕ, ◌+◌, ◌<◌, ◌≤◌, Bool, List, Option, None, Some, IsTrue, ◌++◌, length}
use Rattle.cap_octet.specs.{Device.Stops, declared.link.Link.Link}
use Rattle.flt_bpf.specs.{Content.Content, Listing.listing, declared.insn.Insn.Insn}
use Rattle.flt_words.specs.declared.fault.ExprFault.{ExprFault}
use Rattle.cap_filter.specs.Expressions.{IsCompiled, IsTextFault}
use Rattle.cap_filter.specs.FilterRules.{Rule, IsRule, IsWhy, refusal_status}
use Rattle.cap_filter.specs.{Filters.AreNew, Programs.spent_in, declared.filter.Refusal.Refusal}
use Rattle.cap_tools.specs.Bounds.{IsLight, StepReads, most_turns}
use Rattle.cap_tools.specs.Jobs.{JobView, Decided, IsStatus, done_by}
use Rattle.cap_tools.specs.Packets.{room_by, written_by, failures_by}
use Rattle.cap_tools.specs.Start.{FilterAsked, Preparing, ReadsFilter, Compiles}
use Rattle.cap_tools.specs.declared.job.Turn.{Turn}
use Rattle.cap_process.specs.Messages.{IsTold, refusal_message, write_failed_message}
use Rattle.cap_process.specs.{Reports.name_at, Selector.HavePrograms, Verdict.Filter, Verdict.initial_state}
use Rattle.cap_inputs.specs.Inputs.{InputPast, steps_left_in}

-- the job that keeps up to `count` packets by this filter, which these programs implement
abbrev pub filtering : Rule → Option ℕ → List Content → JobView → JobView
filtering rule count programs j = record j {
  preparing = None;
  state = record j.state { policy = Filter rule count; state = initial_state };
  programs = programs;
  turns = j.turns + 1;
  done = None;
}

-- The filter or the expression is refused, or memory for it ran out; nothing is read or written
-- except the message. A message that can't be written is lost.
pub record RefusesStart (refusal : Refusal) (tells : Bool) (old : JobView) (status : ℕ)
    (new : JobView) : Type 0 where
  pub status_is : status ≡ refusal_status refusal
  pub exact : IsTold tells old.err (refusal_message refusal) new.err
  pub new_is : new ≡ record old {
    preparing = None;
    err = new.err;
    turns = old.turns + 1;
    done = Some (refusal_status refusal);
  }

-- a listing is written, and the job ends
pub record WritesListing (insns : List Insn) (old : JobView) (status : ℕ)
    (new : JobView) : Type 0 where
  pub written : written_by new.state ≡ written_by old.state ++ listing insns
  pub failures : failures_by new.state ≡ failures_by old.state
  pub quiet : new.err ≡ old.err
  pub status_is : status ≡ 0

-- the output's device failed after a prefix, but not all, of the listing
pub record StopsListing (insns : List Insn) (tells : Bool) (old : JobView) (status : ℕ)
    (new : JobView) : Type 0 where
  pub stops : Stops (written_by old.state) (listing insns) (written_by new.state)
  pub failures : failures_by new.state ≡ failures_by old.state + 1
  pub exact : IsTold tells old.err
      (write_failed_message (name_at old.state.names (length old.state.inputs.cursors)))
      new.err
  pub status_is : status ≡ 1

-- the filter was read
pub record IsFiltered (asked : FilterAsked) (old new : JobView) : Type 0 where
  pub rule : Rule
  pub is : IsRule asked.words asked.code rule
  pub programs : List Content
  pub made : AreNew rule programs
  pub new_is : new ≡ filtering rule asked.count programs old

-- the filter is refused, or memory for it ran out
pub record RefusesFilter (asked : FilterAsked) (tells : Bool) (old : JobView) (status : ℕ)
    (new : JobView) : Type 0 where
  pub refusal : Refusal
  pub why : IsWhy asked.words asked.code refusal
  pub refuses : RefusesStart refusal tells old status new

-- the first step of a print: its filter is read and the job goes on, or the filter is refused and
-- the job ends
abbrev pub FilterGives : FilterAsked → Bool → JobView → Turn → JobView → Type 0
FilterGives asked tells old Turn.More new = IsFiltered asked old new
FilterGives asked tells old (Turn.Done status) new = RefusesFilter asked tells old status new

-- a listing of some program for the expression is written, or a prefix of it
pub record ListsSome (words : List ℕ) (link : Link) (tells : Bool) (old : JobView) (status : ℕ)
    (new : JobView) : Type 0 where
  pub prog : List Insn
  pub compiled : IsCompiled words link prog
  pub lists : WritesListing prog old status new ⊎ StopsListing prog tells old status new

-- the expression is refused, or memory for it ran out
pub record RefusesExpression (words : List ℕ) (tells : Bool) (old : JobView) (status : ℕ)
    (new : JobView) : Type 0 where
  pub fault : ExprFault
  pub why : IsTextFault words fault
  pub refuses : RefusesStart (Refusal.Expression fault) tells old status new

-- the only step of a compilation: a listing is written, or a prefix of it, or the expression is
-- refused
abbrev pub CompileGives : List ℕ → Link → Bool → JobView → Turn → JobView → Type 0
CompileGives words link tells old Turn.More new = ⊥
CompileGives words link tells old (Turn.Done status) new =
    ListsSome words link tells old status new ⊎ RefusesExpression words tells old status new

-- the result of a step that prepares: for a filter on all devices, for a compilation only if
-- contracts know the bytes of the output; otherwise nothing is stated
abbrev pub PreparesBy : Option Preparing → (output_tells tells : Bool) → JobView → Turn → JobView
    → Type 0
PreparesBy None output_tells tells old r new = Unit {0}
PreparesBy (Some (ReadsFilter asked)) output_tells tells old r new =
    FilterGives asked tells old r new
PreparesBy (Some (Compiles words link)) output_tells tells old r new =
    IsTrue output_tells → CompileGives words link tells old r new

-- the steps that are left before the first packet
abbrev pub preparing_left : Option Preparing → ℕ
preparing_left None = 0
preparing_left (Some preparing) = 1

-- the most remaining steps
abbrev pub job_left : JobView → ℕ
job_left j = preparing_left j.preparing + steps_left_in j.state.inputs.cursors

-- The result of every step of a job, for all devices: nothing remains to be prepared, `done` has
-- the status if the job ended, a step is counted unless the job had ended before, and the memory
-- that the job holds is bounded.
pub record StepKeeps (old : JobView) (r : Turn) (new : JobView) : Type 0 where
  pub prepared : new.preparing ≡ None
  pub done : new.done ≡ done_by r
  pub status : IsStatus r
  pub turns : old.done ≡ None → new.turns ≡ old.turns + 1
  pub upper_bound : old.done ≡ None → new.turns ≤ most_turns old.state.inputs + 1
  pub light : IsLight new.state
  pub sound : HavePrograms new.state.policy new.programs
  pub left : r ≡ Turn.More → job_left new < job_left old
  pub names : new.state.names ≡ old.state.names
  pub room : room_by new.state ≡ room_by old.state
  -- a step that goes on sends no message
  pub quiet : r ≡ Turn.More → new.err ≡ old.err
  -- if there was nothing to prepare, the policy is unchanged; a filter that is read becomes it
  pub policy : old.preparing ≡ None → new.state.policy ≡ old.state.policy

-- A step that prepares reads no input and decides no packet, and no program runs.
pub record PreparesOnly (old new : JobView) : Type 0 where
  pub inputs : new.state.inputs ≡ old.state.inputs
  pub decided : new.state.decided ≡ old.state.decided
  pub unspent : spent_in new.programs ≡ spent_in old.programs

-- the reads of a step: none if it prepares, else those of a step over packets
abbrev pub StepReadsBy : Option Preparing → (tells goes : Bool) → JobView → JobView → Type 0
StepReadsBy None tells goes old new = StepReads tells goes old new
StepReadsBy (Some preparing) tells goes old new = PreparesOnly old new

-- the invariant of a job; before its filter is read, for every rule and programs that this may
-- give; nothing is stated for a compilation
abbrev pub DecidedBy : Option Preparing → List InputPast → List ℕ → JobView → Type 0
DecidedBy None ss before j = Decided ss before j
DecidedBy (Some (ReadsFilter asked)) ss before j =
    (rule : Rule) → IsRule asked.words asked.code rule → (programs : List Content)
    → AreNew rule programs → Decided ss before (filtering rule asked.count programs j)
DecidedBy (Some (Compiles words link)) ss before j = Unit {0}

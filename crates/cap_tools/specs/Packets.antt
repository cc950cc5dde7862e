-- The view of a job's state, its invariant, and the result of a step over packets.
use Rattle.std.specs.List.{slice_get}
use Rattle.std.specs.Prelude.{◌≡◌, ◌⊎◌, ℕ, zero, suc, ◌+◌, ◌≤◌, Bool, false, List, [], ◌∷◌, ◌++◌, map, Option, None, Some, Ok, Err}
use Rattle.cap_octet.specs.{Device.Stops, Packet.Captured}
use Rattle.cap_octet.specs.declared.fault.Fault.{Fault, TheVariants.ReadFailed, TheVariants.NoMemory}
use Rattle.cap_io.specs.Capture.{Placed, Items, kind_of}
use Rattle.cap_io.specs.Position.{IsCutShort, MemoryEndsAt, ReadFailsAt}
use Rattle.cap_io.specs.Sequence.{Event, Packet, InputEnd, SequenceEnd, Complete, FaultIn, InputItems, PacketOrder, InTurn, ByTime, sequence_of, whole_input}
use Rattle.cap_io.specs.Source.{SourceView, Advances}
use Rattle.cap_inputs.specs.Inputs.{InputsView, InputView, InputPast, AreInputsAfter, KnowGreatest, AreSettled, ReadsInput, device_limits, next_of}
use Rattle.cap_inputs.specs.declared.inputs.Next.{Next}
use Rattle.cap_tools.specs.declared.step.JobEnd.{JobEnd}
use Rattle.cap_process.specs.Outcome.{Form, JobProgress, Work, ComeFirst, cut_at, no_progress, apply_events, final_progress, final_text, output_text, closing_text, first_link, packet_bytes, report_bytes, NeedsMemory, IsNextAnswer}
use Rattle.cap_process.specs.Output.{Target, HasWrittenTo, form_to, written_to, failures_to, room_to}
use Rattle.cap_process.specs.{Reports.Report, Selector.IsWithin, Selector.is_count}
use Rattle.cap_process.specs.Verdict.{Policy, SelectorState}

-- the state of a job over its packets, without its programs
pub record JobState : Type 0 where
  -- the names of the inputs, then that of the output
  pub names : List (List ℕ)
  pub inputs : InputsView
  pub policy : Policy
  pub state : SelectorState
  pub output : Target
  -- the number of decided packets
  pub decided : ℕ

-- the form in which a job writes
abbrev pub output_form : JobState → Form
output_form m = form_to m.names m.output

-- the order of a job's packets, the policy that judges them, and the form in which it writes
abbrev pub work_of : JobState → Work
work_of m = record { order = m.inputs.order; policy = m.policy; form = output_form m }

-- the bytes that a job's output has taken
abbrev pub written_by : JobState → List ℕ
written_by m = written_to m.output

-- how often a job's output failed
abbrev pub failures_by : JobState → ℕ
failures_by m = failures_to m.output

-- how many bytes a job's output takes at least before it first fails
abbrev pub room_by : JobState → ℕ
room_by m = room_to m.output

-- the complete inputs, parts of which are done
abbrev pub wholes_of : List InputPast → List InputItems
wholes_of ss = map whole_input (map (λ (s : InputPast). s.text) ss)

-- the progress of the job, with these kept packets and these reports
abbrev pub progress_at : JobState → List Captured → List Report → JobProgress
progress_at m packets reports =
    record {
      decided = m.decided;
      state = m.state;
      packets = packets;
      reports = reports;
      end = None;
    }

-- A part of each input is done: its packets are decided in the job's order, their greatest time is
-- known, and the output has what the kept packets add, or the reports of the inputs that were read
-- to their ends. `Decided` adds the programs that judge packets.
pub record PacketsDecided (ss : List InputPast) (before : List ℕ) (m : JobState) : Type 0 where
  pub following : AreInputsAfter ss m.inputs.cursors
  pub greatest : KnowGreatest ss m.inputs.cursors
  pub events : List Event
  -- the events come first in the order of the complete inputs, whatever follows what was read
  pub first : ComeFirst (sequence_of m.inputs.order (wholes_of ss)) events
  pub come : AreSettled ss m.inputs events
  pub packets : List Captured
  pub reports : List Report
  pub progress : apply_events m.policy (output_form m) no_progress events
      ≡ progress_at m packets reports
  pub output : HasWrittenTo before m.names m.output packets reports
  pub passed : m.state.passed ≤ m.decided
  pub counted : IsWithin m.decided m.state.tally

-- whether an input that was read to its end is reported: if packets are only counted, and the
-- inputs are read one after another
abbrev pub asks_report : PacketOrder → Policy → Bool
asks_report InTurn policy = is_count policy
asks_report ByTime policy = false

-- the inputs, when these bytes of input `i`, with these packets, are done too
abbrev pub finish_at : List InputPast → ℕ → List ℕ → List Placed → List InputPast
finish_at [] i bytes packets = []
finish_at (s ∷ ss) zero bytes packets =
    record { text = s.text; done = s.done ++ bytes; packets = s.packets ++ packets } ∷ ss
finish_at (s ∷ ss) (suc i) bytes packets = s ∷ finish_at ss i bytes packets

-- The bytes that a step adds to the output if the job's progress is `far` before it and `next`
-- after it: none, or those of a kept packet, of an input's report or of a clean end.
pub data OneAnswer (form : Form) (link : Option ℕ) (far next : JobProgress)
    (bytes : List ℕ) : Type 0 where
  nothing : next.packets ≡ far.packets → next.reports ≡ far.reports → bytes ≡ []
      → OneAnswer form link far next bytes
  packet : (p : Captured) → next.packets ≡ far.packets ++ p ∷ [] → next.reports ≡ far.reports
      → bytes ≡ packet_bytes form far.packets p → OneAnswer form link far next bytes
  report : (r : Report) → next.packets ≡ far.packets → next.reports ≡ far.reports ++ r ∷ []
      → bytes ≡ report_bytes form r → OneAnswer form link far next bytes
  closes : next.packets ≡ far.packets → next.reports ≡ far.reports → next.end ≡ Some Complete
      → bytes ≡ closing_text form link far.packets → OneAnswer form link far next bytes

-- A step appends one such piece to the output, or nothing.
pub record AppendsOnce (form : Form) (link : Option ℕ) (far next : JobProgress)
    (old new : Target) : Type 0 where
  pub bytes : List ℕ
  pub appended : written_to new ≡ written_to old ++ bytes
  pub one : OneAnswer form link far next bytes

-- the progress of a job with these decided packets
abbrev pub progress_of : {ss : List InputPast} {before : List ℕ} {m : JobState}
    → PacketsDecided ss before m → JobProgress
progress_of {ss} {before} {m} d = progress_at m d.packets d.reports

-- a job goes on, after it is done with some bytes of one input
pub record GoesOn {ss : List InputPast} {before : List ℕ} {old : JobState}
    (d : PacketsDecided ss before old) (new : JobState) : Type 0 where
  pub input : ℕ
  pub finished : List ℕ
  pub packets : List Placed
  pub past : List InputPast
  pub past_is : past ≡ finish_at ss input finished packets
  pub decided : PacketsDecided past before new
  pub at_most_one : new.decided ≤ old.decided + 1
  pub form : output_form new ≡ output_form old
  pub once : AppendsOnce (output_form old) (first_link (wholes_of ss)) (progress_of d)
      (progress_of decided) old.output new.output
  -- the output's device didn't fail
  pub output : failures_by new ≡ failures_by old
  pub order : new.inputs.order ≡ old.inputs.order
  pub limits : device_limits new.inputs.cursors ≡ device_limits old.inputs.cursors

-- the progress of a job at the end of inputs with these items
abbrev pub progress_over : JobState → List InputItems → JobProgress
progress_over m rs = final_progress m.policy (output_form m) (sequence_of m.inputs.order rs)

-- the output is all that the job writes for inputs with these items, and the job ends like this
pub record CompletesOutput {ss : List InputPast} {before : List ℕ} {old : JobState}
    (rs : List InputItems) (d : PacketsDecided ss before old) (new : JobState)
    (close : SequenceEnd) : Type 0 where
  pub ends : (progress_over old rs).end ≡ Some close
  pub written : written_by new ≡ before
      ++ final_text (output_form old) (first_link rs) (progress_over old rs)
  pub once : AppendsOnce (output_form old) (first_link rs) (progress_of d)
      (progress_over old rs) old.output new.output
  -- the output's device didn't fail
  pub device : failures_by new ≡ failures_by old

-- This input was read on in this step, and its device failed or memory for its next unit ran out:
-- it is cut short there, at the offset of `after`.
pub record EndsByCut {ss : List InputPast} {before : List ℕ} {old : JobState}
    (d : PacketsDecided ss before old) (new : JobState) (input : ℕ) (fault : Fault)
    (after : SourceView) : Type 0 where
  pub past : InputPast
  pub among : slice_get ss input ≡ Some past
  pub held : Items
  pub cut : IsCutShort past.text fault held
  pub cursor : InputView
  pub cursor_is : slice_get old.inputs.cursors input ≡ Some cursor
  pub next : next_of old.inputs ≡ Next.Read input
  pub advances : Advances cursor.source.phase cursor.source (Err fault) after
  pub why :
      ((fault ≡ ReadFailed)
      × ReadFailsAt cursor.source after past.text cut.done cut.rest held.declared)
      ⊎ ((fault ≡ NoMemory) × MemoryEndsAt cut.done cut.rest held.declared)
  pub comes : CompletesOutput (cut_at (wholes_of ss) input held) d new
      (FaultIn input fault after.offset)

-- the event of a step: the current packet of an input, or the clean end of an input that it read
-- on; None at the clean end of all inputs
pub data Meets (old new : InputsView) : Option Event → Type 0 where
  a_packet : (input : ℕ) → (cursor : InputView) → (p : Captured) → next_of old ≡ Next.Decide input
      → slice_get old.cursors input ≡ Some cursor → cursor.source.packet ≡ Some p → new ≡ old
      → Meets old new (Some (Packet input (record { offset = cursor.source.offset; packet = p })))
  an_end : (input : ℕ) → next_of old ≡ Next.Read input → (read : ReadsInput old input (Ok false) new)
      → Meets old new (Some (InputEnd input (kind_of read.source.declared) read.source.offset))
  all_ends : next_of old ≡ Next.Finish → new ≡ old → Meets old new None

-- Memory to write the current packet of this input ran out. The packet is next in the order, and
-- its unit is at the offset of `after`. The output is unchanged.
pub record WantsMemory {ss : List InputPast} {before : List ℕ} {old : JobState}
    (d : PacketsDecided ss before old) (new : JobState) (input : ℕ) (fault : Fault)
    (after : SourceView) : Type 0 where
  pub packet : Placed
  pub met : Meets old.inputs new.inputs (Some (Packet input packet))
  pub needs : NeedsMemory (work_of old) (wholes_of ss) d.events input packet
  pub place : after.offset ≡ packet.offset
  pub why : fault ≡ NoMemory
  pub written : written_by new ≡ written_by old
  pub device : failures_by new ≡ failures_by old

-- The output's device failed in this step, after a prefix of the bytes that come next in the
-- complete output.
pub record StopsWriting {ss : List InputPast} {before : List ℕ} {old : JobState}
    (d : PacketsDecided ss before old) (new : JobState) : Type 0 where
  pub failures : failures_by new ≡ failures_by old + 1
  pub event : Option Event
  pub met : Meets old.inputs new.inputs event
  pub bytes : List ℕ
  pub answer : IsNextAnswer (work_of old) (wholes_of ss) d.events event bytes
  pub back : List ℕ
  pub whole : final_text (output_form old) (first_link (wholes_of ss))
      (progress_over old (wholes_of ss)) ≡ output_text (output_form old) d.packets d.reports
      ++ (bytes ++ back)
  pub so_far : written_by old ≡ before ++ output_text (output_form old) d.packets d.reports
  pub stops : Stops (written_by old) bytes (written_by new)

-- the inputs end like this, or the current packet is refused; or the input is cut short; or memory
-- ran out
abbrev pub WhyBroken : {ss : List InputPast} {before : List ℕ} {old : JobState}
    → PacketsDecided ss before old → JobState → ℕ → Fault → SourceView → Type 0
WhyBroken {ss} {before} {old} d new input fault after =
    CompletesOutput (wholes_of ss) d new (FaultIn input fault after.offset)
    ⊎ EndsByCut d new input fault after ⊎ WantsMemory d new input fault after

-- the job ends with a fault in this input
pub record BreaksAt {ss : List InputPast} {before : List ℕ} {old : JobState}
    (d : PacketsDecided ss before old) (new : JobState) (input : ℕ)
    (fault : Fault) : Type 0 where
  pub cursor : InputView
  pub among : slice_get new.inputs.cursors input ≡ Some cursor
  pub why : WhyBroken d new input fault cursor.source

-- the result of a step that ends the job like this
abbrev pub EndLeaves : {ss : List InputPast} {before : List ℕ} {old : JobState}
    → PacketsDecided ss before old → JobEnd → JobState → Type 0
EndLeaves {ss} {before} {old} d JobEnd.Complete new = CompletesOutput (wholes_of ss) d new Complete
EndLeaves {ss} {before} {old} d (JobEnd.FaultIn input fault) new = BreaksAt d new input fault
EndLeaves {ss} {before} {old} d JobEnd.OutputFailed new = StopsWriting d new

-- the result of a step, by the decided packets before it: the job goes on, or ends
abbrev pub StepLeaves : {ss : List InputPast} {before : List ℕ} {old : JobState}
    → PacketsDecided ss before old → Option JobEnd → JobState → Type 0
StepLeaves {ss} {before} {old} d None new = GoesOn d new
StepLeaves {ss} {before} {old} d (Some e) new = EndLeaves d e new

-- the result of a step, for any decided packets before it
abbrev pub StepGives : JobState → Option JobEnd → JobState → Type 0
StepGives old r new =
    (ss : List InputPast) (before : List ℕ) (d : PacketsDecided ss before old) → StepLeaves d r new

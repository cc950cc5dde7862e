-- The outcome of a job on its packets: the output, the message and the status.
use Rattle.std.specs.{List.flat_map, Option.option_or}
use Rattle.std.specs.Prelude.{◌≡◌, ℕ, zero, suc, ◌+◌, List, [], ◌∷◌, ◌++◌, Option, None, Some, Bool, true, false}
use Rattle.cap_octet.specs.{Packet.Captured, declared.fault.Fault.Fault, declared.format.Format.Format}
use Rattle.cap_io.specs.Capture.{Placed, Items, first_link_of}
use Rattle.cap_io.specs.Sequence.{Event, Packet, InputEnd, SequenceEnd, Complete, FaultIn, Sequence, InputItems, PacketOrder, sequence_of, with_front}
use Rattle.cap_io.specs.Sink.{link_or_ethernet}
use Rattle.cap_io.specs.Text.{takes_memory, added_text, file_start, text, refusal_of}
use Rattle.cap_io.specs.declared.source.Kind.{Kind}
use Rattle.cap_print.specs.{Rendering.printed_text, declared.print.Options.Options}
use Rattle.cap_process.specs.Messages.{fault_message}
use Rattle.cap_process.specs.Reports.{Report, nothing_counted, report_text, reports_text, name_at}
use Rattle.cap_process.specs.Verdict.{Policy, Count, SelectorState, initial_state, Verdict, Pass, PassLast, PassesAs, Skip, Refuse, judge}

-- ---- forms of output

-- the form in which packets and reports are written
pub data Form : Type 0 where
  AsCapture : (format : Format) → Form
  -- each report, by the names of the inputs
  AsReports : (names : List (List ℕ)) → Form
  -- a line for each packet, and its bytes if they are asked for
  AsLines : (options : Options) → Form

-- why a packet after these is refused when it must be written; only a capture refuses any
abbrev pub form_refuses : Form → List Captured → Captured → Option Fault
form_refuses (AsCapture format) ps p = refusal_of format ps p
form_refuses form ps p = None

-- whether memory is needed to write a packet after these: for an interface that is new in a pcapng
-- file
abbrev pub form_takes_memory : Form → List Captured → Captured → Bool
form_takes_memory (AsCapture format) ps p = takes_memory format ps p
form_takes_memory form ps p = false

-- ---- the fold

-- The progress of a job: the number of decided packets, the state of its selector, the kept
-- packets, the reports, and its end, if it has ended.
pub record JobProgress : Type 0 where
  pub decided : ℕ
  pub state : SelectorState
  pub packets : List Captured
  pub reports : List Report
  pub end : Option SequenceEnd

-- a job before its first event
abbrev pub no_progress : JobProgress
no_progress = record { decided = 0; state = initial_state; packets = []; reports = []; end = None }

-- one packet is decided
abbrev pub decide : JobProgress → SelectorState → List Captured → Option SequenceEnd → JobProgress
decide w state new end =
    record w { decided = w.decided + 1; state = state; packets = w.packets ++ new; end = end }

-- the job ends at a packet, which isn't decided
abbrev pub end_with : JobProgress → SequenceEnd → JobProgress
end_with w close = record w { end = Some close }

-- the progress after a packet that is kept: `decided`, unless the form refuses the packet; then the
-- job ends at it with this fault
abbrev pub unless_refused : Option Fault → JobProgress → ℕ → Placed → (decided : JobProgress)
    → JobProgress
unless_refused None w input p decided = decided
unless_refused (Some fault) w input p decided = end_with w (FaultIn input fault p.offset)

-- the progress after the verdict on a packet of this input
abbrev pub apply_verdict : Form → JobProgress → ℕ → Placed → Verdict → SelectorState → JobProgress
apply_verdict form w input p (Pass q) state =
    unless_refused (form_refuses form w.packets q) w input p (decide w state (q ∷ []) None)
apply_verdict form w input p (PassLast q) state =
    unless_refused (form_refuses form w.packets q) w input p
    (decide w state (q ∷ []) (Some Complete))
apply_verdict form w input p Skip state = decide w state [] None
apply_verdict form w input p (Refuse fault) state = end_with w (FaultIn input fault p.offset)

-- an input that was read to its end is reported, if reports are asked for, and the tally starts
-- again
abbrev pub end_input : Policy → JobProgress → ℕ → Option Kind → ℕ → JobProgress
end_input Count w input kind size = record w {
  state = record w.state { tally = nothing_counted };
  reports =
      w.reports ++ record { input = input; kind = kind; size = size; tally = w.state.tally } ∷ [];
}
end_input policy w input kind size = w

-- the progress of a job that hasn't ended, after an event
abbrev pub apply_event : Policy → Form → JobProgress → Event → JobProgress
apply_event policy form w (Packet input p) =
    apply_verdict form w input p (judge policy w.state (w.decided + 1) p.packet).verdict
    (judge policy w.state (w.decided + 1) p.packet).state
apply_event policy form w (InputEnd input kind size) = end_input policy w input kind size

-- the progress of a job that ended doesn't change
abbrev pub unless_ended : Option SequenceEnd → JobProgress → JobProgress → JobProgress
unless_ended None w next = next
unless_ended (Some close) w next = w

-- the progress after an event
abbrev pub next_progress : Policy → Form → JobProgress → Event → JobProgress
next_progress policy form w e = unless_ended w.end w (apply_event policy form w e)

-- the progress after these events, in turn
abbrev pub apply_events : Policy → Form → JobProgress → List Event → JobProgress
apply_events policy form w [] = w
apply_events policy form w (e ∷ es) = apply_events policy form (next_progress policy form w e) es

-- the job ends like this, unless it had ended before
abbrev pub end_unless_ended : JobProgress → SequenceEnd → JobProgress
end_unless_ended w close = unless_ended w.end w (end_with w close)

-- the progress at the end of a whole sequence
abbrev pub final_progress : Policy → Form → Sequence → JobProgress
final_progress policy form s =
    end_unless_ended (apply_events policy form no_progress s.events) s.end

-- ---- outcomes

-- the lines printed for packets, one after another
abbrev pub lines_text : Options → List Captured → List ℕ
lines_text options ps = flat_map (printed_text options) ps

-- the bytes for packets and reports
abbrev pub output_text : Form → List Captured → List Report → List ℕ
output_text (AsCapture format) ps rs = text format ps
output_text (AsReports names) ps rs = reports_text names rs
output_text (AsLines options) ps rs = lines_text options ps

-- the bytes that a kept packet adds after those before it
abbrev pub packet_bytes : Form → List Captured → Captured → List ℕ
packet_bytes (AsCapture format) ps p = added_text format ps p
packet_bytes (AsReports names) ps p = []
packet_bytes (AsLines options) ps p = printed_text options p

-- the bytes that a report adds
abbrev pub report_bytes : Form → Report → List ℕ
report_bytes (AsReports names) r = report_text names r
report_bytes form r = []

-- the first link type that the inputs declare, in their order
abbrev pub first_link : List InputItems → Option ℕ
first_link [] = None
first_link (r ∷ rs) = option_or (first_link_of r.items.declared) (first_link rs)

-- the bytes that a clean end adds: a capture without packets gets its file header or section header
abbrev pub closing_text : Form → Option ℕ → List Captured → List ℕ
closing_text (AsCapture format) link [] = file_start format (link_or_ethernet link)
closing_text form link ps = []

-- The bytes that the end adds: none after a fault, so if no packet was kept then, the output has no
-- file header.
abbrev pub text_at_end : Option SequenceEnd → Form → Option ℕ → List Captured → List ℕ
text_at_end (Some Complete) form link ps = closing_text form link ps
text_at_end end form link ps = []

-- all bytes that a job writes: its packets or reports, and what its end adds
abbrev pub final_text : Form → Option ℕ → JobProgress → List ℕ
final_text form link w =
    output_text form w.packets w.reports ++ text_at_end w.end form link w.packets

-- the message at the end of a job; empty for a clean end
abbrev pub message : List (List ℕ) → Option SequenceEnd → List ℕ
message names (Some (FaultIn input fault offset)) = fault_message (name_at names input) offset fault
message names end = []

-- 1 if a job ended with a fault, else 0
abbrev pub status : Option SequenceEnd → ℕ
status (Some (FaultIn input fault offset)) = 1
status end = 0

-- the bytes of the output and of the messages, and the status
pub record Outcome : Type 0 where
  pub output : List ℕ
  pub messages : List ℕ
  pub status : ℕ

-- the work of a job whose filter isn't refused
pub record Work : Type 0 where
  pub order : PacketOrder
  pub policy : Policy
  pub form : Form

-- the outcome of a job that ended with this progress
abbrev pub outcome_at : Work → List (List ℕ) → List InputItems → JobProgress → Outcome
outcome_at work names rs w = record {
  output = final_text work.form (first_link rs) w;
  messages = message names w.end;
  status = status w.end;
}

-- the outcome of a job whose inputs have these items
abbrev pub outcome : Work → List (List ℕ) → List InputItems → Outcome
outcome work names rs =
    outcome_at work names rs (final_progress work.policy work.form (sequence_of work.order rs))

-- the items of the inputs, with these for one of them
abbrev pub cut_at : List InputItems → ℕ → Items → List InputItems
cut_at [] i items = []
cut_at (r ∷ rs) zero items = record r { items = items } ∷ rs
cut_at (r ∷ rs) (suc i) items = r ∷ cut_at rs i items

-- ---- the next event

-- these events are a prefix of an order
pub record ComeFirst (order : Sequence) (es : List Event) : Type 0 where
  pub later : Sequence
  pub is : order ≡ with_front es later

-- the progress of a job with this work after these events
abbrev pub job_progress_after : Work → List Event → JobProgress
job_progress_after work es = apply_events work.policy work.form no_progress es

-- the output of a job with this progress, without what its end adds
abbrev pub text_of_progress : Form → JobProgress → List ℕ
text_of_progress form w = output_text form w.packets w.reports

-- the output after these events
abbrev pub text_after : Work → List Event → List ℕ
text_after work es = text_of_progress work.form (job_progress_after work es)

-- These events are a prefix of the job's order over inputs with these items, and the job hasn't
-- ended with them; this event is next.
pub record IsNextEvent (work : Work) (rs : List InputItems) (es : List Event)
    (e : Event) : Type 0 where
  pub later : List Event
  pub is : (sequence_of work.order rs).events ≡ es ++ e ∷ later
  pub goes : (job_progress_after work es).end ≡ None

-- These events are all events of the job's order over inputs with these items, and the job didn't
-- end with them, but at the end of its inputs.
pub record AreAllEvents (work : Work) (rs : List InputItems) (es : List Event) : Type 0 where
  pub is : sequence_of work.order rs ≡ record { events = es; end = Complete }
  pub goes : (job_progress_after work es).end ≡ None

-- The bytes that are added after these events: by the next event if there is one, else by a clean
-- end.
abbrev pub IsNextAnswer : Work → List InputItems → List Event → Option Event → List ℕ → Type 0
IsNextAnswer work rs es (Some e) bytes =
    IsNextEvent work rs es e × (text_after work (es ++ e ∷ []) ≡ text_after work es ++ bytes)
IsNextAnswer work rs es None bytes =
    AreAllEvents work rs es
    × (bytes ≡ closing_text work.form (first_link rs) (job_progress_after work es).packets)

-- The next packet after these events is kept, isn't refused, and needs memory to be written.
pub record NeedsMemory (work : Work) (rs : List InputItems) (es : List Event) (input : ℕ)
    (packet : Placed) : Type 0 where
  pub next : IsNextEvent work rs es (Packet input packet)
  pub kept : Captured
  pub passes : PassesAs (judge work.policy (job_progress_after work es).state
      ((job_progress_after work es).decided + 1) packet.packet).verdict kept
  pub taken : form_refuses work.form (job_progress_after work es).packets kept ≡ None
  pub takes : form_takes_memory work.form (job_progress_after work es).packets kept ≡ true

-- The next action, as a step finds it, is that of the job's order.
use Rattle.cap_tools.proofs.Common.{IsNextEvent, ap₂, append_assoc, append-nil, Stops, text, added_text, packets_text, text-more, lines_text, lines-more}
use Rattle.cap_tools.proofs.Common.{report_text, reports_text, reports-more, Report, Sequence, sequence_of, no_progress, apply_events, end_with, final_text}
use Rattle.cap_tools.proofs.Common.{output_text, Grows, course-grows, course-close, drained-text, StopsWriting, progress_over, failures_by, written_by, ◌≡◌, ℕ}
use Rattle.cap_tools.proofs.Common.{◌+◌, true, List, [], ◌∷◌, ◌++◌, Option, None, Some, refl, sym, ◌∙◌, ap, Captured, Fault, Kind, Placed, Event, Packet}
use Rattle.cap_tools.proofs.Common.{InputEnd, Complete, PacketOrder, InTurn, ByTime, InputPast, Policy, Edit, Filter, KeepAll, Count, SelectorState, Verdict}
use Rattle.cap_tools.proofs.Common.{Pass, PassLast, PassesAs, Skip, Refuse, judge, Form, JobProgress, IsNextAnswer, apply_event, apply_verdict, closing_text}
use Rattle.cap_tools.proofs.Common.{decide, unless_refused, end_input, first_link, form_refuses, packet_bytes, report_bytes, text_of_progress, progress-next}
use Rattle.cap_tools.proofs.Common.{JobState, Meets, PacketsDecided, asks_report, output_form, progress_of, wholes_of, work_of, Target, HasWrittenTo, form_to}
use Rattle.cap_tools.proofs.Common.{written_to, AppendsOnce, nothing, packet, report, closes, lines-one}
use Rattle.cap_process.specs.Outcome.{AsCapture, AsReports, AsLines, text_at_end}
use Rattle.cap_print.specs.Rendering.{printed_text}

pub once-nothing : (form : Form) (link : Option ℕ) (far next : JobProgress) (old new : Target) → next.packets ≡ far.packets
    → next.reports ≡ far.reports → written_to new ≡ written_to old → AppendsOnce form link far next old new
once-nothing form link far next old new packets reports same = record {
  bytes = [];
  appended = same ∙ sym (append-nil (written_to old));
  one = nothing packets reports refl;
}

-- what is written after the text of these packets and reports is appended
appended : (before : List ℕ) (names : List (List ℕ)) (old new : Target) (ps : List Captured) (rs : List Report) (bytes : List ℕ)
    → HasWrittenTo before names old ps rs
    → written_to new ≡ before ++ (output_text (form_to names old) ps rs ++ bytes) → written_to new ≡ written_to old ++ bytes
appended before names old new ps rs bytes has is =
    is ∙ sym (append_assoc before (output_text (form_to names old) ps rs) bytes) ∙ ap (λ (l : List ℕ). l ++ bytes)
    (sym (drained-text before names old ps rs has))

-- ---- a packet more, and a report more

pub packet-more : (form : Form) (ps : List Captured) (q : Captured) (rs : List Report) → output_text form (ps ++ q ∷ []) rs ≡ output_text form ps rs
    ++ packet_bytes form ps q
packet-more (AsCapture format) ps q rs = text-more format ps q [] ∙ ap (λ (l : List ℕ). text format ps ++ l) (append-nil (added_text format ps q))
packet-more (AsReports names) ps q rs = sym (append-nil (reports_text names rs))
packet-more (AsLines options) ps q rs = lines-one options ps q

pub report-more : (form : Form) (ps : List Captured) (rs : List Report) (r : Report) → output_text form ps (rs ++ r ∷ []) ≡ output_text form ps rs
    ++ report_bytes form r
report-more (AsCapture format) ps rs r = sym (append-nil (text format ps))
report-more (AsReports names) ps rs r =
    ap (reports_text names) (sym (append-nil (rs ++ r ∷ [])))
    ∙ reports-more names rs r []
    ∙ ap (λ (l : List ℕ). reports_text names rs ++ l) (append-nil (report_text names r))
report-more (AsLines options) ps rs r = sym (append-nil (output_text (AsLines options) ps rs))

pub once-packet : (link : Option ℕ) (before : List ℕ) (far next : JobProgress) (names : List (List ℕ)) (old new : Target) (q : Captured)
    → HasWrittenTo before names old far.packets far.reports → HasWrittenTo before names new (far.packets ++ q ∷ []) far.reports
    → form_to names new ≡ form_to names old
    → next.packets ≡ far.packets ++ q ∷ [] → next.reports ≡ far.reports → AppendsOnce (form_to names old) link far next old new
once-packet link before far next names old new q has after same packets reports = record {
  bytes = packet_bytes (form_to names old) far.packets q;
  appended = appended before names old new far.packets far.reports (packet_bytes (form_to names old) far.packets q) has
      (drained-text before names new (far.packets ++ q ∷ []) far.reports after
      ∙ ap (λ (f : Form). before ++ output_text f (far.packets ++ q ∷ []) far.reports) same
      ∙ ap (λ (l : List ℕ). before ++ l) (packet-more (form_to names old) far.packets q far.reports));
  one = packet q packets reports refl;
}

pub once-report : (link : Option ℕ) (before : List ℕ) (far next : JobProgress) (names : List (List ℕ)) (old new : Target) (r : Report)
    → HasWrittenTo before names old far.packets far.reports → HasWrittenTo before names new far.packets (far.reports ++ r ∷ [])
    → form_to names new ≡ form_to names old
    → next.packets ≡ far.packets → next.reports ≡ far.reports ++ r ∷ [] → AppendsOnce (form_to names old) link far next old new
once-report link before far next names old new r has after same packets reports = record {
  bytes = report_bytes (form_to names old) r;
  appended = appended before names old new far.packets far.reports (report_bytes (form_to names old) r) has
      (drained-text before names new far.packets (far.reports ++ r ∷ []) after
      ∙ ap (λ (f : Form). before ++ output_text f far.packets (far.reports ++ r ∷ [])) same
      ∙ ap (λ (l : List ℕ). before ++ l) (report-more (form_to names old) far.packets far.reports r));
  one = report r packets reports refl;
}

-- a clean end
pub once-closing : (link : Option ℕ) (before : List ℕ) (far next : JobProgress) (names : List (List ℕ)) (old new : Target) → HasWrittenTo before names
    old far.packets far.reports
    → written_to new ≡ before ++ (output_text (form_to names old) far.packets far.reports ++ closing_text (form_to names old) link far.packets)
    → next.packets ≡ far.packets → next.reports ≡ far.reports → next.end ≡ Some Complete → AppendsOnce (form_to names old) link far next old new
once-closing link before far next names old new has is packets reports ends = record {
  bytes = closing_text (form_to names old) link far.packets;
  appended = appended before names old new far.packets far.reports (closing_text (form_to names old) link far.packets) has is;
  one = closes packets reports ends refl;
}

-- ---- the bytes that the next event adds

-- a packet that is kept
passes-adds : (form : Form) (w : JobProgress) (i : ℕ) (x : Placed) (v : Verdict) (state : SelectorState) (q : Captured) → PassesAs v q
    → form_refuses form w.packets q ≡ None
    → text_of_progress form (apply_verdict form w i x v state) ≡ text_of_progress form w ++ packet_bytes form w.packets q
passes-adds form w i x (Pass p) state q is taken =
    rw is (ap (λ (o : Option Fault). text_of_progress form (unless_refused o w i x (decide w state (q ∷ []) None))) taken ∙ packet-more form w.packets
    q w.reports)
passes-adds form w i x (PassLast p) state q is taken =
    rw is (ap (λ (o : Option Fault). text_of_progress form (unless_refused o w i x (decide w state (q ∷ []) (Some Complete)))) taken
    ∙ packet-more form w.packets q w.reports)
passes-adds form w i x Skip state q is taken = absurd is
passes-adds form w i x (Refuse fault) state q is taken = absurd is

-- a report
report-adds : (order : PacketOrder) (policy : Policy) (form : Form) (w : JobProgress) (i : ℕ) (kind : Option Kind) (size : ℕ) → asks_report order policy ≡ true
    → text_of_progress form (end_input policy w i kind size) ≡ text_of_progress form w
    ++ report_bytes form (record { input = i; kind = kind; size = size; tally = w.state.tally })
report-adds ByTime policy form w i kind size asks = (cc)
report-adds InTurn Count form w i kind size asks = report-more form w.packets w.reports (record { input = i; kind = kind; size = size; tally = w.state.tally })
report-adds InTurn (Edit s) form w i kind size asks = (cc)
report-adds InTurn (Filter rule count) form w i kind size asks = (cc)
report-adds InTurn KeepAll form w i kind size asks = (cc)

-- ---- what is next

next-adds : (ss : List InputPast) (before : List ℕ) (old : JobState) (bytes : List ℕ) (d : PacketsDecided ss before old) (e : Event)
    → IsNextEvent (work_of old) (wholes_of ss) d.events e
    → text_of_progress (output_form old) (apply_event old.policy (output_form old) (progress_of d) e) ≡ text_of_progress (output_form old)
    (progress_of d) ++ bytes → IsNextAnswer (work_of old) (wholes_of ss) d.events (Some e) bytes
next-adds ss before old bytes d e comes adds =
    let form : Form = output_form old in
    let w : JobProgress = progress_of d in (
      comes,
      ap (text_of_progress form) (progress-next old.policy form d.events e w (apply_event old.policy form w e) d.progress refl)
          ∙ adds
          ∙ ap (λ (v : JobProgress). text_of_progress form v ++ bytes) (sym d.progress),
    )

-- a packet that is kept and written
pub packet-answer : (ss : List InputPast) (before : List ℕ) (old : JobState) (d : PacketsDecided ss before old) (i : ℕ) (x : Placed) (q : Captured)
    → IsNextEvent (work_of old) (wholes_of ss) d.events (Packet i x) → PassesAs (judge old.policy old.state (old.decided + 1) x.packet).verdict q
    → form_refuses (output_form old) d.packets q ≡ None → IsNextAnswer (work_of old) (wholes_of ss) d.events (Some (Packet i x))
    (packet_bytes (output_form old) d.packets q)
packet-answer ss before old d i x q comes passes taken =
    let j = judge old.policy old.state (old.decided + 1) x.packet in
    next-adds ss before old (packet_bytes (output_form old) d.packets q) d (Packet i x) comes
    (passes-adds (output_form old) (progress_of d) i x j.verdict j.state q passes taken)

-- the report of an input
pub report-answer : (ss : List InputPast) (before : List ℕ) (old : JobState) (d : PacketsDecided ss before old) (i : ℕ) (kind : Option Kind)
    (size : ℕ) → IsNextEvent (work_of old) (wholes_of ss) d.events (InputEnd i kind size) → asks_report old.inputs.order old.policy ≡ true
    → IsNextAnswer (work_of old) (wholes_of ss) d.events (Some (InputEnd i kind size))
    (report_bytes (output_form old) (record { input = i; kind = kind; size = size; tally = old.state.tally }))
report-answer ss before old d i kind size comes asks =
    next-adds ss before old (report_bytes (output_form old) (record { input = i; kind = kind; size = size; tally = old.state.tally })) d
    (InputEnd i kind size) comes (report-adds old.inputs.order old.policy (output_form old) (progress_of d) i kind size asks)

-- ---- the output's device failed at it

-- what follows the text of these packets and reports
record Added (form : Form) (ps qs : List Captured) (rs ts : List Report) : Type 0 where
  tail : List ℕ
  is : output_text form (ps ++ qs) (rs ++ ts) ≡ output_text form ps rs ++ tail

added : (form : Form) (ps qs : List Captured) (rs ts : List Report) → Added form ps qs rs ts
added (AsCapture format) ps [] rs ts = record { tail = []; is = ap (text format) (append-nil ps) ∙ sym (append-nil (text format ps)) }
added (AsCapture format) ps (q ∷ qs) rs ts = record { tail = added_text format ps q ++ packets_text format (ps ++ q ∷ []) qs; is = text-more format ps q qs }
added (AsReports names) ps qs rs [] = record { tail = []; is = ap (reports_text names) (append-nil rs) ∙ sym (append-nil (reports_text names rs)) }
added (AsReports names) ps qs rs (t ∷ ts) = record {
  tail = report_text names t ++ reports_text names ts;
  is =
      ap (reports_text names) (sym (append_assoc rs (t ∷ []) ts)) ∙ reports-more names rs t ts;
}
added (AsLines options) ps [] rs ts = record { tail = []; is = ap (lines_text options) (append-nil ps) ∙ sym (append-nil (lines_text options ps)) }
added (AsLines options) ps (q ∷ qs) rs ts = record {
  tail = printed_text options q ++ lines_text options qs;
  is =
      ap (lines_text options) (sym (append_assoc ps (q ∷ []) qs)) ∙ lines-more options ps q qs;
}

-- the progress of the job after all events
pub all-course : (ss : List InputPast) (before : List ℕ) (old : JobState) (d : PacketsDecided ss before old) → sequence_of old.inputs.order
    (wholes_of ss) ≡ record { events = d.events; end = Complete } → progress_over old (wholes_of ss) ≡ end_with (progress_of d) Complete
all-course ss before old d is =
    course-close old.policy (output_form old) (sequence_of old.inputs.order (wholes_of ss)) d.events (progress_of d) Complete
    (is ∙ ap (λ (l : List Event). record { events = l; end = Complete }) (sym (append-nil d.events))) d.progress refl

-- the next bytes, as part of the complete output
record InWhole {ss : List InputPast} {before : List ℕ} {old : JobState} (d : PacketsDecided ss before old) (bytes : List ℕ) : Type 0 where
  back : List ℕ
  is : final_text (output_form old) (first_link (wholes_of ss)) (progress_over old (wholes_of ss)) ≡ output_text (output_form old) d.packets d.reports
      ++ (bytes ++ back)

in-whole : (ss : List InputPast) (before : List ℕ) (old : JobState) (bytes : List ℕ) (d : PacketsDecided ss before old) (event : Option Event)
    → IsNextAnswer (work_of old) (wholes_of ss) d.events event bytes → InWhole d bytes
in-whole ss before old bytes d (Some e) answer =
    let form : Form = output_form old in
    let s : Sequence = sequence_of old.inputs.order (wholes_of ss) in
    let w : JobProgress = apply_events old.policy form no_progress (d.events ++ e ∷ []) in
    let all : JobProgress = progress_over old (wholes_of ss) in
    let grows : Grows w all = course-grows old.policy form s (record { events = answer.0.later; end = s.end }) (d.events ++ e ∷ []) w
    (ap (λ (l : List Event). record { events = l; end = s.end }) (answer.0.is ∙ sym (append_assoc d.events (e ∷ []) answer.0.later))) refl in
    let more : Added form w.packets grows.packets w.reports grows.reports = added form w.packets grows.packets w.reports grows.reports in
    let so_far : List ℕ = output_text form d.packets d.reports in
    let closes : List ℕ = text_at_end all.end form (first_link (wholes_of ss)) all.packets in
    record {
      back = more.tail ++ closes;
      is =
          ap (λ (l : List ℕ). l ++ closes)
          (ap₂ (output_text form) grows.packets_is grows.reports_is ∙ more.is
          ∙ ap (λ (l : List ℕ). l ++ more.tail) (answer.1 ∙ ap (λ (v : JobProgress). text_of_progress form v ++ bytes) d.progress)
          ∙ append_assoc so_far bytes more.tail)
          ∙ append_assoc so_far (bytes ++ more.tail) closes
          ∙ ap (λ (l : List ℕ). so_far ++ l) (append_assoc bytes more.tail closes);
    }
in-whole ss before old bytes d None answer =
    let form : Form = output_form old in
    let link : Option ℕ = first_link (wholes_of ss) in
    record {
      back = [];
      is = ap (final_text form link) (all-course ss before old d answer.0.is)
          ∙ ap (λ (l : List ℕ). output_text form d.packets d.reports ++ l)
          (ap (λ (v : JobProgress). closing_text form link v.packets) (sym d.progress) ∙ sym answer.1 ∙ sym (append-nil bytes));
    }

pub stops-at : (ss : List InputPast) (before : List ℕ) (old new : JobState) (bytes : List ℕ) (d : PacketsDecided ss before old) (event : Option Event)
    → Meets old.inputs new.inputs event → IsNextAnswer (work_of old) (wholes_of ss) d.events event bytes → Stops (written_by old) bytes
    (written_by new) → failures_by new ≡ failures_by old + 1 → StopsWriting d new
stops-at ss before old new bytes d event met answer stops failures =
    let all = in-whole ss before old bytes d event answer in
    record {
      failures = failures;
      event = event;
      met = met;
      bytes = bytes;
      answer = answer;
      back = all.back;
      whole = all.is;
      so_far = drained-text before old.names old.output d.packets d.reports d.output;
      stops = stops;
    }

-- The laws of whole commands: which packets each one writes, and how it ends.
use Rattle.std.proofs.Common.{◌≡◌, ℕ, ◌+◌, ◌-◌, ◌^◌, ◌<◌, false, max, List, [], ◌∷◌, ◌++◌, length, take, Option, None, Some, refl, sym, ◌∙◌, ap, arith, subst}
use Rattle.std.proofs.Common.{nat_eq, drop, ◌≤◌, length-append}
use Rattle.std.proofs.lemmas.List.{append_assoc, append-nil, length-map, map-append, take-append-drop}
use Rattle.std.specs.Option.{IfSome, unwrap_or}
use Rattle.cap_io.specs.Capture.{Placed, Ending, End, FaultAt, items, kind_of, Items, items_from}
use Rattle.cap_io.specs.Sequence.{Event, Packet, InputEnd, SequenceEnd, Complete, FaultIn, Sequence, PacketOrder, InputItems, whole_input, Entry, packet_events}
use Rattle.cap_io.specs.Sequence.{input_sequence, sequence_in_turn, sequence_of, end_of, end_after, entries_of, comes_before, insert_entry, sort_entries}
use Rattle.cap_io.specs.Sequence.{sequence_of_entries, sequence_by_time, first_end, unless_fault, with_front}
use Rattle.cap_io.proofs.Cuts.{cut_tells, has_cut, items_from-units}
use Rattle.cap_process.specs.Verdict.{Policy, Edit, EditRule, Filter, KeepAll, Count, SelectorState, initial_state, edited_packet_with, judge, passes}
use Rattle.cap_process.specs.Verdict.{no_options}
use Rattle.cap_process.specs.Outcome.{Form, AsCapture, AsReports, AsLines, JobProgress, Work, no_progress, apply_event, apply_events, next_progress, end_with}
use Rattle.cap_process.specs.Outcome.{unless_ended, end_unless_ended, final_progress, output_text, text_at_end, first_link, lines_text, status, outcome_at}
use Rattle.cap_process.specs.Outcome.{outcome}
use Rattle.cap_process.specs.Lists.{packets_selected, unique_after, at_most, end_at_time, first_without_time, packets_kept, packets_of, tally_of}
use Rattle.cap_process.specs.Whole.{CopyEnds, EditEnds, EditKeeps, EditWrites, EditsAlike, EndsAs, EndsUnlessRefused, HasCarried, InfosEnds, MergeEnds}
use Rattle.cap_process.specs.Whole.{MergesOne, PrintEnds, copy_of, InfosReports, MergeWrites, PrintLines, PrintWrites, closing_if, edit_work, event_packets}
use Rattle.cap_process.specs.Whole.{merge_work, file_packets, packets_in_order, print_work, reports_by, reports_of, packets_written, first_refusal}
use Rattle.cap_process.specs.Whole.{written_text, CutsGivePrefixes, EndsByRefusal, IsFirstRefused, file_events, packets_edited, packets_merged, packets_printed}
use Rattle.cap_process.proofs.Lists.{AtRefused, EndsSo, comes, count-packets, end-stays, ends_without_time, filtered-first, judged, judged-is, none-refused}
use Rattle.cap_process.proofs.Lists.{packets-of-input, policy_end, under_way}
use Rattle.std.proofs.lemmas.Bool.{Decides.nat_tests, and_right}
use Rattle.cap_process.proofs.{Outcomes.progress-append, Selectors.upper_bound}
use Rattle.cap_io.specs.{Text.text, declared.source.Kind.Kind, RoundTrip.ItemsBack}
use Rattle.cap_octet.specs.{Packet.Captured, declared.fault.Fault.Fault, declared.format.Format.Format}
use Rattle.cap_process.specs.{Reports.Report, Reports.Tally, Reports.nothing_counted, Marks.mark_of, Selector.is_count, declared.mark.Mark.Mark}
use Rattle.{cap_filter.specs.FilterRules.Rule, std.proofs.Math.Seq.take-length, cap_print.specs.declared.print.Options.Options}

-- ---- the packets that a merge keeps

-- all of fewer than 2^63 packets, and it goes on
merged : (k : ℕ) (state : SelectorState) (es : List Event) → k + length (event_packets es) < 2 ^ 63
    → (judged KeepAll k state (event_packets es) ≡ event_packets es) × (policy_end KeepAll k state es ≡ None)
merged k state [] less = (refl, refl)
merged k state (Packet input p ∷ es) less =
    let one = upper_bound KeepAll state (k + 1) p.packet refl (omega (arith, less)) in
    let more = merged (k + 1) (passes state p.packet).state es (omega (arith, less)) in
    grind arith
merged k state (InputEnd input kind size ∷ es) less = merged k state es less

-- ---- commands that write packets

same-packets : (o : Option SequenceEnd) (w : JobProgress) (c : SequenceEnd) → (unless_ended o w (end_with w c)).packets ≡ w.packets
same-packets o w c = grind arith

at-end : (f : Form) (link : Option ℕ) (ps : List Captured) (c : SequenceEnd) → text_at_end (Some c) f link ps ≡ closing_if (status (Some c)) f link ps
at-end f link ps c = grind arith

final-end : (f : Form) (link : Option ℕ) (ps : List Captured) (w : JobProgress) (c : SequenceEnd) → (o : Option SequenceEnd) → w.end ≡ o
    → text_at_end (end_unless_ended w c).end f link ps ≡ closing_if (status (end_unless_ended w c).end) f link ps
final-end f link ps w c o is = grind (arith, at-end)

-- a form of writing in which reports have no bytes
abbrev IsOfPackets : Form → Type 0
IsOfPackets f = (ps : List Captured) (rs : List Report) → output_text f ps rs ≡ output_text f ps []

command-writes : (work : Work) (names : List (List ℕ)) (rs : List InputItems) (ps : List Captured) → is_count work.policy ≡ false → IsOfPackets work.form
    → judged work.policy 0 initial_state (event_packets (sequence_of work.order rs).events) ≡ ps
    → (outcome work names rs).output ≡ written_text work.form (outcome work names rs).status (first_link rs) (packets_written work.form [] ps)
command-writes work names rs ps judges of_packets is = grind (arith, final-end, same-packets, comes)

capture-of-packets : (format : Format) → IsOfPackets (AsCapture format)
capture-of-packets format ps rs = refl

lines-of-packets : (options : Options) → IsOfPackets (AsLines options)
lines-of-packets options ps rs = refl

final-is : (w : JobProgress) (close : SequenceEnd) (o : Option SequenceEnd) → w.end ≡ o → (end_unless_ended w close).end ≡ Some (unwrap_or o close)
final-is w close o is = grind arith

ends-as : (work : Work) (names : List (List ℕ)) (rs : List InputItems) (w : JobProgress) (c : SequenceEnd) → w.end ≡ Some c
    → EndsAs names c (outcome_at work names rs w)
ends-as work names rs w c is = grind arith

-- the packets of these events, in their places
abbrev placed_of : List Event → List Placed
placed_of [] = []
placed_of (Packet input p ∷ es) = p ∷ placed_of es
placed_of (InputEnd input kind size ∷ es) = placed_of es

placed-packets : (es : List Event) → packets_of (placed_of es) ≡ event_packets es
placed-packets [] = refl
placed-packets (Packet input p ∷ es) = grind (arith, placed-packets es)
placed-packets (InputEnd input kind size ∷ es) = placed-packets es

-- of at most as many packets as these events have, the policy keeps these
abbrev Passes : Policy → (List Captured → List Captured) → List Event → Type 0
Passes a passing es =
    (ds : List Event) → length (event_packets ds) ≤ length (event_packets es) → judged a 0 initial_state (event_packets ds) ≡ passing (event_packets ds)

event-packets-append : (es fs : List Event) → event_packets (es ++ fs) ≡ event_packets es ++ event_packets fs
event-packets-append [] fs = refl
event-packets-append (Packet input p ∷ es) fs = grind (arith, event-packets-append es fs)
event-packets-append (InputEnd input kind size ∷ es) fs = event-packets-append es fs

front-shorter : (ds es all : List Event) → all ≡ ds ++ es → length (event_packets ds) ≤ length (event_packets all)
front-shorter ds es all is = grind (arith, event-packets-append, length-append)

-- the place of the first packet that is refused
refused-at : (work : Work) (passing : List Captured → List Captured) (es : List Event) (fault : Fault) → Passes work.policy passing es
    → (end : Option SequenceEnd) → AtRefused (λ ds. first_refusal work.form [] (judged work.policy 0 initial_state (event_packets ds))) es fault end
    → IsFirstRefused work.form passing es fault
refused-at work passing es fault passes end at = record {
  before = at.before;
  input = at.input;
  p = at.p;
  later = at.later;
  are = at.are;
  taken = grind (arith, front-shorter);
  refused = sym (ap (first_refusal work.form []) (passes (at.before ++ Packet at.input at.p ∷ [])
      (front-shorter (at.before ++ Packet at.input at.p ∷ []) at.later es
      (at.are ∙ sym (append_assoc at.before (Packet at.input at.p ∷ []) at.later))))) ∙ at.refused;
}

command-ends : (work : Work) (names : List (List ℕ)) (rs : List InputItems) (passing : List Captured → List Captured) → is_count work.policy ≡ false
    → Passes work.policy passing (sequence_of work.order rs).events
    → EndsUnlessRefused names work.form passing (sequence_of work.order rs).events
    (unwrap_or (policy_end work.policy 0 initial_state (sequence_of work.order rs).events) (sequence_of work.order rs).end) (outcome work names rs)
unfolding refused-at
command-ends work names rs passing judges passes = by_refusal (first_refusal work.form [] (passing (event_packets s.events)))
    (grind (arith, comes))
  where
    s : Sequence
    s = sequence_of work.order rs

    w : JobProgress
    w = apply_events work.policy work.form no_progress s.events

    by_policy : Option SequenceEnd
    by_policy = policy_end work.policy 0 initial_state s.events

    ends : (o : Option SequenceEnd) → w.end ≡ o → EndsAs names (unwrap_or o s.end) (outcome work names rs)
    ends o is = grind (arith, ends-as, s, final-is, w)

    by_refusal : (r : Option Fault)
        → EndsSo r (λ ds. first_refusal work.form [] (judged work.policy 0 initial_state (event_packets ds))) s.events by_policy w.end
        → EndsByRefusal names work.form passing s.events r (unwrap_or by_policy s.end) (outcome work names rs)
    by_refusal None so = ends by_policy so
    by_refusal (Some fault) at =
        record { first = refused-at work passing s.events fault passes w.end at; by = ends (Some (FaultIn at.input fault at.p.offset)) at.ends }

-- ---- one input

one-input : (r : InputItems) (e : Ending) → event_packets (input_sequence 0 r e (sequence_in_turn 1 [])).events ≡ packets_of r.items.packets
one-input r e = grind (arith, append-nil, event-packets-append, packets-of-input)

before-end : (a : Policy) (k : ℕ) (state : SelectorState) (ps : List Placed) (kind : Option Kind) (size : ℕ)
    → policy_end a k state (packet_events 0 ps ++ InputEnd 0 kind size ∷ []) ≡ policy_end a k state (packet_events 0 ps)
before-end a k state [] kind size = refl
before-end a k state (p ∷ ps) kind size = grind (arith, before-end a (k + 1) (judge a state (k + 1) p.packet).state ps kind size)

one-end : (a : Policy) (r : InputItems) (e : Ending) → unwrap_or (policy_end a 0 initial_state (input_sequence 0 r e (sequence_in_turn 1 [])).events)
    (input_sequence 0 r e (sequence_in_turn 1 [])).end
    ≡ unwrap_or (policy_end a 0 initial_state (packet_events 0 r.items.packets)) (end_of 0 e)
one-end a r e = grind (arith, append-nil, before-end)

few-placed : (file : List ℕ) → length (file_packets file) < 2 ^ 63 → length (items file).packets < 2 ^ 63
few-placed file less = grind (arith, length-map)

file-packets : (file : List ℕ) → event_packets (file_events file) ≡ file_packets file
file-packets file = grind (arith, one-input)

few-events : (file : List ℕ) (es : List Event) → length (file_packets file) < 2 ^ 63 → length (event_packets es) ≤ length (event_packets (file_events file))
    → length (placed_of es) < 2 ^ 63
few-events file es less fewer =
    omega (arith, length-map (placed_of es) (λ (p : Placed). p.packet), ap length (placed-packets es), ap length (file-packets file))

-- ---- edit

edits : (s : EditRule) (file : List ℕ) → length (file_packets file) < 2 ^ 63 → Passes (Edit s) (packets_edited s) (file_events file)
edits s file less es fewer =
    rw (← placed-packets es)
    (sym (judged-is (Edit s) (placed_of es) refl).0 ∙ (ends_without_time s (placed_of es) (few-events file es less fewer)).1)

edited : (s : EditRule) (file : List ℕ) → length (file_packets file) < 2 ^ 63
    → judged (Edit s) 0 initial_state (event_packets (file_events file)) ≡ packets_edited s (file_packets file)
edited s file less = grind (arith, edits, file-packets)

pub edit_writes : EditWrites
edit_writes s format names file less = command-writes (edit_work s format) names (whole_input file ∷ []) _ refl (capture-of-packets format) (edited s file less)

pub edit_ends : EditEnds
edit_ends s format names file less =
    let r = whole_input file in
    subst (λ (c : SequenceEnd). EndsUnlessRefused names (AsCapture format) (packets_edited s) (file_events file) c
    (outcome (edit_work s format) names (r ∷ [])))
    (one-end (Edit s) r r.items.ending
    ∙ ap (λ (o : Option SequenceEnd). unwrap_or o (end_of 0 r.items.ending)) (sym (judged-is (Edit s) r.items.packets refl).1
    ∙ (ends_without_time s r.items.packets (few-placed file less)).0))
    (command-ends (edit_work s format) names (r ∷ []) (packets_edited s) refl (edits s file less))

-- ---- print

prints : (rule : Rule) (count : Option ℕ) (file : List ℕ) → IfSome count (λ (n : ℕ). 0 < n) → length (file_packets file) < 2 ^ 63
    → Passes (Filter rule count) (packets_printed rule count) (file_events file)
prints rule count file some less es fewer =
    rw (← placed-packets es)
    (filtered-first rule count End (placed_of es) some (few-events file es less fewer)).0

printed : (rule : Rule) (count : Option ℕ) (file : List ℕ) → IfSome count (λ (n : ℕ). 0 < n) → length (file_packets file) < 2 ^ 63
    → judged (Filter rule count) 0 initial_state (event_packets (file_events file)) ≡ packets_printed rule count (file_packets file)
printed rule count file some less = grind (arith, prints, file-packets)

pub print_writes : PrintWrites
print_writes rule count format names file some less =
    command-writes (print_work rule count (AsCapture format)) names (whole_input file ∷ []) _ refl (capture-of-packets format)
    (printed rule count file some less)

-- lines have no start
no-close : (options : Options) (n : ℕ) (link : Option ℕ) (ps : List Captured) → closing_if n (AsLines options) link ps ≡ []
no-close options n link ps = grind arith

pub print_lines : PrintLines
print_lines rule count options names file some less =
    let kept = at_most count (packets_kept rule (file_packets file)) in
    let work = print_work rule count (AsLines options) in
    let link = first_link (whole_input file ∷ []) in
    let code = (outcome work names (whole_input file ∷ [])).status in
    command-writes work names (whole_input file ∷ []) kept refl (lines-of-packets options) (printed rule count file some less)
    ∙ rw ((none-refused (AsLines options) [] kept (λ xs p ys is. refl)).0, no-close options code link kept, append-nil (lines_text options kept)) refl

pub print_ends : PrintEnds
print_ends rule count form names file some less =
    let r = whole_input file in
    subst (λ (c : SequenceEnd). EndsUnlessRefused names form (packets_printed rule count) (file_events file) c
    (outcome (print_work rule count form) names (r ∷ [])))
    (grind (arith, one-end, filtered-first, few-placed))
    (command-ends (print_work rule count form) names (r ∷ []) (packets_printed rule count) refl (prints rule count file some less))

-- ---- merge

pub merge_writes : MergeWrites
merge_writes order format names rs less =
    command-writes (merge_work order format) names rs (packets_in_order order rs) refl (capture-of-packets format)
    (merged 0 initial_state (sequence_of order rs).events (omega (arith, less))).0

pub merge_ends : MergeEnds
merge_ends order format names rs less =
    let s = sequence_of order rs in
    let all = merged 0 initial_state s.events (omega (arith, less)) in
    subst (λ (e : Option SequenceEnd). EndsUnlessRefused names (AsCapture format) packets_merged s.events (unwrap_or e s.end)
    (outcome (merge_work order format) names rs)) all.1
    (command-ends (merge_work order format) names rs packets_merged refl
    (grind (arith, merged)))

-- ---- infos

abbrev report : ℕ → InputItems → Tally → Report
report input r t = record { input = input; kind = kind_of r.items.declared; size = r.size; tally = t }

abbrev Reported : List (List ℕ) → ℕ → List InputItems → Type 0
Reported names input rs =
    (k : ℕ) (state : SelectorState) (reports : List Report) → state.tally ≡ nothing_counted
    → (apply_events Count (AsReports names) (under_way k state [] reports) (sequence_in_turn input rs).events).reports ≡ reports ++ reports_of input rs

report-next : (names : List (List ℕ)) (input : ℕ) (r : InputItems) (rs : List InputItems) → Reported names (input + 1) rs → Reported names input (r ∷ rs)
report-next names input r rs next k state reports none = by_ending r.items.ending
  where
    more : List Report
    more = reports_of (input + 1) rs

    later : List Event
    later = (sequence_in_turn (input + 1) rs).events

    ended : Event
    ended = InputEnd input (kind_of r.items.declared) r.size

    whole : Tally → List Report
    whole t = reports ++ report input r t ∷ more

    by_ending : (e : Ending) → (apply_events Count (AsReports names) (under_way k state [] reports)
        (input_sequence input r e (sequence_in_turn (input + 1) rs)).events).reports ≡ reports
        ++ reports_by e (report input r (tally_of (packets_of r.items.packets))) more
    by_ending End =
        rw append_assoc
        (count-packets (λ w. w.reports ≡ whole (tally_of (packets_of r.items.packets))) names input r.items.packets k state [] reports (ended ∷ later) none
        (grind (arith, append_assoc, more, whole)))
    by_ending (FaultAt fault offset) =
        rw (← append-nil (packet_events input r.items.packets))
        (count-packets (λ w. w.reports ≡ reports ++ []) names input r.items.packets k state [] reports [] none (λ k' state' is. sym (append-nil reports)))

reported : (names : List (List ℕ)) (input : ℕ) (rs : List InputItems) → Reported names input rs
reported names input [] = grind (arith, append-nil)
reported names input (r ∷ rs) = report-next names input r rs (reported names (input + 1) rs)

same-reports : (o : Option SequenceEnd) (w : JobProgress) (c : SequenceEnd) → (unless_ended o w (end_with w c)).reports ≡ w.reports
same-reports o w c = grind arith

nothing-following-reports : (names : List (List ℕ)) (link : Option ℕ) (ps : List Captured) (o : Option SequenceEnd) → text_at_end o (AsReports names)
    link ps ≡ []
nothing-following-reports names link ps o = grind arith

pub infos_reports : InfosReports
infos_reports names rs = grind (arith, same-reports, reported, nothing-following-reports, append-nil)

infos-go-on : (names : List (List ℕ)) (k : ℕ) (state : SelectorState) (reports : List Report) (es : List Event)
    → (apply_events Count (AsReports names) (under_way k state [] reports) es).end ≡ None
infos-go-on names k state reports [] = refl
infos-go-on names k state reports (Packet input p ∷ es) = infos-go-on names (k + 1) (judge Count state (k + 1) p.packet).state reports es
infos-go-on names k state reports (InputEnd input kind size ∷ es) =
    infos-go-on names k (apply_event Count (AsReports names) (under_way k state [] reports) (InputEnd input kind size)).state
    (apply_event Count (AsReports names) (under_way k state [] reports) (InputEnd input kind size)).reports es

pub infos_ends : InfosEnds
infos_ends names rs = grind (arith, ends-as, final-is, infos-go-on)

-- ---- edits without options

same-packet : (p : Captured) → edited_packet_with no_options p p.time ≡ p
same-packet p =
    let all : length p.bytes - 0 ≡ length p.bytes = omega arith in
    rw (all, take-length p.bytes) refl

same-judge : (state : SelectorState) (number : ℕ) (p : Captured) → judge KeepAll state number p ≡ judge (Edit no_options) state number p
same-judge state number p = rw (same-packet p) refl

same-event : (f : Form) (w : JobProgress) (e : Event) → apply_event KeepAll f w e ≡ apply_event (Edit no_options) f w e
same-event f w e = grind (arith, same-judge)

same-events : (f : Form) (w : JobProgress) (es : List Event) → apply_events KeepAll f w es ≡ apply_events (Edit no_options) f w es
same-events f w es = grind (arith, same-event)

-- ---- one input by time is that input in turn

abbrev entry : ℕ → Ending → ℕ → Placed → List Placed → Entry
entry input ending greatest p ps = record { key = max greatest p.packet.time; input = input; p = p; end = end_after input ending ps }

not-before : (input : ℕ) (ending : Ending) (greatest : ℕ) (p q : Placed) (ps : List Placed)
    → comes_before (entry input ending (max greatest p.packet.time) q ps) (entry input ending greatest p (q ∷ ps)) ≡ false
not-before input ending greatest p q ps = grind (arith, max, nat_tests, and_right, nat_eq)

insert-first : (input : ℕ) (ending : Ending) (greatest : ℕ) (p : Placed) (ps : List Placed)
    → insert_entry (entry input ending greatest p ps) (entries_of input ending (max greatest p.packet.time) ps) ≡ entries_of input ending greatest (p ∷ ps)
insert-first input ending greatest p ps = grind (arith, not-before)

sorted : (input : ℕ) (ending : Ending) (greatest : ℕ) (ps : List Placed) → sort_entries (entries_of input ending greatest ps) ≡ entries_of input
    ending greatest ps
sorted input ending greatest [] = refl
sorted input ending greatest (p ∷ ps) = grind (arith, max, insert-first, sorted input ending (max greatest p.packet.time) ps)

last-of : (input : ℕ) (ending : Ending) (e : Event)
    → with_front (e ∷ []) (unless_fault (end_of input ending) (record { events = []; end = Complete })) ≡ record { events = e ∷ []; end = end_of input ending }
last-of input ending e = grind arith

of-entries : (input : ℕ) (ending : Ending) (greatest : ℕ) (p : Placed) (ps : List Placed)
    → sequence_of_entries (entries_of input ending greatest (p ∷ ps)) ≡ record { events = packet_events input (p ∷ ps); end = end_of input ending }
of-entries input ending greatest p [] = grind (arith, last-of)
of-entries input ending greatest p (q ∷ ps) = grind (arith, max, of-entries input ending (max greatest p.packet.time) q ps)

first-complete : (c : SequenceEnd) → first_end c Complete ≡ c
first-complete c = grind arith

unless-end : (ending : Ending) → unless_fault (end_of 0 ending) (record { events = []; end = Complete }) ≡ record { events = []; end = end_of 0 ending }
unless-end ending = grind arith

one-by-time : (greatest : ℕ) (ending : Ending) (ps : List Placed)
    → unless_fault (end_after 0 ending ps) (sequence_of_entries (sort_entries (entries_of 0 ending greatest ps))) ≡ record
    { events = packet_events 0 ps; end = end_of 0 ending }
one-by-time greatest ending ps = grind (arith, unless-end, sorted, of-entries)

by-time : (r : InputItems) → sequence_by_time (r ∷ []) ≡ record { events = packet_events 0 r.items.packets; end = end_of 0 r.items.ending }
by-time r = grind (arith, append-nil, first-complete, one-by-time)

-- an input's end changes nothing where nothing is reported
ended-same : (a : Policy) (f : Form) (w : JobProgress) (input : ℕ) (kind : Option Kind) (size : ℕ) → is_count a ≡ false
    → next_progress a f w (InputEnd input kind size) ≡ w
ended-same a f w input kind size judges = grind (arith, end-stays)

in-turn : (a : Policy) (f : Form) (r : InputItems) (ending : Ending) → is_count a ≡ false
    → final_progress a f (record { events = packet_events 0 r.items.packets; end = end_of 0 ending }) ≡ final_progress a f
    (input_sequence 0 r ending (record { events = []; end = Complete }))
in-turn a f r ending judges = grind (arith, append-nil, progress-append, ended-same)

same-order : (a : Policy) (f : Form) (r : InputItems) (order : PacketOrder) → is_count a ≡ false → final_progress a f (sequence_of order (r ∷ [])) ≡
    final_progress a f (sequence_in_turn 0 (r ∷ []))
same-order a f r order judges = grind (arith, by-time, in-turn)

pub merges_one : MergesOne
merges_one order format names file = grind (arith, same-order, same-events)

-- ---- what a format carries

all-selected : (number : ℕ) (ps : List Captured) → packets_selected no_options number ps ≡ ps
all-selected number [] = refl
all-selected number (p ∷ ps) = rw (same-packet p, all-selected (number + 1) ps) refl

all-unique : (before : List Mark) (ps : List Captured) → unique_after None before ps ≡ ps
all-unique before [] = refl
all-unique before (p ∷ ps) = grind (arith, all-unique (before ++ mark_of p.bytes ∷ []) ps)

nothing-closes : (format : Format) (n : ℕ) (link : Option ℕ) (p : Captured) (ps : List Captured) → closing_if n (AsCapture format) link (p ∷ ps) ≡ []
nothing-closes format n link p ps = grind arith

-- the packets of such a file are all unique and selected, and none is refused
copied : (format : Format) (file : List ℕ) (p : Captured) (ps : List Captured) → HasCarried format file p ps
    → (unique_after None [] (packets_selected no_options 1 (file_packets file)) ≡ p ∷ ps) × (packets_written (AsCapture format) [] (p ∷ ps) ≡ p ∷ ps)
    × (first_refusal (AsCapture format) [] (p ∷ ps) ≡ None)
copied format file p ps h =
    let none = none-refused (AsCapture format) [] (p ∷ ps) (λ xs q ys is. (h.carried.each xs q ys is).taken) in grind (arith, all-selected, all-unique)

-- the text of the packets is written
copy-is : (format : Format) (names : List (List ℕ)) (file : List ℕ) (p : Captured) (ps : List Captured) → HasCarried format file p ps
    → copy_of format names file ≡ text format (p ∷ ps)
copy-is format names file p ps h =
    let code = (outcome (edit_work no_options format) names (whole_input file ∷ [])).status in
    let link = first_link (whole_input file ∷ []) in
    let all = copied format file p ps h in
    edit_writes no_options format names file (rw h.packets h.few)
    ∙ rw (all.0, all.1, nothing-closes format code link p ps, append-nil (text format (p ∷ ps))) refl

copy-packets : (format : Format) (names : List (List ℕ)) (file : List ℕ) (p : Captured) (ps : List Captured) → ItemsBack → HasCarried format file p ps
    → file_packets (copy_of format names file) ≡ p ∷ ps
copy-packets format names file p ps back h = rw (copy-is format names file p ps h) (back format p ps h.carried).packets

pub edit_keeps : ItemsBack → EditKeeps
edit_keeps back format names file p ps h = copy-packets format names file p ps back h ∙ sym h.packets

pub edits_alike : ItemsBack → EditsAlike
edits_alike back format names file p ps h =
    copy-is format names (copy_of format names file) p ps (record { packets = copy-packets format names file p ps back h; few = h.few; carried = h.carried })
    ∙ sym (copy-is format names file p ps h)

all-in-time : (number : ℕ) (ps : List Placed) → first_without_time no_options number ps ≡ None
all-in-time number [] = refl
all-in-time number (p ∷ ps) = all-in-time (number + 1) ps

pub copy_ends : CopyEnds
copy_ends format names file p ps h =
    let r = whole_input file in
    let all = copied format file p ps h in
    subst (λ (t : Option Fault). EndsByRefusal names (AsCapture format) (packets_edited no_options) (file_events file) t (end_of 0 r.items.ending)
    (outcome (edit_work no_options format) names (r ∷ [])))
    (ap (λ (l : List Captured). first_refusal (AsCapture format) [] (packets_edited no_options l)) (file-packets file)
    ∙ ap (first_refusal (AsCapture format) []) all.0 ∙ all.2)
    (subst (λ (t : Option ℕ). EndsUnlessRefused names (AsCapture format) (packets_edited no_options) (file_events file)
    (unwrap_or (end_at_time t) (end_of 0 r.items.ending)) (outcome (edit_work no_options format) names (r ∷ []))) (all-in-time 1 r.items.packets)
    (edit_ends no_options format names file (rw h.packets h.few)))

pub cuts_give_prefixes : CutsGivePrefixes
cuts_give_prefixes file n =
    let c = has_cut (take n file) in
    let rest : List ℕ = c.rest ++ drop n file in
    let following : List Placed = (items_from c.declared (0 + length c.done) rest).packets in
    let file_is : file ≡ c.done ++ rest = grind (arith, take-append-drop, append_assoc) in
    let whole : file_packets file ≡ packets_of (c.packets ++ following) = grind (arith, items_from-units) in
    let front : file_packets (take n file) ≡ packets_of c.packets = ap (λ (i : Items). packets_of i.packets) (cut_tells (take n file) c).items in
    grind (arith, map-append)

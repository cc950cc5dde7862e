-- The steps that read an input on.
use Rattle.cap_tools.proofs.Coming.{carries-found, carries-closed, come-first, true-wholes, true-fits, finds, get-at, At, Fit, stands-split, stands-join}
use Rattle.cap_tools.proofs.Coming.{stands-length, fits-join, wholes-join, rests-join, finish-here, come-on}
use Rattle.cap_tools.proofs.Common.{length-map, map-append, texts, Captured, greatest_of, an_end, InputEnd, ◌≡◌, inl, inr, ℕ, ◌+◌, ◌<◌, ◌≤◌, Bool, true, false}
use Rattle.cap_tools.proofs.Common.{List, [], ◌∷◌, ◌++◌, length, map, Option, None, Some, Result, Ok, Err, refl, sym, ◌∙◌, ap, arith, subst, append_assoc}
use Rattle.cap_tools.proofs.Common.{append-nil, slice_set, HasGiven, Stops, DeviceFault, Fault, ReadFailed, Kind, Placed, Items, FaultAt, no_items, kind_of}
use Rattle.cap_tools.proofs.Common.{after_packets, SourceView, Phase, Reading, Ended, Failed, Steps, FindsPacket, FindsEnd, Advances, IsAt, JobEnd, Report}
use Rattle.cap_tools.proofs.Common.{Tally, InputItems, Event, FaultIn, PacketOrder, InTurn, ByTime, Sequence, sequence_of, with_front, whole_input, Policy}
use Rattle.cap_tools.proofs.Common.{Edit, Filter, KeepAll, Count, SelectorState, IsWithin, is_count, PolicyState, with_empty_tally, Form, JobProgress, cut_at}
use Rattle.cap_tools.proofs.Common.{no_progress, apply_events, final_progress, end_with, final_text, output_text, first_link, Target, Capture, Text, Lines}
use Rattle.cap_tools.proofs.Common.{HasWrittenTo, form_to, written_to, failures_to, Reports, InputView, InputsView, Future, InputPast, AreInputsAfter}
use Rattle.cap_tools.proofs.Common.{AreSettled, ReadsInput, waiting_packets, input_after, input_items, inputs_with, inputs_left, limits_of, sequence_left}
use Rattle.cap_tools.proofs.Common.{IsNext, actual_future, is_in_turn, report_text, JobState, AppendsOnce, PacketsDecided, GoesOn, CompletesOutput, WhyBroken}
use Rattle.cap_tools.proofs.Common.{StopsWriting, StepLeaves, asks_report, progress_of, progress_over, output_form, failures_by, written_by, wholes_of, Closes}
use Rattle.cap_tools.proofs.Common.{ClosesBy, unless_failed, sieve, report_at, drained-text, ReportOk, report-ok, progress-append, course-close, report_bytes}
use Rattle.cap_tools.proofs.Common.{same-input, set-among, next-is-of, Next}
use Rattle.cap_io.proofs.Standing.{IsAt-found, IsAt-closed, IsAt-fault}
use Rattle.cap_inputs.proofs.Cursors.{greatest-here, greatest-same, limits-at, limits-kept, set-here}
use Rattle.cap_tools.proofs.Laws.{ReadLaws, ReadAt, closed_in, read-at}
use Rattle.cap_tools.proofs.Nexts.{report-answer, stops-at, once-nothing, once-report}
use Rattle.cap_process.specs.inside.Selector as selecting_inside

abbrev pub inputs_at : PacketOrder → List InputView → InputsView
inputs_at order cursors = record { order = order; cursors = cursors }

abbrev pub mk : List InputView → PacketOrder → Policy → SelectorState → (names : List (List ℕ)) → Target → ℕ → JobState
mk cursors order policy state names output decided = record {
  names = names;
  inputs = inputs_at order cursors;
  policy = policy;
  state = state;
  output = output;
  decided = decided;
}

-- ---- more is done of one input

abbrev pub past-of : InputPast → List ℕ → List Placed → InputPast
past-of s bytes packets = record { text = s.text; done = s.done ++ bytes; packets = s.packets ++ packets }

-- the progress of a job that goes on
abbrev pub so_far : ℕ → SelectorState → List Captured → List Report → JobProgress
so_far decided state packets reports = record { decided = decided; state = state; packets = packets; reports = reports; end = None }

pub wholes_of-join : (us vs : List InputPast) (s : InputPast) → wholes_of (us ++ s ∷ vs) ≡ wholes_of us ++ whole_input s.text ∷ wholes_of vs
wholes_of-join us vs s = ap (map whole_input) (map-append (λ (p : InputPast). p.text) us (s ∷ vs)) ∙ map-append whole_input (texts us) (s.text ∷ texts vs)

pub cut-here : (rs qs : List InputItems) (r : InputItems) (n : ℕ) (held : Items) → length rs ≡ n → cut_at (rs ++ r ∷ qs) n held ≡ rs
    ++ record { greatest = r.greatest; items = held; size = r.size } ∷ qs
cut-here [] qs r n held is = rw (← is) refl
cut-here (x ∷ xs) qs r n held is = rw (← is) (ap (λ (l : List InputItems). x ∷ l) (cut-here xs qs r (length xs) held refl))

-- what the output has where the job ends by a fault after what is decided
pub comes-broken : (ss : List InputPast) (before : List ℕ) (m : JobState) (rs : List InputItems) (d : PacketsDecided ss before m) (new : JobState)
    (input : ℕ) (fault : Fault) (offset : ℕ)
    → progress_over m rs ≡ end_with (progress_of d) (FaultIn input fault offset) → written_by new ≡ written_by m → failures_by new ≡ failures_by m
    → CompletesOutput rs d new (FaultIn input fault offset)
comes-broken ss before m rs d new input fault offset is same device = record {
  ends = ap (λ (w : JobProgress). w.end) is;
  written =
      same ∙ drained-text before m.names m.output d.packets d.reports d.output
      ∙ ap (λ (l : List ℕ). before ++ l) (sym (append-nil (output_text (output_form m) d.packets d.reports)))
      ∙ ap (λ (w : JobProgress). before ++ final_text (output_form m) (first_link rs) w) (sym is);
  once = once-nothing (output_form m) (first_link rs) (progress_of d) (progress_over m rs) m.output new.output
      (ap (λ (w : JobProgress). w.packets) is) (ap (λ (w : JobProgress). w.reports) is) same;
  device = device;
}

-- the device failed, and had given at least as many bytes as it was sure to
record Risen (h : InputView) (s' : SourceView) : Type 0 where
  failed : h.source.failures < s'.failures
  enough : HasGiven h.source.sure s'.given

risen : (s : InputPast) (h : InputView) (s' : SourceView) (fault : Fault) → At s h → Steps h.source.phase h.source (Err fault) s' → fault ≡ ReadFailed
    → Risen h s'
risen s h s' fault at steps is = by_phase h.source.phase refl steps
  where
    by_phase : (p : Phase) → h.source.phase ≡ p → Steps p h.source (Err fault) s' → Risen h s'
    by_phase Reading e b =
        let counted : s'.failures ≡ h.source.failures + 1 = rw is at b.failures in
        record { failed = omega (arith, counted); enough = rw b.sure at (b.enough (omega (arith, counted))) }
    by_phase Ended e b = absurd (let w = b.0 in cc)
    by_phase (Failed other) e b = absurd (at.sound other e)

-- the device failed at a report
reports-stop : (names : List (List ℕ)) (target new : Target) (report : Report) (fault : DeviceFault)
    → Reports (report_text names report) target (Err fault) new
    → Stops (written_to target) (report_bytes (form_to names target) report) (written_to new) × (failures_to new ≡ failures_to target + 1)
reports-stop names (Capture sink) new report fault reports = absurd (let e = reports.0 in cc)
reports-stop names (Lines options bytes failures room) new report fault reports = absurd (let e = reports.0 in cc)
reports-stop names (Text bytes failures room) new report fault reports =
    (rw reports.is reports.appends, ap failures_to reports.is)

-- ---- an input is reported

quiet-closed : (o : PacketOrder) (policy : Policy) (w : JobProgress) (i : ℕ) (kind : Option Kind) (size : ℕ) → asks_report o policy ≡ false
    → closed_in o policy w i kind size ≡ w
quiet-closed ByTime policy w i kind size is = refl
quiet-closed InTurn Count w i kind size is = (cc)
quiet-closed InTurn (Edit s) w i kind size is = refl
quiet-closed InTurn (Filter rule count) w i kind size is = refl
quiet-closed InTurn KeepAll w i kind size is = refl

abbrev pub with_report : JobProgress → Report → JobProgress
with_report w r = record { decided = w.decided; state = with_empty_tally w.state; packets = w.packets; reports = w.reports ++ r ∷ []; end = w.end }

told-closed : (o : PacketOrder) (policy : Policy) (w : JobProgress) (i : ℕ) (kind : Option Kind) (size : ℕ) → asks_report o policy ≡ true
    → closed_in o policy w i kind size ≡ with_report w (record { input = i; kind = kind; size = size; tally = w.state.tally })
told-closed ByTime policy w i kind size is = (cc)
told-closed InTurn Count w i kind size is = refl
told-closed InTurn (Edit s) w i kind size is = (cc)
told-closed InTurn (Filter rule count) w i kind size is = (cc)
told-closed InTurn KeepAll w i kind size is = (cc)

pub in-turn : (o : PacketOrder) (policy : Policy) → asks_report o policy ≡ true → o ≡ InTurn
in-turn InTurn policy is = refl
in-turn ByTime policy is = (cc)

-- what follows from the result of a read: an input at its end is closed; otherwise nothing else
-- changes
abbrev pub Follows : Result Bool Fault → List (List ℕ) → InputsView → ℕ → PolicyState → Target → Option JobEnd → PolicyState → Target → Type 0
Follows (Ok true) names inputs i selector old r selector' new = (r ≡ None) × (selector' ≡ selector) × (new ≡ old)
Follows (Ok false) names inputs i selector old r selector' new = Closes names inputs i (sieve selector old) r (sieve selector' new)
Follows (Err fault) names inputs i selector old r selector' new = (r ≡ Some (JobEnd.FaultIn i fault)) × (selector' ≡ selector) × (new ≡ old)

-- ---- a step at one input

module _ (us vs : List InputPast) (s : InputPast) (before : List ℕ) (xs ys : List InputView) (h : InputView) (order : PacketOrder) (turn : ℕ)
    (policy : Policy) (state : SelectorState) (names : List (List ℕ)) (output : Target) (decided : ℕ) (place : length xs ≡ turn)
    (front : AreInputsAfter us xs) (d : PacketsDecided (us ++ s ∷ vs) before (mk (xs ++ h ∷ ys) order policy state names output decided)) where
  -- the job goes on, with its progress after these events
  pub goes-one : (h' : InputView) (state' : SelectorState) (output' : Target) (decided' : ℕ) (finished : List ℕ) (placed : List Placed)
      (new : List Event) (packets : List Captured) (reports : List Report)
      → AreInputsAfter (us ++ past-of s finished placed ∷ vs) (xs ++ h' ∷ ys)
      → (h.greatest ≡ greatest_of s.packets → h'.greatest ≡ greatest_of (s.packets ++ placed)) → limits_of h'.source ≡ limits_of h.source
      → AreSettled (us ++ past-of s finished placed ∷ vs) (inputs_at order (xs ++ h' ∷ ys)) (d.events ++ new)
      → apply_events policy (form_to names output) (progress_of d) new ≡ so_far decided' state' packets reports
      → HasWrittenTo before names output' packets reports → form_to names output' ≡ form_to names output → failures_to output' ≡ failures_to output
      → AppendsOnce (form_to names output) (first_link (wholes_of (us ++ s ∷ vs))) (progress_of d) (so_far decided' state' packets reports) output output'
      → state'.passed ≤ decided' → IsWithin decided' state'.tally → decided' ≤ decided + 1
      → GoesOn d (mk (xs ++ h' ∷ ys) order policy state' names output' decided')
  goes-one h' state' output' decided' finished placed new packets reports following greatest limits come goes written form failures once passed counted few =
      record {
        input = turn;
        finished = finished;
        packets = placed;
        past = us ++ past-of s finished placed ∷ vs;
        past_is = sym (finish-here us vs s turn finished placed (stands-length us xs front ∙ place));
        decided = record {
          following = following;
          greatest = greatest-here us vs s (past-of s finished placed) xs ys h h' front d.greatest greatest;
          events = d.events ++ new;
          first = come-first (us ++ past-of s finished placed ∷ vs) (inputs_at order (xs ++ h' ∷ ys)) (d.events ++ new) following come;
          come = come;
          packets = packets;
          reports = reports;
          progress = ap (λ (f : Form). apply_events policy f no_progress (d.events ++ new)) form
              ∙ progress-append policy (form_to names output) no_progress d.events new
              ∙ ap (λ (v : JobProgress). apply_events policy (form_to names output) v new) d.progress ∙ goes;
          output = written;
          passed = passed;
          counted = counted;
        };
        at_most_one = few;
        form = form;
        once = once;
        output = failures;
        order = refl;
        limits = limits-at xs ys h h' limits;
      }

  -- the input is read on
  module _ (s' : SourceView) (laws : ReadLaws order turn xs ys h) (tells : IsNext (inputs_at order (xs ++ h ∷ ys)) (Next.Read turn))
      (at : At s h) (back : AreInputsAfter vs ys) where
    idle : IsAt s.text s.done s.packets false h.source
    idle = let P : Bool → Type 0 = λ b. IsAt s.text s.done s.packets b h.source in subst P laws.waits at

    -- nothing is written
    quiet : AppendsOnce (form_to names output) (first_link (wholes_of (us ++ s ∷ vs))) (progress_of d) (progress_of d) output output
    quiet = once-nothing (form_to names output) (first_link (wholes_of (us ++ s ∷ vs))) (progress_of d) (progress_of d) output output refl refl refl

    found-goes : Advances h.source.phase h.source (Ok true) s' → Steps h.source.phase h.source (Ok true) s'
        → GoesOn d (mk (xs ++ input_after h (Ok true) s' ∷ ys) order policy state names output decided)
    found-goes advances steps =
        let h' : InputView = input_after h (Ok true) s' in
        let found : FindsPacket h.source s' = finds s h s' (Ok true) at laws.waits advances in
        let past : InputPast = past-of s found.passes.passed [] in
        let here : At past h' = rw (append-nil s.packets) (IsAt-found s.text s.done s.packets h.source s' idle found) in
        let come : AreSettled (us ++ past ∷ vs) (inputs_at order (xs ++ h' ∷ ys)) (d.events ++ []) = come-on us vs s past xs ys h h' order d.events []
        front d.come (λ f' fit. carries-found s xs ys h s' order (laws.found_left h' (λ e. (let p = found.phase in cc (e, p)))) laws.waits advances found f') in
        goes-one h' state output decided found.passes.passed [] [] d.packets d.reports (stands-join us vs past xs ys h' front here back)
        (greatest-same h.greatest s.packets) (limits-kept h.source s' true steps advances) come refl d.output refl refl quiet d.passed d.counted
        (omega arith)

    -- a clean end is met
    module _ (advances : Advances h.source.phase h.source (Ok false) s') (steps : Steps h.source.phase h.source (Ok false) s') where
      found : FindsEnd h.source s'
      found = finds s h s' (Ok false) at laws.waits advances

      abbrev closed : InputView
      closed = input_after h (Ok false) s'

      abbrev past : InputPast
      past = past-of s found.passes.passed []

      abbrev events : List Event
      events = laws.closed_events (kind_of s'.declared) s'.offset

      following : AreInputsAfter (us ++ past ∷ vs) (xs ++ closed ∷ ys)
      following = stands-join us vs past xs ys closed front
          (rw (append-nil s.packets) (IsAt-closed s.text s.done s.packets h.source s' idle found)) back

      come : AreSettled (us ++ past ∷ vs) (inputs_at order (xs ++ closed ∷ ys)) (d.events ++ events)
      come = come-on us vs s past xs ys h closed order d.events events front d.come
          (λ f' fit. carries-closed s xs ys h s' order events (λ fs gs before with_front. laws.closed_left closed found.phase
          s'.declared h.greatest s'.offset fs gs before with_front) laws.waits advances found f' fit)

      -- the job goes on, with its progress after the input is closed
      closed-goes : (state' : SelectorState) (output' : Target) (reports : List Report)
          → closed_in order policy (progress_of d) turn (kind_of s'.declared) s'.offset ≡ so_far decided state' d.packets reports
          → HasWrittenTo before names output' d.packets reports
          → AppendsOnce (form_to names output) (first_link (wholes_of (us ++ s ∷ vs))) (progress_of d) (so_far decided state' d.packets reports) output output'
          → form_to names output' ≡ form_to names output → failures_to output' ≡ failures_to output
          → state'.passed ≤ decided → IsWithin decided state'.tally
          → GoesOn d (mk (xs ++ closed ∷ ys) order policy state' names output' decided)
      closed-goes state' output' reports goes written once form failures passed counted =
          goes-one closed state' output' decided found.passes.passed [] events d.packets reports following (greatest-same h.greatest s.packets)
          (limits-kept h.source s' false steps advances) come
          (laws.closed_way policy (form_to names output) (progress_of d) (kind_of s'.declared) s'.offset refl ∙ goes) written form failures once passed
          counted (omega arith)

      report-stops : (state' : SelectorState) (output' : Target) (fault : DeviceFault) → asks_report order policy ≡ true
          → Reports (report_text names (report_at turn closed state.tally)) output (Err fault) output'
          → StopsWriting d (mk (xs ++ closed ∷ ys) order policy state' names output' decided)
      report-stops state' output' fault asks reports =
          let report : Report = report_at turn closed state.tally in
          let stop = reports-stop names output output' report fault reports in
          let hs' : List InputView = xs ++ closed ∷ ys in
          let fs : List Future = map (λ (v : InputView). actual_future v.source) hs' in
          let later : List Event = (sequence_left order hs' (inputs_left hs' fs)).events in
          let is : sequence_of order (wholes_of (us ++ s ∷ vs)) ≡ with_front (d.events ++ events) (sequence_left order hs' (inputs_left hs' fs)) =
          ap (sequence_of order) (wholes_of-join us vs s ∙ sym (wholes_of-join us vs past) ∙ sym (true-wholes (us ++ past ∷ vs) hs' following))
          ∙ come fs (true-fits (us ++ past ∷ vs) hs' following) in
          let old : JobState = mk (xs ++ h ∷ ys) order policy state names output decided in
          stops-at (us ++ s ∷ vs) before old (mk hs' order policy state' names output' decided) (report_bytes (form_to names output) report) d
          (Some (InputEnd turn (kind_of s'.declared) s'.offset))
          (an_end turn (next-is-of (inputs_at order (xs ++ h ∷ ys)) (Next.Read turn) tells) (record {
            cursor = h;
            among = record { front = xs; back = ys; place = place; splits = refl };
            source = s';
            advances = advances;
            steps = steps;
            is = ap (inputs_at order) (sym (set-here xs ys h closed turn place));
          }))
          (report-answer (us ++ s ∷ vs) before old d turn (kind_of s'.declared) s'.offset (record {
            later = later;
            is = ap (λ (q : Sequence). q.events) is ∙ append_assoc d.events events later
                ∙ ap (λ (l : List Event). d.events ++ (l ++ later)) (laws.closed_one (in-turn order policy asks) (kind_of s'.declared) s'.offset);
            goes = ap (λ (v : JobProgress). v.end) d.progress;
          }) asks)
          stop.0 stop.1

      closed-core : (r : Option JobEnd) (selector' : PolicyState) (output' : Target) (b : Bool) → asks_report order policy ≡ b
          → ClosesBy b names turn closed (sieve (record { policy = policy; state = state }) output) r (sieve selector' output')
          → StepLeaves d r (mk (xs ++ closed ∷ ys) order policy selector'.state names output' decided)
      closed-core r selector' output' false asks by =
          rw (by.0, by.1, by.2)
          (closed-goes state output d.reports (quiet-closed order policy (progress_of d) turn (kind_of s'.declared) s'.offset asks) d.output quiet refl
          refl d.passed d.counted)
      closed-core r selector' output' true asks by = rw (by.is, by.selector_is) (by_answer by.answer by.reports)
        where
          report : Report
          report = report_at turn closed state.tally

          by_answer : (answer : Result (Unit {0}) DeviceFault) → Reports (report_text names report) output answer output'
              → StepLeaves d (unless_failed answer) (mk (xs ++ closed ∷ ys) order policy (with_empty_tally state) names output' decided)
          by_answer (Ok done) reports =
              let ok : ReportOk before d.packets d.reports report names output output' =
              report-ok before d.packets d.reports report names output output' d.output reports in
              closed-goes (with_empty_tally state) output' (d.reports ++ report ∷ [])
              (told-closed order policy (progress_of d) turn (kind_of s'.declared) s'.offset asks) ok.output
              (once-report (first_link (wholes_of (us ++ s ∷ vs))) before (progress_of d) (with_report (progress_of d) report) names output output'
              report d.output ok.output ok.form refl refl) ok.form ok.failures d.passed (omega arith, omega arith, omega arith)
          by_answer (Err fault) reports = report-stops (with_empty_tally state) output' fault asks reports

    -- it ends by a fault
    broken-ends : (fault : Fault) → Advances h.source.phase h.source (Err fault) s' → Steps h.source.phase h.source (Err fault) s'
        → WhyBroken d (mk (xs ++ input_after h (Err fault) s' ∷ ys) order policy state names output decided) turn fault s'
    broken-ends fault advances steps =
        elim (IsAt-fault s.text s.done s.packets h.source s' fault idle (finds s h s' (Err fault) at laws.waits advances)) [
          | inl faulty ↦ inl (comes-broken (us ++ s ∷ vs) before m (wholes_of (us ++ s ∷ vs)) d new turn fault s'.offset
              (ap (λ (l : List InputItems). final_progress policy (form_to names output) (sequence_of order l))
              (wholes_of-join us vs s ∙ ap (λ (r : InputItems). wholes_of us ++ r ∷ wholes_of vs)
              (ap (λ (i : Items). record { greatest = 0; items = i; size = length s.text }) faulty.items))
              ∙ cut-course)
              refl refl)
          | inr cut ↦ inr (inl (record {
            past = s;
            among = get-at us vs s turn (stands-length us xs front ∙ place);
            cursor = h;
            cursor_is = get-at xs ys h turn place;
            next = next-is-of (inputs_at order (xs ++ h ∷ ys)) (Next.Read turn) tells;
            advances = advances;
            held = held;
            cut = cut.cut;
            why = elim cut.why [
              | inl failed ↦ let rose = risen s h s' fault at steps failed.0 in
                  inl (failed.0, record { failed = rose.failed; enough = rose.enough; few = failed.1 })
              | inr full ↦ inr full
            ];
            comes = comes-broken (us ++ s ∷ vs) before m (cut_at (wholes_of (us ++ s ∷ vs)) turn held) d new turn fault s'.offset
                (ap (λ (l : List InputItems). final_progress policy (form_to names output) (sequence_of order l))
                (ap (λ (l : List InputItems). cut_at l turn held) (wholes_of-join us vs s)
                ∙ cut-here (wholes_of us) (wholes_of vs) (whole_input s.text) turn held
                (length-map (texts us) whole_input ∙ length-map us (λ (p : InputPast). p.text) ∙ stands-length us xs front ∙ place))
                ∙ cut-course)
                refl refl;
          }))
        ]
      where
        m : JobState
        m = mk (xs ++ h ∷ ys) order policy state names output decided

        new : JobState
        new = mk (xs ++ input_after h (Err fault) s' ∷ ys) order policy state names output decided

        held : Items
        held = record { packets = s.packets; declared = s'.declared; ending = FaultAt fault s'.offset }

        -- the future in which the input ends so
        f : Future
        f = record { items = no_items s'.declared (Some fault) s'.offset; size = length s.text }

        fit : Fit h f
        fit e = absurd (let w = (rw e at advances).0 in cc)

        laters : List InputView → List Future
        laters hs = map (λ (v : InputView). actual_future v.source) hs

        after : List Placed → Bool → Items
        after ps b = after_packets ps (after_packets (waiting_packets b h.source) f.items)

        rest_as : Bool → InputItems
        rest_as b = record { greatest = h.greatest; items = after_packets (waiting_packets b h.source) f.items; size = f.size }

        cut-course : final_progress policy (form_to names output)
            (sequence_of order (wholes_of us ++ record { greatest = 0; items = held; size = length s.text } ∷ wholes_of vs))
            ≡ end_with (progress_of d) (FaultIn turn fault s'.offset)
        cut-course =
            course-close policy (form_to names output) _ d.events (progress_of d) (FaultIn turn fault s'.offset)
            (ap (sequence_of order)
            (ap (λ (l : List Placed). wholes_of us
            ++ record { greatest = 0; items = record { packets = l; declared = s'.declared; ending = FaultAt fault s'.offset }; size = length s.text }
            ∷ wholes_of vs) (sym (append-nil s.packets))
            ∙ ap (λ b. wholes_of us ++ record { greatest = 0; items = after s.packets b; size = length s.text } ∷ wholes_of vs) (sym laws.waits)
            ∙ ap (λ (l : List InputItems). l ++ input_items s h f ∷ wholes_of vs) (sym (true-wholes us xs front))
            ∙ ap (λ (l : List InputItems). inputs_with us xs (laters xs) ++ input_items s h f ∷ l) (sym (true-wholes vs ys back))
            ∙ sym (wholes-join us vs s xs ys h (laters xs) (laters ys) f front (true-fits us xs front)))
            ∙ d.come (laters xs ++ f ∷ laters ys) (fits-join xs ys h (laters xs) (laters ys) f (true-fits us xs front) fit (true-fits vs ys back))
            ∙ ap (λ (l : List InputItems). with_front d.events (sequence_left order (xs ++ h ∷ ys) l))
            (rests-join xs ys h (laters xs) (laters ys) f (true-fits us xs front)
            ∙ ap (λ b. inputs_left xs (laters xs) ++ rest_as b ∷ inputs_left ys (laters ys)) laws.waits)
            ∙ ap (with_front d.events) (laws.broken_left s'.declared fault s'.offset h.greatest (length s.text) (laters xs) (laters ys)
            (true-fits us xs front) (true-fits vs ys back)))
            d.progress refl

    read_input-core : (a : Result Bool Fault) (r : Option JobEnd) (selector' : PolicyState) (output' : Target) → Advances h.source.phase h.source a s'
        → Steps h.source.phase h.source a s'
        → Follows a names (inputs_at order (xs ++ input_after h a s' ∷ ys)) turn (record { policy = policy; state = state }) output r selector' output'
        → StepLeaves d r (mk (xs ++ input_after h a s' ∷ ys) order policy selector'.state names output' decided)
    read_input-core (Ok true) r selector' output' advances steps follows = rw (follows.0, follows.1, follows.2) (found-goes advances steps)
    read_input-core (Ok false) r selector' output' advances steps follows =
        let h' : InputView = input_after h (Ok false) s' in
        let same : follows.cursor ≡ h' = (let e = sym follows.among ∙ get-at xs ys h' turn place in cc) in
        closed-core advances steps r selector' output' (asks_report order policy) refl (rw same at follows.by)
    read_input-core (Err fault) r selector' output' advances steps follows = rw (follows.0, follows.1, follows.2) (record {
      cursor = input_after h (Err fault) s';
      among = get-at xs ys (input_after h (Err fault) s') turn place;
      why = broken-ends fault advances steps;
    })

-- one input taken out of a step's premises
pub read_input-leaves : (ss : List InputPast) (before : List ℕ) (cursors : List InputView) (order : PacketOrder) (policy : Policy)
    (state : SelectorState) (names : List (List ℕ)) (output : Target) (decided : ℕ) (i : ℕ) (a : Result Bool Fault) (inputs' : InputsView)
    (r : Option JobEnd) (selector' : PolicyState) (output' : Target)
    → IsNext (inputs_at order cursors) (Next.Read i) → ReadsInput (record { order = order; cursors = cursors }) i a inputs'
    → (d : PacketsDecided ss before (mk cursors order policy state names output decided))
    → Follows a names inputs' i (record { policy = policy; state = state }) output r selector' output'
    → StepLeaves d r (mk inputs'.cursors inputs'.order policy selector'.state names output' decided)
read_input-leaves ss before cursors order policy state names output decided i a inputs' r selector' output' tells fetches d follows =
    let at : ReadAt order cursors i = read-at order ss cursors i tells d.following in
    let m = at.among in
    let h = at.cursor in
    let same : fetches.cursor ≡ h = same-input cursors i fetches.cursor h fetches.among m in
    let h' : InputView = input_after h a fetches.source in
    let cursors' = set-among cursors i h h' m in
    let feed'_is : inputs' ≡ record { order = order; cursors = m.front ++ h' ∷ m.back } =
    fetches.is ∙ ap (λ (v : InputView). record { order = order; cursors = slice_set cursors i (input_after v a fetches.source) }) same
    ∙ ap (λ (l : List InputView). record { order = order; cursors = l }) cursors' in
    let d' = rw m.splits at d in
    let st = stands-split ss m.front m.back h d'.following in
    let new : JobState = mk (m.front ++ h' ∷ m.back) order policy selector'.state names output' decided in
    let core : (e : PacketsDecided (st.front ++ st.here ∷ st.back) before (mk (m.front ++ h ∷ m.back) order policy state names output decided))
    → StepLeaves e r new = λ e.
    read_input-core st.front st.back st.here before m.front m.back h order i policy state names output decided m.place st.before e fetches.source
    at.laws (rw m.splits at tells) st.at st.following a r selector' output' (rw same at fetches.advances) (rw same at fetches.steps)
    (rw feed'_is at follows) in
    let H : List InputView → Type 0 = λ l. (e : PacketsDecided ss before (mk l order policy state names output decided)) → StepLeaves e r new in
    let whole_input : H cursors = subst H (sym m.splits) (rw (← st.is) at core) in
    rw feed'_is (whole_input d)

-- ---- an input is closed

pub closes-by : (order : PacketOrder) (input : ℕ) (cursor : InputView) (selector selector' : PolicyState) (names : List (List ℕ))
    (output output' : Target) (r : Option JobEnd) (tally : Tally) (report : Report) (answer : Result (Unit {0}) DeviceFault) → is_in_turn order ≡ true
    → selecting_inside.TakesTally (is_count selector.policy) selector (Some tally) selector' → report ≡ report_at input cursor tally
    → Reports (report_text names report) output answer output' → r ≡ unless_failed answer
    → ClosesBy (asks_report order selector.policy) names input cursor (sieve selector output) r (sieve selector' output')
closes-by ByTime input cursor selector selector' names output output' r tally report answer turn taken is reports ends = (cc)
closes-by InTurn input cursor selector selector' names output output' r tally report answer here taken is reports ends =
    by_count (is_count selector.policy) taken
  where
    by_count : (b : Bool) → selecting_inside.TakesTally b selector (Some tally) selector' → ClosesBy b names input cursor (sieve selector output) r
        (sieve selector' output')
    by_count false taken = absurd (let e = taken.0 in cc)
    by_count true taken =
        let same : tally ≡ selector.state.tally = (let e = taken.0 in cc) in
        record { answer = answer; reports = rw (is ∙ ap (report_at input cursor) same) at reports; is = ends; selector_is = taken.1 }

-- what was counted is taken of an input that is reported alone
pub counted : (order : PacketOrder) (policy : Policy) (selector selector' : PolicyState) (tally : Tally) → is_in_turn order ≡ true
    → selecting_inside.TakesTally (is_count policy) selector (Some tally) selector' → asks_report order policy ≡ false → ⊥
counted ByTime policy selector selector' tally turn taken none = (cc)
counted InTurn policy selector selector' tally here taken none =
    let e = (rw none at taken).0 in cc

-- where the inputs are merged, or packets aren't counted, nothing is reported
pub unreported : (order : PacketOrder) (input : ℕ) (cursor : InputView) (selector : PolicyState) (names : List (List ℕ)) (output : Target)
    → is_in_turn order ≡ false → ClosesBy (asks_report order selector.policy) names input cursor (sieve selector output) None (sieve selector output)
unreported InTurn input cursor selector names output merged = (cc)
unreported ByTime input cursor selector names output merged = (refl, refl, refl)

pub uncounted : (order : PacketOrder) (input : ℕ) (cursor : InputView) (selector selector' : PolicyState) (names : List (List ℕ)) (output : Target)
    → is_in_turn order ≡ true → selecting_inside.TakesTally (is_count selector.policy) selector None selector'
    → ClosesBy (asks_report order selector.policy) names input cursor (sieve selector output) None (sieve selector' output)
uncounted ByTime input cursor selector selector' names output turn taken = (cc)
uncounted InTurn input cursor selector selector' names output turn taken = by_count (is_count selector.policy) taken
  where
    by_count : (b : Bool) → selecting_inside.TakesTally b selector None selector' → ClosesBy b names input cursor (sieve selector output) None
        (sieve selector' output)
    by_count false taken = (refl, taken.1, refl)
    by_count true taken = absurd (let e = taken.0 in cc)

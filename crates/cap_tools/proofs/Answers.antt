-- The steps that decide the current packet, and what they write.
use Rattle.cap_tools.proofs.Coming.{carries-decided, true-wholes, true-fit, true-fits, get-at, At, stands-split, stands-join, rests-join, come-on}
use Rattle.cap_tools.proofs.Common.{◌≡◌, ◌⊎◌, inl, inr, ℕ, ◌+◌, ◌<◌, ◌≤◌, Bool, true, List, [], ◌∷◌, ◌++◌, length, map, Option, None, Some, Result, Ok, Err}
use Rattle.cap_tools.proofs.Common.{refl, sym, ◌∙◌, ap, arith, subst, append-nil, map-append, slice_get, slice_set, Stops, Captured, Fault, NoMemory}
use Rattle.cap_tools.proofs.Common.{WriteFailed, Placed, IsAt, IsAt-decided, Tally, InputItems, Event, Packet, SequenceEnd, Complete, FaultIn, Sequence}
use Rattle.cap_tools.proofs.Common.{sequence_of, with_front, PacketOrder, Policy, SelectorState, Verdict, Pass, PassLast, PassesAs, Skip, judge, IsWithin}
use Rattle.cap_tools.proofs.Common.{PolicyState, GrowsByOne, Form, JobProgress, IsNextEvent, decide, unless_refused, apply_verdict, apply_event, final_progress}
use Rattle.cap_tools.proofs.Common.{form_refuses, end_with, final_text, first_link, output_text, Target, Capture, Text, Lines, HasWrittenTo, form_to}
use Rattle.cap_tools.proofs.Common.{written_to, failures_to, PutsIntoOutput, InputView, Future, InputPast, AreInputsAfter, AreSettled, IsInput}
use Rattle.cap_tools.proofs.Common.{input_after_decided, items_left, inputs_left, sequence_left, actual_future, most_steps, JobEnd, BreaksAt, JobState, Meets}
use Rattle.cap_tools.proofs.Common.{a_packet, PacketsDecided, GoesOn, EndLeaves, StepLeaves, progress_of, progress_over, wholes_of, work_of, DecidesPacket}
use Rattle.cap_tools.proofs.Common.{Offers, end_after, end_of_failed_write, sieve, drained-text, PutOk, put-ok, unput, closing-some, course-stop}
use Rattle.cap_tools.proofs.Common.{greatest-decided, same-input, set-among, next-is-of, Next, form_takes_memory, packet_bytes, Report}
use Rattle.cap_process.specs.inside.Selector.{IsVerdict, FitsTally}
use Rattle.cap_tools.proofs.Fetches.{mk, comes-broken, goes-one, inputs_at, past-of, so_far}
use Rattle.cap_tools.proofs.{Laws.DecideLaws, Laws.DecideAt, Laws.decide-at, Nexts.packet-answer, Nexts.stops-at, Nexts.once-nothing, Nexts.once-packet}
use Rattle.cap_print.specs.Rendering.{printed_text}
use Rattle.cap_process.specs.declared.selector.Verdict as code
use Rattle.cap_process.specs.Outcome as course_spec
use Rattle.cap_inputs.specs.inside.Inputs as input_spec
use Rattle.cap_process.specs.declared.selector.Verdict.TheVariants as code_verdict

-- ---- a packet that is judged

-- what is written and how far the job is where a packet is decided
pub record Took (policy : Policy) (w : JobProgress) (before : List ℕ) (i : ℕ) (x : Placed) (state' : SelectorState) (names : List (List ℕ))
    (old new : Target) : Type 0 where
  pub passed : List Captured
  -- one at most
  pub upper_bound : (passed ≡ []) ⊎ ((q : Captured) × (passed ≡ q ∷ []))
  pub went : apply_event policy (form_to names old) w (Packet i x) ≡ course_spec.decide w state' passed None
  pub output : HasWrittenTo before names new (w.packets ++ passed) w.reports
  pub form : form_to names new ≡ form_to names old
  pub failures : failures_to new ≡ failures_to old

goes-by : (policy : Policy) (form : Form) (w : JobProgress) (i : ℕ) (x : Placed) (v : Verdict) (state' : SelectorState)
    → v ≡ (judge policy w.state (w.decided + 1) x.packet).verdict → state' ≡ (judge policy w.state (w.decided + 1) x.packet).state
    → apply_event policy form w (Packet i x) ≡ apply_verdict form w i x v state'
goes-by policy form w i x v state' one other = rw (one, other) refl

-- the job goes on after it
pub took : (policy : Policy) (w : JobProgress) (before : List ℕ) (i : ℕ) (x : Placed) (names : List (List ℕ)) (old new : Target)
    (state' : SelectorState) (v : code.Verdict) (q : Captured) → HasWrittenTo before names old w.packets w.reports
    → IsVerdict (judge policy w.state (w.decided + 1) x.packet) (Ok v) q state' → Offers v q old (Ok tt) new → (v ≡ code_verdict.PassLast → ⊥)
    → Took policy w before i x state' names old new
took policy w before i x names old new state' code_verdict.Pass q has exact offers on =
    let ok : PutOk before w.packets w.reports q names old new = put-ok before w.packets w.reports q names old new has offers in
    record {
      passed = q ∷ [];
      upper_bound = inr (q, refl);
      went = goes-by policy (form_to names old) w i x (Pass q) state' exact.0 exact.1
          ∙ ap (λ (f : Option Fault). unless_refused f w i x (decide w state' (q ∷ []) None)) ok.none;
      output = ok.output;
      form = ok.form;
      failures = ok.failures;
    }
took policy w before i x names old new state' code_verdict.PassLast q has exact offers on = absurd (on refl)
took policy w before i x names old new state' code_verdict.Skip q has exact offers on =
    let same : new ≡ old = offers.1 in
    rw same (record {
      passed = [];
      upper_bound = inl refl;
      went = goes-by policy (form_to names old) w i x Skip state' exact.0 exact.1;
      output = rw (append-nil w.packets) has;
      form = refl;
      failures = refl;
    })

-- ---- the true order begins with it

pub record Ahead (ss : List InputPast) (order : PacketOrder) (es : List Event) (e : Event) : Type 0 where
  pub more : Sequence
  pub is : sequence_of order (wholes_of ss) ≡ with_front es (with_front (e ∷ []) more)

-- ---- it is not written

-- why a packet that is kept isn't written, by the fault
abbrev WhyLeft : Form → Fault → Target → List Captured → Captured → Target → Type 0
WhyLeft form WriteFailed old ps q new = (form_refuses form ps q ≡ None) × (failures_to new ≡ failures_to old + 1)
    × Stops (written_to old) (packet_bytes form ps q) (written_to new)
WhyLeft form NoMemory old ps q new = (form_refuses form ps q ≡ None) × (form_takes_memory form ps q ≡ true) × (written_to new ≡ written_to old)
    × (failures_to new ≡ failures_to old)
WhyLeft form fault old ps q new = (form_refuses form ps q ≡ Some fault) × (written_to new ≡ written_to old) × (failures_to new ≡ failures_to old)

why-left : (before : List ℕ) (names : List (List ℕ)) (old : Target) (ps : List Captured) (rs : List Report) (q : Captured) (fault : Fault) (new : Target)
    → HasWrittenTo before names old ps rs → PutsIntoOutput q old (Err fault) new → WhyLeft (form_to names old) fault old ps q new
why-left before names (Capture sink) ps rs q WriteFailed new has puts =
    rw puts.is (unput before ps q sink puts.sink WriteFailed has puts.puts puts.writes)
why-left before names (Capture sink) ps rs q NoMemory new has puts = rw puts.is (unput before ps q sink puts.sink NoMemory has puts.puts puts.writes)
why-left before names (Capture sink) ps rs q fault new has puts = rw puts.is (unput before ps q sink puts.sink fault has puts.puts puts.writes)
why-left before names (Text bytes failures room) ps rs q fault new has puts = absurd (let e = puts.0 in cc)
why-left before names (Lines options bytes failures room) ps rs q fault new has puts =
    rw puts.fault (refl, ap failures_to puts.is, rw puts.is puts.appends)

module _ (ss : List InputPast) (before : List ℕ) (cursors : List InputView) (order : PacketOrder) (turn : ℕ) (policy : Policy) (state : SelectorState)
    (names : List (List ℕ)) (output : Target) (decided : ℕ) (x : Placed)
    (d : PacketsDecided ss before (mk cursors order policy state names output decided)) (ahead : Ahead ss order d.events (Packet turn x)) where
  -- it is the next event
  is-next : IsNextEvent (work_of (mk cursors order policy state names output decided)) (wholes_of ss) d.events (Packet turn x)
  is-next = record {
    later = ahead.more.events;
    is = ap (λ (s : Sequence). s.events) ahead.is;
    goes = ap (λ (w : JobProgress). w.end) d.progress;
  }

  -- the job ends at it
  stops-course : (w : JobProgress) (c : SequenceEnd) → apply_event policy (form_to names output) (progress_of d) (Packet turn x) ≡ w → w.end ≡ Some c
      → final_progress policy (form_to names output) (sequence_of order (wholes_of ss)) ≡ w
  stops-course w c went end = course-stop policy (form_to names output) (sequence_of order (wholes_of ss)) ahead.more d.events (Packet turn x)
      (progress_of d) w c ahead.is d.progress went end

  module _ (new : JobState) (cursor : InputView) (among : slice_get new.inputs.cursors turn ≡ Some cursor) (offset : cursor.source.offset ≡ x.offset) where
    refused : (fault : Fault)
        → apply_event policy (form_to names output) (progress_of d) (Packet turn x) ≡ end_with (progress_of d) (FaultIn turn fault x.offset)
        → written_to new.output ≡ written_to output → failures_to new.output ≡ failures_to output → BreaksAt d new turn fault
    refused fault went same failures = record {
      cursor = cursor;
      among = among;
      why = inl (rw offset (comes-broken ss before (mk cursors order policy state names output decided) (wholes_of ss) d new turn fault x.offset
          (stops-course (end_with (progress_of d) (FaultIn turn fault x.offset)) (FaultIn turn fault x.offset) went refl) same failures));
    }

    unput-leaves : (state' : SelectorState) (q : Captured) (o : Option SequenceEnd) (fault : Fault)
        → apply_event policy (form_to names output) (progress_of d) (Packet turn x) ≡ unless_refused (form_refuses (form_to names output) d.packets q)
        (progress_of d) turn x (decide (progress_of d) state' (q ∷ []) o)
        → Meets (inputs_at order cursors) new.inputs (Some (Packet turn x)) → PassesAs (judge policy state (decided + 1) x.packet).verdict q
        → WhyLeft (form_to names output) fault output d.packets q new.output → EndLeaves d (end_of_failed_write turn fault) new
    unput-leaves state' q o WriteFailed went met passes why =
        let m : JobState = mk cursors order policy state names output decided in
        stops-at ss before m new (packet_bytes (form_to names output) d.packets q) d (Some (Packet turn x)) met
        (packet-answer ss before m d turn x q is-next passes why.0) why.2 why.1
    unput-leaves state' q o NoMemory went met passes why = record {
      cursor = cursor;
      among = among;
      why = inr (inr (record {
        packet = x;
        met = met;
        needs = record {
          next = is-next;
          kept = q;
          passes = (rw d.progress passes);
          taken = ap (λ (v : JobProgress). form_refuses (form_to names output) v.packets q) d.progress ∙ why.0;
          takes = ap (λ (v : JobProgress). form_takes_memory (form_to names output) v.packets q) d.progress ∙ why.1;
        };
        place = offset;
        why = refl;
        written = why.2;
        device = why.3;
      }));
    }
    unput-leaves state' q o fault went met passes why =
        refused fault (went ∙ ap (λ (f : Option Fault). unless_refused f (progress_of d) turn x (decide (progress_of d) state' (q ∷ []) o)) why.0) why.1 why.2

-- the job after an answer: `new` if the packet is decided, `failed` if it isn't
abbrev pub AnswerLeaves : {ss : List InputPast} {before : List ℕ} {old : JobState} → PacketsDecided ss before old → Result code.Verdict JobEnd
    → JobState → JobState → Type 0
AnswerLeaves {ss} {before} {old} d (Ok verdict) new failed = StepLeaves d (end_after verdict) new
AnswerLeaves {ss} {before} {old} d (Err e) new failed = EndLeaves d e failed

-- ---- it is decided

-- one packet more fits
within-room : (n : ℕ) (t : Tally) → n ≤ most_steps → IsWithin n t → FitsTally t
within-room n t less within =
    let a = within.0 in
    let b = within.1 in
    let c = within.2 in
    (omega (arith, less, a), omega (arith, less, b), omega (arith, less, c))

counted-more : (n : ℕ) (t t' : Tally) → IsWithin n t → GrowsByOne t t' → IsWithin (n + 1) t'
counted-more n t t' within grows =
    let a = within.0 in
    let b = within.1 in
    let c = within.2 in
    let x = grows.0 in
    let y = grows.1 in
    let z = grows.2 in
    (omega (arith, a, x), omega (arith, b, y), omega (arith, c, z))

some-packets : (ps : List Captured) (q : Captured) → 0 ≡ length (ps ++ q ∷ []) → ⊥
some-packets [] q e = absurd (omega (arith, e))
some-packets (x ∷ ps) q e = absurd (omega (arith, e))

module _ (us vs : List InputPast) (s : InputPast) (before : List ℕ) (xs ys : List InputView) (h : InputView) (order : PacketOrder) (turn : ℕ)
    (policy : Policy) (state : SelectorState) (names : List (List ℕ)) (output : Target) (decided : ℕ) (p : Captured)
    (laws : DecideLaws order turn xs ys h) (front : AreInputsAfter us xs) (at : At s h) (back : AreInputsAfter vs ys) (held : h.source.packet ≡ Some p)
    (d : PacketsDecided (us ++ s ∷ vs) before (mk (xs ++ h ∷ ys) order policy state names output decided)) where
  abbrev here : Placed
  here = record { offset = h.source.offset; packet = p }

  abbrev h' : InputView
  h' = input_after_decided h

  next-true : Ahead (us ++ s ∷ vs) order d.events (Packet turn here)
  next-true =
      let fits = true-fits (us ++ s ∷ vs) (xs ++ h ∷ ys) d.following in
      record {
        more = sequence_left order (xs ++ h' ∷ ys) (inputs_left xs (map (λ (v : InputView). actual_future v.source) xs)
            ++ items_left h' (actual_future h.source) ∷ inputs_left ys (map (λ (v : InputView). actual_future v.source) ys));
        is =
            ap (sequence_of order) (sym (true-wholes (us ++ s ∷ vs) (xs ++ h ∷ ys) d.following))
            ∙ d.come (map (λ (v : InputView). actual_future v.source) (xs ++ h ∷ ys)) fits
            ∙ ap (λ (l : List Future). with_front d.events (sequence_left order (xs ++ h ∷ ys) (inputs_left (xs ++ h ∷ ys) l)))
            (map-append (λ (v : InputView). actual_future v.source) xs (h ∷ ys))
            ∙ ap (λ (l : List InputItems). with_front d.events (sequence_left order (xs ++ h ∷ ys) l))
            (rests-join xs ys h (map (λ (v : InputView). actual_future v.source) xs) (map (λ (v : InputView). actual_future v.source) ys)
            (actual_future h.source) (true-fits us xs front))
            ∙ ap (with_front d.events) (laws.decided_left p held (actual_future h.source) (true-fit s h at)
            (map (λ (v : InputView). actual_future v.source) xs) (map (λ (v : InputView). actual_future v.source) ys) (true-fits us xs front)
            (true-fits vs ys back));
      }

  module _ (state' : SelectorState) (output' : Target) (within : state'.passed ≤ decided + 1) (grows : GrowsByOne state.tally state'.tally) where
    decided-goes : Took policy (progress_of d) before turn here state' names output output'
        → GoesOn d (mk (xs ++ h' ∷ ys) order policy state' names output' (decided + 1))
    decided-goes t =
        let P : Bool → Type 0 = λ b. IsAt s.text s.done s.packets b h.source in
        let was : IsAt s.text s.done s.packets true h.source = subst P laws.waits at in
        let same : (was.waits refl).packet ≡ p = (let e : Some (was.waits refl).packet ≡ Some p = sym (was.waits refl).held ∙ held in cc) in
        let past : InputPast = past-of s h.source.block (here ∷ []) in
        let stands : At past h' = rw same at (IsAt-decided s.text s.done s.packets h.source was).1 in
        let come : AreSettled (us ++ past ∷ vs) (inputs_at order (xs ++ h' ∷ ys)) (d.events ++ Packet turn here ∷ []) = come-on us vs s past xs ys h
        h' order d.events (Packet turn here ∷ []) front d.come
        (λ f' fit. carries-decided s xs ys h turn order h.source.block p laws.waits held (λ f fit fs gs before with_front. laws.decided_left p held f fit
        fs gs before with_front) f' fit) in
        let far : JobProgress = so_far (decided + 1) state' (d.packets ++ t.passed) d.reports in
        goes-one us vs s before xs ys h order turn policy state names output decided laws.here front d h' state' output' (decided + 1) h.source.block
        (here ∷ []) (Packet turn here ∷ []) (d.packets ++ t.passed) d.reports (stands-join us vs past xs ys h' front stands back)
        (greatest-decided h p h.source.offset s.packets held) refl come t.went t.output t.form t.failures
        (elim t.upper_bound [
          | inl none ↦ once-nothing (form_to names output) (first_link (wholes_of (us ++ s ∷ vs))) (progress_of d) far output output'
              (ap (λ (l : List Captured). d.packets ++ l) none ∙ append-nil d.packets) refl (took-nothing none)
          | inr one ↦ once-packet (first_link (wholes_of (us ++ s ∷ vs))) before (progress_of d) far names output output' one.0 d.output
              (took-one one.0 one.1) t.form (ap (λ (l : List Captured). d.packets ++ l) one.1) refl
        ])
        within (counted-more decided state.tally state'.tally d.counted grows) (omega arith)
      where
        took-one : (q : Captured) → t.passed ≡ q ∷ [] → HasWrittenTo before names output' (d.packets ++ q ∷ []) d.reports
        took-one q is = rw is at t.output

        took-nothing : t.passed ≡ [] → written_to output' ≡ written_to output
        took-nothing is =
            let has : HasWrittenTo before names output' d.packets d.reports =
            rw (ap (λ (l : List Captured). d.packets ++ l) is ∙ append-nil d.packets) at t.output in
            drained-text before names output' d.packets d.reports has
            ∙ ap (λ (f : Form). before ++ output_text f d.packets d.reports) t.form
            ∙ sym (drained-text before names output d.packets d.reports d.output)

    -- it is the last
    last-leaves : (q : Captured) → IsVerdict (judge policy state (decided + 1) p) (Ok code_verdict.PassLast) q state'
        → Offers code_verdict.PassLast q output (Ok tt) output'
        → EndLeaves d JobEnd.Complete (mk (xs ++ h' ∷ ys) order policy state' names output' (decided + 1))
    last-leaves q exact offers =
        let w : JobProgress = progress_of d in
        let link : Option ℕ = first_link (wholes_of (us ++ s ∷ vs)) in
        let ok : PutOk before w.packets w.reports q names output output' = put-ok before w.packets w.reports q names output output' d.output offers in
        let stop = stops-course (us ++ s ∷ vs) before (xs ++ h ∷ ys) order turn policy state names output decided here d next-true
        (course_spec.decide w state' (q ∷ []) (Some Complete)) Complete
        (goes-by policy (form_to names output) w turn here (PassLast q) state' exact.0 exact.1
        ∙ ap (λ (f : Option Fault). unless_refused f w turn here (decide w state' (q ∷ []) (Some Complete))) ok.none) refl in
        record {
          ends = ap (λ (v : JobProgress). v.end) stop;
          written =
              closing-some before names (form_to names output) output' link (d.packets ++ q ∷ []) d.reports
              (decided + 1) state' ok.output ok.form (some-packets d.packets q)
              ∙ ap (λ (v : JobProgress). before ++ final_text (form_to names output) link v) (sym stop);
          once = once-packet link before w (progress_over (mk (xs ++ h ∷ ys) order policy state names output decided)
              (wholes_of (us ++ s ∷ vs))) names output output' q d.output ok.output ok.form
              (ap (λ (v : JobProgress). v.packets) stop) (ap (λ (v : JobProgress). v.reports) stop);
          device = ok.failures;
        }

    answer-core : (r : Result code.Verdict JobEnd) → input_spec.IsNext (inputs_at order (xs ++ h ∷ ys)) (Next.Decide turn)
        → DecidesPacket (Some p) turn (decided + 1) (sieve (record { policy = policy; state = state }) output) r
        (sieve (record { policy = policy; state = state' }) output')
        → AnswerLeaves d r (mk (xs ++ h' ∷ ys) order policy state' names output' (decided + 1))
        (mk (xs ++ h ∷ ys) order policy state' names output' decided)
    answer-core (Ok code_verdict.Pass) tells judged =
        decided-goes (took policy (progress_of d) before turn here names output output' state' code_verdict.Pass judged.packet d.output judged.exact
        judged.offers (λ is. (cc)))
    answer-core (Ok code_verdict.Skip) tells judged =
        decided-goes (took policy (progress_of d) before turn here names output output' state' code_verdict.Skip judged.packet d.output judged.exact
        judged.offers (λ is. (cc)))
    answer-core (Ok code_verdict.PassLast) tells judged = last-leaves judged.packet judged.exact judged.offers
    answer-core (Err e) tells judged =
        elim judged [
          | inl f ↦ rw f.is (by_verdict f.fault f.verdict f.judges.packet f.judges.exact f.judges.offers)
          | inr j ↦ rw j.is (refused (us ++ s ∷ vs) before (xs ++ h ∷ ys) order turn policy state names output decided here d next-true failed h among refl
              j.fault
              (ap (λ (v : Verdict). apply_verdict (form_to names output) (progress_of d) turn here v (judge policy state (decided + 1) p).state) j.exact)
              (ap written_to j.same) (ap failures_to j.same))
        ]
      where
        failed : JobState
        failed = mk (xs ++ h ∷ ys) order policy state' names output' decided

        among : slice_get (xs ++ h ∷ ys) turn ≡ Some h
        among = get-at xs ys h turn laws.here

        left : (fault : Fault) (v : Verdict) (q : Captured) (o : Option SequenceEnd) → v ≡ (judge policy state (decided + 1) p).verdict → PassesAs v q
            → apply_event policy (form_to names output) (progress_of d) (Packet turn here)
            ≡ unless_refused (form_refuses (form_to names output) d.packets q) (progress_of d) turn here (decide (progress_of d) state' (q ∷ []) o)
            → PutsIntoOutput q output (Err fault) output' → EndLeaves d (end_of_failed_write turn fault) failed
        left fault v q o is passes went puts =
            unput-leaves (us ++ s ∷ vs) before (xs ++ h ∷ ys) order turn policy state names output decided here d next-true failed h among refl state' q o
            fault went (a_packet turn h p (next-is-of (inputs_at order (xs ++ h ∷ ys)) (Next.Decide turn) tells) among held refl) (rw is at passes)
            (why-left before names output d.packets d.reports q fault output' d.output puts)

        by_verdict : (fault : Fault) (v : code.Verdict) (q : Captured) → IsVerdict (judge policy state (decided + 1) p) (Ok v) q state'
            → Offers v q output (Err fault) output' → EndLeaves d (end_of_failed_write turn fault) failed
        by_verdict fault code_verdict.Pass q exact offers =
            left fault (Pass q) q None exact.0 refl (goes-by policy (form_to names output) (progress_of d) turn here (Pass q) state' exact.0 exact.1) offers
        by_verdict fault code_verdict.PassLast q exact offers =
            left fault (PassLast q) q (Some Complete) exact.0 refl
            (goes-by policy (form_to names output) (progress_of d) turn here (PassLast q) state' exact.0 exact.1) offers
        by_verdict fault code_verdict.Skip q exact offers = absurd (let e = offers.0 in cc)

pub answer-leaves : (ss : List InputPast) (before : List ℕ) (cursors : List InputView) (order : PacketOrder) (policy : Policy) (state : SelectorState)
    (names : List (List ℕ)) (output : Target) (decided i : ℕ) (r : Result code.Verdict JobEnd) (h : InputView) (selector' : PolicyState) (output' : Target)
    → input_spec.IsNext (inputs_at order cursors) (Next.Decide i) → IsInput cursors i h → selector'.policy ≡ policy
    → (state.passed ≤ decided + 1 → selector'.state.passed ≤ decided + 1) → GrowsByOne state.tally selector'.state.tally → decided ≤ most_steps
    → (state.passed < decided + 1 → FitsTally state.tally → DecidesPacket h.source.packet i (decided + 1)
    (sieve (record { policy = policy; state = state }) output) r (sieve selector' output'))
    → (d : PacketsDecided ss before (mk cursors order policy state names output decided))
    → AnswerLeaves d r (mk (slice_set cursors i (input_after_decided h)) order policy selector'.state names output' (decided + 1))
    (mk cursors order policy selector'.state names output' decided)
answer-leaves ss before cursors order policy state names output decided i r other selector' output' tells among_other asks passes grows upper_bound decides d =
    let at : DecideAt order cursors i = decide-at order ss cursors i tells d.following in
    let among = at.among in
    let h = at.cursor in
    let same : other ≡ h = same-input cursors i other h among_other among in
    let d' = rw among.splits at d in
    let st = stands-split ss among.front among.back h d'.following in
    let was : IsAt st.here.text st.here.done st.here.packets true h.source = rw at.laws.waits at st.at in
    let has = was.waits refl in
    let within : state.passed < decided + 1 = (let l = d.passed in omega (arith, l)) in
    let C' : Policy → Type 0 = λ k. DecidesPacket (Some has.packet) i (decided + 1) (sieve (record { policy = policy; state = state }) output) r
    (sieve (record { policy = k; state = selector'.state }) output') in
    let held : other.source.packet ≡ Some has.packet = ap (λ (v : InputView). v.source.packet) same ∙ has.held in
    let chosen = subst C' asks (rw held at (decides within (within-room decided state.tally upper_bound d.counted))) in
    let cursors' = set-among cursors i h (input_after_decided h) among in
    let new : List InputView → JobState = λ l. mk l order policy selector'.state names output' (decided + 1) in
    let failed : List InputView → JobState = λ l. mk l order policy selector'.state names output' decided in
    let passes_on : selector'.state.passed ≤ decided + 1 = passes (let l = d.passed in omega (arith, l)) in
    let core : (e : PacketsDecided (st.front ++ st.here ∷ st.back) before (mk (among.front ++ h ∷ among.back) order policy state names output
    decided)) → AnswerLeaves e r (new (among.front ++ input_after_decided h ∷ among.back)) (failed (among.front ++ h ∷ among.back)) = λ e.
    answer-core st.front st.back st.here before among.front among.back h order i policy state names output decided has.packet at.laws st.before st.at
    st.following has.held e selector'.state output' passes_on grows r (rw among.splits at tells) chosen in
    let H : List InputView → Type 0 = λ l. (e : PacketsDecided ss before (mk l order policy state names output decided))
    → AnswerLeaves e r (new (among.front ++ input_after_decided h ∷ among.back)) (failed l) in
    let whole : H cursors = subst H (sym among.splits) (rw (← st.is) at core) in
    rw (← same) at (rw (← cursors') at (whole d))

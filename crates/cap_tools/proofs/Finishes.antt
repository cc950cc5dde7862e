-- The step that completes the output.
use Rattle.cap_tools.proofs.Coming.{true-whole, true-wholes, true-fit, true-fits, At}
use Rattle.cap_tools.proofs.Common.{None, all_ends, ◌≡◌, ℕ, ◌+◌, List, [], ◌∷◌, ◌++◌, map, Option, Some, Result, Ok, Err, refl, sym, ◌∙◌, ap, subst, add-zero}
use Rattle.cap_tools.proofs.Common.{append-nil, option_or, Stops, Captured, DeviceFault, WriteFailed, first_link_of, items, file_start, text, Ended, Report}
use Rattle.cap_tools.proofs.Common.{Event, InputItems, Complete, sequence_of, with_front, PacketOrder, Policy, SelectorState, JobProgress, closing_text}
use Rattle.cap_tools.proofs.Common.{lines_text, end_with, final_text, first_link, Target, Capture, Text, Lines, HasWrittenTo, form_to, written_to, failures_to}
use Rattle.cap_tools.proofs.Common.{EndsOutput, InputView, Future, InputPast, AreInputsAfter, IsNext, AllEnded, actual_future, first_declared_link, next-is-of}
use Rattle.cap_tools.proofs.Common.{reports_text, JobState, PacketsDecided, EndLeaves, end_of_write, progress_at, progress_of, progress_over, wholes_of, Next}
use Rattle.cap_io.specs.Sink.{SinkView, FinishesEmpty, link_or_ethernet}
use Rattle.cap_io.proofs.Texts.{finish-none, finish-none-writes, finish-some}
use Rattle.cap_tools.proofs.{Fetches.mk, Fetches.inputs_at, Laws.OverAt, Laws.over-at, Nexts.all-course, Nexts.stops-at, Nexts.once-closing}

declared-one : (s : InputPast) (h : InputView) → At s h → h.source.phase ≡ Ended → first_link_of (items s.text).declared ≡ first_link_of h.source.declared
declared-one s h at e =
    ap (λ (r : InputItems). first_link_of r.items.declared) (sym (true-whole s h at))
    ∙ ap (λ (f : Future). first_link_of f.items.declared) (true-fit s h at e)

pub links : (ss : List InputPast) (hs : List InputView) → AreInputsAfter ss hs → AllEnded hs → first_link (wholes_of ss) ≡ first_declared_link hs
links [] [] st ended = refl
links [] (h ∷ hs) st ended = absurd st
links (s ∷ ss) [] st ended = absurd st
links (s ∷ ss) (h ∷ hs) st ended =
    ap (λ (o : Option ℕ). option_or o (first_link (wholes_of ss))) (declared-one s h st.0 ended.0)
    ∙ ap (option_or (first_link_of h.source.declared)) (links ss hs st.1 ended.1)

abbrev over : JobState → List Captured → List Report → JobProgress
over m packets reports = end_with (progress_at m packets reports) Complete

-- what is written of a job that met its clean end
finish-text : (before : List ℕ) (names : List (List ℕ)) (ps : List Captured) (rs : List Report) (n : ℕ) (state : SelectorState) (target new : Target)
    (link : Option ℕ) → HasWrittenTo before names target ps rs → EndsOutput link target (Ok tt) new
    → written_to new ≡ before ++ final_text (form_to names target) link (record { decided = n; state = state; packets = ps; reports = rs; end = Some Complete })
finish-text before names [] rs n state (Capture sink) new link has finishes =
    ap written_to finishes.is
    ∙ finish-none-writes before sink link (Ok tt) finishes.sink has finishes.writes
    ∙ ap (λ (l : List ℕ). l ++ file_start sink.format (link_or_ethernet link)) (has.written ∙ append-nil before)
finish-text before names (q ∷ qs) rs n state (Capture sink) new link has finishes =
    let same = finish-some before q qs sink link (Ok tt) finishes.sink has finishes.finishes in
    ap written_to finishes.is ∙ ap (λ (v : SinkView). v.written) same.1 ∙ has.written ∙ ap (λ (l : List ℕ). before ++ l)
    (sym (append-nil (text sink.format (q ∷ qs))))
finish-text before names ps rs n state (Text bytes failures room) new link has finishes =
    ap written_to finishes.1 ∙ has ∙ ap (λ (l : List ℕ). before ++ l) (sym (append-nil (reports_text names rs)))
finish-text before names ps rs n state (Lines options bytes failures room) new link has finishes =
    ap written_to finishes.1 ∙ has ∙ ap (λ (l : List ℕ). before ++ l) (sym (append-nil (lines_text options ps)))

-- it is written without a failure
finish-device : (before : List ℕ) (names : List (List ℕ)) (ps : List Captured) (rs : List Report) (target new : Target) (link : Option ℕ)
    → HasWrittenTo before names target ps rs → EndsOutput link target (Ok tt) new
    → failures_to new ≡ failures_to target
finish-device before names [] rs (Capture sink) new link has finishes =
    let empty : FinishesEmpty sink (link_or_ethernet link) (Ok tt) finishes.sink = finish-none before sink link (Ok tt) finishes.sink has finishes.finishes in
    ap failures_to finishes.is ∙ empty.failures ∙ add-zero sink.failures
finish-device before names (q ∷ qs) rs (Capture sink) new link has finishes =
    let same = finish-some before q qs sink link (Ok tt) finishes.sink has finishes.finishes in
    ap failures_to finishes.is ∙ ap (λ (v : SinkView). v.failures) same.1
finish-device before names ps rs (Text bytes failures room) new link has finishes = ap failures_to finishes.1
finish-device before names ps rs (Lines options bytes failures room) new link has finishes = ap failures_to finishes.1

-- the device failed at the file header of a capture, which has no packets then
finish-stops : (before : List ℕ) (names : List (List ℕ)) (ps : List Captured) (rs : List Report) (target new : Target) (link : Option ℕ)
    (fault : DeviceFault) → HasWrittenTo before names target ps rs → EndsOutput link target (Err fault) new
    → Stops (written_to target) (closing_text (form_to names target) link ps) (written_to new) × (failures_to new ≡ failures_to target + 1)
finish-stops before names (q ∷ qs) rs (Capture sink) new link fault has finishes = absurd
    (let same = finish-some before q qs sink link (Err finishes.0) finishes.1.sink has finishes.1.finishes in let e = same.0 in cc)
finish-stops before names [] rs (Capture sink) new link fault has finishes =
    let to = finishes.1 in
    let empty : FinishesEmpty sink (link_or_ethernet link) (Err finishes.0) to.sink = finish-none before sink link (Err finishes.0) to.sink has to.finishes in
    let exact : finishes.0 ≡ WriteFailed = empty.answer in
    let failed : to.sink.failures ≡ sink.failures + 1 = rw exact at empty.failures in
    let S : Target → Type 0 = λ t. Stops sink.written (file_start sink.format (link_or_ethernet link)) (written_to t) in
    (subst S (sym to.is) (finish-none-writes before sink link (Err finishes.0) to.sink has to.writes), ap failures_to to.is ∙ failed)
finish-stops before names ps rs (Text bytes failures room) new link fault has finishes = absurd (let e = finishes.0 in cc)
finish-stops before names ps rs (Lines options bytes failures room) new link fault has finishes = absurd (let e = finishes.0 in cc)

module _ (ss : List InputPast) (before : List ℕ) (cursors : List InputView) (order : PacketOrder) (policy : Policy) (state : SelectorState)
    (names : List (List ℕ)) (output : Target) (decided : ℕ) (new : JobState) (tells : IsNext (inputs_at order cursors) Next.Finish)
    (inputs : new.inputs ≡ inputs_at order cursors) (d : PacketsDecided ss before (mk cursors order policy state names output decided)) where
  abbrev m : JobState
  m = mk cursors order policy state names output decided

  at : OverAt order cursors
  at = over-at order cursors tells

  -- all events have come
  all : sequence_of order (wholes_of ss) ≡ record { events = d.events; end = Complete }
  all =
      let fits = true-fits ss cursors d.following in
      ap (sequence_of order) (sym (true-wholes ss cursors d.following))
      ∙ d.come (map (λ (h : InputView). actual_future h.source) cursors) fits
      ∙ ap (with_front d.events) (at.over_left (map (λ (h : InputView). actual_future h.source) cursors) fits)
      ∙ ap (λ (l : List Event). record { events = l; end = Complete }) (append-nil d.events)

  link : first_link (wholes_of ss) ≡ first_declared_link cursors
  link = links ss cursors d.following at.ended

  pub finish-leaves : (r : Result (Unit {0}) DeviceFault) → EndsOutput (first_declared_link cursors) output r new.output → EndLeaves d (end_of_write r) new
  finish-leaves (Ok done) finishes =
      let stop = all-course ss before m d all in
      let text_is : written_to new.output ≡ before ++ final_text (form_to names output) (first_link (wholes_of ss)) (over m d.packets d.reports) =
      finish-text before names d.packets d.reports decided state output new.output (first_declared_link cursors) d.output finishes
      ∙ ap (λ (o : Option ℕ). before ++ final_text (form_to names output) o (over m d.packets d.reports)) (sym link) in
      record {
        ends = ap (λ (w : JobProgress). w.end) stop;
        written = text_is ∙ ap (λ (w : JobProgress). before ++ final_text (form_to names output) (first_link (wholes_of ss)) w) (sym stop);
        once = once-closing (first_link (wholes_of ss)) before (progress_of d) (progress_over m (wholes_of ss)) names output new.output d.output text_is
            (ap (λ (w : JobProgress). w.packets) stop) (ap (λ (w : JobProgress). w.reports) stop) (ap (λ (w : JobProgress). w.end) stop);
        device = finish-device before names d.packets d.reports output new.output (first_declared_link cursors) d.output finishes;
      }
  finish-leaves (Err fault) finishes =
      let stop = finish-stops before names d.packets d.reports output new.output (first_declared_link cursors) fault d.output finishes in
      let bytes : Option ℕ → List ℕ = λ o. closing_text (form_to names output) o d.packets in
      stops-at ss before m new (bytes (first_declared_link cursors)) d None
      (all_ends (next-is-of (inputs_at order cursors) Next.Finish tells) inputs) (
        record { is = all; goes = ap (λ (w : JobProgress). w.end) d.progress },
        ap bytes (sym link) ∙ ap (λ (w : JobProgress). closing_text (form_to names output) (first_link (wholes_of ss)) w.packets) (sym d.progress),
      )
      stop.0 stop.1

-- The progress of a job over some events determines its progress over those after them.
use Rattle.std.proofs.Common.{arith, ◌≡◌, List, [], ◌∷◌, ◌++◌, Option, None, Some, refl, ◌∙◌, ℕ, sym}
use Rattle.std.proofs.lemmas.List.{append_assoc, append-nil}
use Rattle.cap_io.specs.Sequence.{Event, SequenceEnd, Sequence, with_front}
use Rattle.cap_process.specs.Outcome.{Form, JobProgress, no_progress, unless_ended, apply_event, next_progress, apply_events, end_with, end_unless_ended}
use Rattle.cap_process.specs.Outcome.{final_progress, decide, unless_refused, apply_verdict, end_input}
use Rattle.cap_octet.specs.{Packet.Captured, declared.fault.Fault.Fault}
use Rattle.cap_io.specs.{Capture.Placed, declared.source.Kind.Kind}
use Rattle.cap_process.specs.{Verdict.Policy, Verdict.Count, Verdict.SelectorState, Verdict.Verdict, Reports.Report}

pub progress-append : (a : Policy) (f : Form) (w : JobProgress) (xs ys : List Event) → apply_events a f w (xs ++ ys) ≡ apply_events a f
    (apply_events a f w xs) ys
progress-append a f w [] ys = refl
progress-append a f w (x ∷ xs) ys = progress-append a f (next_progress a f w x) xs ys

-- what ended stays
pub progress-ended : (a : Policy) (f : Form) (w : JobProgress) (es : List Event) (c : SequenceEnd) → w.end ≡ Some c → apply_events a f w es ≡ w
progress-ended a f w [] c is = refl
progress-ended a f w (e ∷ es) c is = grind (arith, progress-ended a f w es c is)

-- the job ends at this event
pub course-stop : (a : Policy) (f : Form) (sequence more : Sequence) (es : List Event) (e : Event) (w w' : JobProgress) (c : SequenceEnd)
    → sequence ≡ with_front es (with_front (e ∷ []) more) → apply_events a f no_progress es ≡ w → next_progress a f w e ≡ w' → w'.end ≡ Some c
    → final_progress a f sequence ≡ w'
course-stop a f sequence more es e w w' c is far step end = grind (arith, progress-append, progress-ended)

-- nothing more comes
pub course-close : (a : Policy) (f : Form) (sequence : Sequence) (es : List Event) (w : JobProgress) (c : SequenceEnd) → sequence ≡ with_front es
    (record { events = []; end = c }) → apply_events a f no_progress es ≡ w → w.end ≡ None
    → final_progress a f sequence ≡ end_with w c
course-close a f sequence es w c is far end = grind (arith, progress-append)

-- one event more
pub progress-next : (a : Policy) (f : Form) (es : List Event) (e : Event) (w w' : JobProgress) → apply_events a f no_progress es ≡ w
    → next_progress a f w e ≡ w' → apply_events a f no_progress (es ++ e ∷ []) ≡ w'
progress-next a f es e w w' far step = grind (arith, progress-append)

pub record Grows (w w' : JobProgress) : Type 0 where
  pub packets : List Captured
  pub packets_is : w'.packets ≡ w.packets ++ packets
  pub reports : List Report
  pub reports_is : w'.reports ≡ w.reports ++ reports

grows-none : (w w' : JobProgress) → w'.packets ≡ w.packets → w'.reports ≡ w.reports → Grows w w'
grows-none w w' ps rs = record { packets = []; packets_is = ps ∙ sym (append-nil w.packets); reports = []; reports_is = rs ∙ sym (append-nil w.reports) }

refused-grows : (r : Option Fault) (w : JobProgress) (i : ℕ) (x : Placed) (state : SelectorState) (q : Captured) (o : Option SequenceEnd)
    → Grows w (unless_refused r w i x (decide w state (q ∷ []) o))
refused-grows r w i x state q o = grind (arith, append-nil, grows-none)

verdict-grows : (form : Form) (w : JobProgress) (i : ℕ) (x : Placed) (v : Verdict) (state : SelectorState) → Grows w (apply_verdict form w i x v state)
verdict-grows form w i x v state = grind (arith, refused-grows, append-nil, grows-none)

closed-grows : (policy : Policy) (w : JobProgress) (i : ℕ) (kind : Option Kind) (size : ℕ) → Grows w (end_input policy w i kind size)
closed-grows Count w i kind size =
    record {
      packets = [];
      packets_is = sym (append-nil w.packets);
      reports = record { input = i; kind = kind; size = size; tally = w.state.tally } ∷
          [];
      reports_is = refl;
    }
closed-grows _ w i kind size = grows-none w w refl refl

goes-grows : (policy : Policy) (form : Form) (w : JobProgress) (e : Event) → Grows w (apply_event policy form w e)
goes-grows policy form w e = grind (arith, verdict-grows, closed-grows)

unless-grows : (o : Option SequenceEnd) (w next : JobProgress) → Grows w next → Grows w (unless_ended o w next)
unless-grows o w next g = grind (arith, grows-none)

grows-on : (a b c : JobProgress) → Grows a b → Grows b c → Grows a c
grows-on a b c one other = grind (arith, append_assoc)

progress-grows : (policy : Policy) (form : Form) (w : JobProgress) (es : List Event) → Grows w (apply_events policy form w es)
progress-grows policy form w [] = grows-none w w refl refl
progress-grows policy form w (e ∷ es) =
    grows-on w (next_progress policy form w e) (apply_events policy form (next_progress policy form w e) es)
    (unless-grows w.end w (apply_event policy form w e) (goes-grows policy form w e)) (progress-grows policy form (next_progress policy form w e) es)

-- how far a job comes after events that come first
pub course-grows : (policy : Policy) (form : Form) (sequence more : Sequence) (es : List Event) (w : JobProgress) → sequence ≡ with_front es more
    → apply_events policy form no_progress es ≡ w → Grows w (final_progress policy form sequence)
course-grows policy form sequence more es w is far =
    let last : JobProgress = apply_events policy form w more.events in
    rw (is, progress-append policy form no_progress es more.events, far) (grows-on w last (end_unless_ended last more.end)
    (progress-grows policy form w more.events) (grind (arith, unless-grows, grows-none)))

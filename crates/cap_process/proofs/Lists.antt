-- The verdicts on packets that come one after another select a list of packets, and end the job at
-- one of them.
use Rattle.std.proofs.Common.{◌≡◌, ℕ, suc, ◌+◌, ◌-◌, ◌^◌, ◌<◌, ◌==◌, ◌&&◌, Bool, true, false, if◌then◌else◌, nat_le, min, max, Option, None, Some, List, []}
use Rattle.std.proofs.Common.{◌∷◌, ◌++◌, length, refl, sym, ◌∙◌, arith}
use Rattle.std.specs.Option.{option_or, unwrap_or, IfSome}
use Rattle.cap_io.specs.Sequence.{Event, Packet, InputEnd, SequenceEnd, Complete, FaultIn, end_of, packet_events}
use Rattle.cap_io.specs.Capture.{Placed, Ending, End}
use Rattle.cap_filter.specs.FilterRules.{Decision, Keep, Rule, rule_decides}
use Rattle.cap_process.specs.Verdict.{Policy, Count, Filter, Edit, EditRule, Judgement, Verdict, PassLast, Pass, Skip, Refuse, SelectorState, initial_state}
use Rattle.cap_process.specs.Verdict.{edited_packet_with, filters, is_last, is_selected, judge, shifted_time, passes, refuses, selects, skip_judgement, unique}
use Rattle.cap_process.specs.Verdict.{with_mark}
use Rattle.cap_process.specs.Outcome.{Form, AsReports, JobProgress, no_progress, form_refuses, unless_refused, decide, apply_verdict, end_input, end_with}
use Rattle.cap_process.specs.Outcome.{apply_events}
use Rattle.cap_process.specs.Lists.{is_repeated, packets_selected, unique_after, kept_by, at_most, end_at_time, first_without_time, packets_of, tally_of}
use Rattle.cap_process.specs.Lists.{CountsAll, EndsWithoutTime, HasLastMarks, PassesFiltered, ascends, final, greatest, packets_kept as kept, least, marks}
use Rattle.cap_process.specs.Lists.{times}
use Rattle.cap_process.specs.Whole.{event_packets, packets_written, written_unless, first_refusal, end_by_decision, is_reached, rule_end}
use Rattle.cap_octet.specs.declared.fault.Fault.{Fault, TheVariants.TimeOutOfRange}
use Rattle.std.proofs.lemmas.List.{map-append, append_assoc, append-nil, length-append, Sums.sum_by-append}
use Rattle.cap_process.proofs.{Selectors.upper_bound, Marks.last-last, Outcomes.progress-ended}
use Rattle.std.proofs.Math.{Seq.take-nil, Seq.drop-nil, Bool.and-true, Bool.and_assoc}
use Rattle.cap_process.specs.{Marks.mark_of, Marks.has_same, Marks.last, Reports.tally_with, Reports.Report, declared.mark.Mark.Mark, Selector.is_count}
use Rattle.{std.specs.List.sum_by, std.proofs.lemmas.Bool.Decides.nat_tests, cap_octet.specs.Packet.Captured, cap_io.specs.declared.source.Kind.Kind}
use Rattle.cap_filter.specs.FilterRules as chosen

-- ---- what is counted

sum-next : (f : Captured → ℕ) (ps : List Captured) (p : Captured) → sum_by f (ps ++ p ∷ []) ≡ sum_by f ps + f p
sum-next f ps p = grind (arith, sum_by-append)

greatest-next : (ts : List ℕ) (t : ℕ) → greatest (ts ++ t ∷ []) ≡ max (greatest ts) t
greatest-next [] t = grind arith
greatest-next (a ∷ ts) t = grind (arith, greatest-next ts t)

final-next : (ts : List ℕ) (t : ℕ) → final (ts ++ t ∷ []) ≡ t
final-next (a ∷ b ∷ ts) t = final-next (b ∷ ts) t
final-next _ t = refl

least-next : (a : ℕ) (ts : List ℕ) (t : ℕ) → least (a ∷ (ts ++ t ∷ [])) ≡ min (least (a ∷ ts)) t
least-next a [] t = refl
least-next a (b ∷ ts) t = grind (arith, least-next b ts t)

from-none : (t : ℕ) → true ≡ nat_le 0 t
from-none t = grind (arith, nat_tests)

ascends-next : (ts : List ℕ) (t : ℕ) → ascends (ts ++ t ∷ []) ≡ ascends ts && nat_le (final ts) t
ascends-next [] t = from-none t
ascends-next (a ∷ []) t = and-true (nat_le a t)
ascends-next (a ∷ b ∷ ts) t = rw (ascends-next (b ∷ ts) t, and_assoc) refl

not-none : (n : ℕ) → suc n == 0 ≡ false
not-none n = grind (arith, nat_tests)

least-following : (ps : List Captured) (p : Captured) → (if length ps == 0 then p.time else min (least (times ps)) p.time) ≡ least (times ps ++ p.time ∷ [])
least-following [] p = refl
least-following (q ∷ ps) p = grind (arith, not-none, least-next)

pub counted-next : (ps : List Captured) (p : Captured) → tally_with (tally_of ps) p ≡ tally_of (ps ++ p ∷ [])
counted-next ps p = grind (arith, length-append, map-append, sum-next, least-following, greatest-next, final-next, ascends-next)

abbrev pub under_way : ℕ → SelectorState → List Captured → List Report → JobProgress
under_way k state out reports = record { decided = k; state = state; packets = out; reports = reports; end = None }

-- the packets of an input are counted, whatever comes after them
pub count-packets : (P : JobProgress → Type 0) (names : List (List ℕ)) (input : ℕ) (ps : List Placed) (k : ℕ) (state : SelectorState)
    (front : List Captured) (reports : List Report) (es : List Event)
    → state.tally ≡ tally_of front
    → ((k' : ℕ) (state' : SelectorState) → state'.tally ≡ tally_of (front ++ packets_of ps)
    → P (apply_events Count (AsReports names) (under_way k' state' [] reports) es))
    → P (apply_events Count (AsReports names) (under_way k state [] reports) (packet_events input ps ++ es))
count-packets P names input [] k state front reports es is next = grind (arith, append-nil)
count-packets P names input (p ∷ ps) k state front reports es is next =
    count-packets P names input ps (k + 1) (record { passed = state.passed; window = state.window; tally = tally_with state.tally p.packet })
    (front ++ p.packet ∷ []) reports es
    (grind (arith, counted-next))
    (grind (arith, append_assoc))

pub counts_all : CountsAll
counts_all names ps =
    rw (← append-nil (packet_events 0 ps))
    (count-packets (λ w. w.state.tally ≡ tally_of (packets_of ps)) names 0 ps 0 initial_state [] [] [] refl (λ k state is. is))

-- ---- the verdicts

abbrev pub judged_by : Verdict → List Captured → List Captured
judged_by (Pass p) rest = p ∷ rest
judged_by (PassLast p) rest = p ∷ []
judged_by Skip rest = rest
judged_by (Refuse fault) rest = []

-- the packets that pass, of these after that many that were decided
abbrev pub judged : Policy → ℕ → SelectorState → List Captured → List Captured
judged a k state [] = []
judged a k state (p ∷ ps) = judged_by (judge a state (k + 1) p).verdict (judged a (k + 1) (judge a state (k + 1) p).state ps)

abbrev pub verdict_end : ℕ → Placed → Verdict → Option SequenceEnd → Option SequenceEnd
verdict_end input p (Pass q) later = later
verdict_end input p (PassLast q) later = Some Complete
verdict_end input p Skip later = later
verdict_end input p (Refuse fault) later = Some (FaultIn input fault p.offset)

-- how the verdicts end a job after a number of decided packets; None if it goes on
abbrev pub policy_end : Policy → ℕ → SelectorState → List Event → Option SequenceEnd
policy_end a k state [] = None
policy_end a k state (Packet input p ∷ es) =
    verdict_end input p (judge a state (k + 1) p.packet).verdict (policy_end a (k + 1) (judge a state (k + 1) p.packet).state es)
policy_end a k state (InputEnd input kind size ∷ es) = policy_end a k state es

-- These events have the first packet that is refused, with this fault, and the job ends there.
-- `refusal` has the first fault among any events that come first.
pub record AtRefused (refusal : List Event → Option Fault) (es : List Event) (fault : Fault) (end : Option SequenceEnd) : Type 0 where
  pub before : List Event
  pub input : ℕ
  pub p : Placed
  pub later : List Event
  pub are : es ≡ before ++ Packet input p ∷ later
  pub taken : refusal before ≡ None
  pub refused : refusal (before ++ Packet input p ∷ []) ≡ Some fault
  pub ends : end ≡ Some (FaultIn input fault p.offset)

-- if no packet is refused, the job ends so
abbrev pub EndsSo : Option Fault → (List Event → Option Fault) → List Event → (so : Option SequenceEnd) → Option SequenceEnd → Type 0
EndsSo None refusal es so end = end ≡ so
EndsSo (Some fault) refusal es so end = AtRefused refusal es fault end

ends-later : (o : Option Fault) (later refusal : List Event → Option Fault) (e : Event) (es : List Event) (so end : Option SequenceEnd)
    → ((ds : List Event) → refusal (e ∷ ds) ≡ later ds) → EndsSo o later es so end → EndsSo o refusal (e ∷ es) so end
ends-later o later refusal e es so end same ends = grind arith

-- the kept packets are written up to the first that the form refuses, at which the job ends; if it
-- refuses none, the verdicts end it
abbrev Judged : Policy → Form → ℕ → SelectorState → List Captured → List Report → List Event → Type 0
Judged a f k state out reports es =
    ((apply_events a f (under_way k state out reports) es).packets ≡ out ++ packets_written f out (judged a k state (event_packets es)))
    × EndsSo (first_refusal f out (judged a k state (event_packets es))) (λ ds. first_refusal f out (judged a k state (event_packets ds))) es
    (policy_end a k state es) (apply_events a f (under_way k state out reports) es).end

-- one packet, where those after it come so
packet-next : (a : Policy) (f : Form) (k : ℕ) (state : SelectorState) (out : List Captured) (reports : List Report) (input : ℕ) (p : Placed) (es : List Event)
    → ((state' : SelectorState) (out' : List Captured) → Judged a f (k + 1) state' out' reports es) → Judged a f k state out reports (Packet input p ∷ es)
packet-next a f k state out reports input p es next =
    let one = by (judge a state (k + 1) p.packet).verdict in
    grind arith
  where
    w : JobProgress
    w = under_way k state out reports

    after : SelectorState
    after = (judge a state (k + 1) p.packet).state

    rest : List Event → List Captured
    rest ds = judged a (k + 1) after (event_packets ds)

    more : Option SequenceEnd
    more = policy_end a (k + 1) after es

    -- what is refused among the packet and those after it
    At : (List Event → Option Fault) → List Captured → Option SequenceEnd → JobProgress → Type 0
    At later written so u = (u.packets ≡ written) × ((refusal : List Event → Option Fault) → refusal [] ≡ None
        → ((ds : List Event) → refusal (Packet input p ∷ ds) ≡ later ds) → EndsSo (later es) refusal (Packet input p ∷ es) so u.end)

    refused : (fault : Fault) (so : Option SequenceEnd) → At (λ ds. Some fault) (out ++ []) so (apply_events a f (end_with w (FaultIn input fault p.offset)) es)
    refused fault so =
        let end : SequenceEnd = FaultIn input fault p.offset in
        let ended = progress-ended a f (end_with w end) es end refl in
        grind (arith, append-nil)

    going : (out' : List Captured) → At (λ ds. first_refusal f out' (rest ds)) (out' ++ packets_written f out' (rest es)) more
        (apply_events a f (under_way (k + 1) after out' reports) es)
    going out' = grind (arith, after, ends-later, rest, more)

    passing : (q : Captured) (o : Option Fault)
        → At (λ ds. option_or o (first_refusal f (out ++ q ∷ []) (rest ds))) (out ++ written_unless o q (packets_written f (out ++ q ∷ []) (rest es))) more
        (apply_events a f (unless_refused o w input p (decide w after (q ∷ []) None)) es)
    passing q None = rw append_assoc at (going (out ++ q ∷ []))
    passing q (Some fault) = refused fault more

    last_one : (q : Captured) (o : Option Fault) → At (λ ds. option_or o None) (out ++ written_unless o q []) (Some Complete)
        (apply_events a f (unless_refused o w input p (decide w after (q ∷ []) (Some Complete))) es)
    last_one q None = rw (progress-ended a f (decide w after (q ∷ []) (Some Complete)) es Complete refl) (refl, λ refusal none same. refl)
    last_one q (Some fault) = refused fault (Some Complete)

    by : (v : Verdict) → At (λ ds. first_refusal f out (judged_by v (rest ds))) (out ++ packets_written f out (judged_by v (rest es)))
        (verdict_end input p v more) (apply_events a f (apply_verdict f w input p v after) es)
    by (Pass q) = passing q (form_refuses f out q)
    by (PassLast q) = last_one q (form_refuses f out q)
    by Skip = rw (append-nil out) (going out)
    by (Refuse fault) =
        let end : SequenceEnd = FaultIn input fault p.offset in
        rw (progress-ended a f (end_with w end) es end refl) (sym (append-nil out), λ refusal none same. refl)

pub end-stays : (a : Policy) (w : JobProgress) (input : ℕ) (kind : Option Kind) (size : ℕ) → is_count a ≡ false → end_input a w input kind size ≡ w
end-stays a w input kind size judges = grind arith

pub comes : (a : Policy) (f : Form) (k : ℕ) (state : SelectorState) (out : List Captured) (reports : List Report) (es : List Event)
    → is_count a ≡ false → Judged a f k state out reports es
comes a f k state out reports [] judges = (sym (append-nil out), refl)
comes a f k state out reports (Packet input p ∷ es) judges =
    packet-next a f k state out reports input p es (λ state' out'. comes a f (k + 1) state' out' reports es judges)
comes a f k state out reports (InputEnd input kind size ∷ es) judges = grind (arith, end-stays, ends-later, comes a f k state out reports es judges)

-- packets none of which the form refuses, at any place among them, are all written
pub none-refused : (f : Form) (before ps : List Captured) → ((xs : List Captured) (p : Captured) (ys : List Captured) → before ++ ps ≡ xs ++ p ∷ ys
    → form_refuses f xs p ≡ None)
    → (packets_written f before ps ≡ ps) × (first_refusal f before ps ≡ None)
none-refused f before [] none = (refl, refl)
none-refused f before (p ∷ ps) none =
    grind (arith, append_assoc, none-refused f (before ++ p ∷ []) ps (λ xs q ys is. none xs q ys (sym (append_assoc before (p ∷ []) ps) ∙ is)))

pub packets-of-input : (input : ℕ) (ps : List Placed) → event_packets (packet_events input ps) ≡ packets_of ps
packets-of-input input [] = refl
packets-of-input input (p ∷ ps) = grind (arith, packets-of-input input ps)

-- the verdicts decide if no packet is refused when it must be written
pub judged-is : (a : Policy) (ps : List Placed) → is_count a ≡ false
    → ((apply_events a (AsReports []) no_progress (packet_events 0 ps)).packets ≡ judged a 0 initial_state (packets_of ps))
    × ((apply_events a (AsReports []) no_progress (packet_events 0 ps)).end ≡ policy_end a 0 initial_state (packet_events 0 ps))
judged-is a ps judges = grind (arith, comes, none-refused, packets-of-input)

-- ---- what a filter keeps

-- how many more pass
abbrev still : Option ℕ → ℕ → Option ℕ
still None passed = None
still (Some n) passed = Some (n - passed)

abbrev IsBelow : Option ℕ → ℕ → Type 0
IsBelow None passed = Unit {0}
IsBelow (Some n) passed = passed < n

at-last : (count : Option ℕ) (passed : ℕ) (p : Captured) (l : List Captured) → is_last count (passed + 1) ≡ true
    → (at_most (still count passed) (p ∷ l) ≡ p ∷ []) × (is_reached (still count passed) (suc (length l)) ≡ true)
at-last count passed p l is = grind (arith, nat_tests)

before-last : (count : Option ℕ) (passed : ℕ) (p : Captured) (l : List Captured) → IsBelow count passed → is_last count (passed + 1) ≡ false
    → (at_most (still count passed) (p ∷ l) ≡ p ∷ at_most (still count (passed + 1)) l)
    × (is_reached (still count (passed + 1)) (length l) ≡ is_reached (still count passed) (suc (length l))) × IsBelow count (passed + 1)
before-last None passed p l below is = (refl, refl, tt)
before-last (Some n) passed p l below is =
    let e : passed + 1 < n = grind (arith, nat_tests, is, below) in
    let more : n - passed ≡ suc (n - (passed + 1)) = omega (arith, e) in
    grind (arith, nat_le, nat_tests)

at-none : (count : Option ℕ) (passed : ℕ) → IsBelow count passed → (at_most (still count passed) [] ≡ []) × (is_reached (still count passed) 0 ≡ false)
at-none count passed below = grind (arith, take-nil, nat_tests)

-- a filter keeps the packets that its decisions keep, and ends as they do
abbrev Filtered : Rule → Option ℕ → Ending → ℕ → SelectorState → List Placed → Type 0
Filtered rule count ending k state ps =
    (judged (Filter rule count) k state (packets_of ps) ≡ at_most (still count state.passed) (kept rule (packets_of ps)))
    × (unwrap_or (policy_end (Filter rule count) k state (packet_events 0 ps)) (end_of 0 ending) ≡
    (if is_reached (still count state.passed) (length (kept rule (packets_of ps))) then Complete else rule_end rule ending ps))

-- the same from a packet with this judgement on
abbrev FilteredBy : Rule → Option ℕ → Ending → ℕ → Placed → List Placed → Option ℕ → Judgement → List Captured → SequenceEnd → Type 0
FilteredBy rule count ending k p ps more j l end =
    (judged_by j.verdict (judged (Filter rule count) (k + 1) j.state (packets_of ps)) ≡ at_most more l)
    × (unwrap_or (verdict_end 0 p j.verdict (policy_end (Filter rule count) (k + 1) j.state (packet_events 0 ps))) (end_of 0 ending) ≡
    (if is_reached more (length l) then Complete else end))

-- one packet, where those after it are filtered so
filtered-next : (rule : Rule) (count : Option ℕ) (ending : Ending) (k : ℕ) (state : SelectorState) (p : Placed) (ps : List Placed) → IsBelow count state.passed
    → ((state' : SelectorState) → IsBelow count state'.passed → Filtered rule count ending (k + 1) state' ps) → (d : Decision)
    → FilteredBy rule count ending k p ps (still count state.passed) (filters d count state p.packet) (kept_by d p.packet (kept rule (packets_of ps)))
    (end_by_decision d p (rule_end rule ending ps))
filtered-next rule count ending k state p ps below next Keep = by_last (is_last count (state.passed + 1)) refl
  where
    after : SelectorState
    after = (filters Keep count state p.packet).state

    rest : List Captured
    rest = kept rule (packets_of ps)

    by_last : (b : Bool) → is_last count (state.passed + 1) ≡ b → FilteredBy rule count ending k p ps (still count state.passed)
        (record { verdict = if b then PassLast p.packet else Pass p.packet; state = after }) (p.packet ∷ rest) (rule_end rule ending ps)
    by_last true is = grind (arith, at-last, rest)
    by_last false is =
        let one = before-last count state.passed p.packet rest below is in
        grind (arith, after)
filtered-next rule count ending k state p ps below next chosen.Skip = next state below
filtered-next rule count ending k state p ps below next (chosen.Refuse fault) = grind (arith, at-none)

filtered : (rule : Rule) (count : Option ℕ) (ending : Ending) (k : ℕ) (state : SelectorState) (ps : List Placed) → k + length ps < 2 ^ 63
    → IsBelow count state.passed → Filtered rule count ending k state ps
filtered rule count ending k state [] less below = grind (arith, at-none)
filtered rule count ending k state (p ∷ ps) less below = rw (upper_bound (Filter rule count) state (k + 1) p.packet refl (omega (arith, less)))
    (filtered-next rule count ending k state p ps below (λ state' below'. filtered rule count ending (k + 1) state' ps (omega (arith, less)) below')
    (rule_decides rule p.packet))

-- the same from the first packet on
pub filtered-first : (rule : Rule) (count : Option ℕ) (ending : Ending) (ps : List Placed) → IfSome count (λ (n : ℕ). 0 < n) → length ps < 2 ^ 63
    → (judged (Filter rule count) 0 initial_state (packets_of ps) ≡ at_most count (kept rule (packets_of ps)))
    × (unwrap_or (policy_end (Filter rule count) 0 initial_state (packet_events 0 ps)) (end_of 0 ending) ≡
    (if is_reached count (length (kept rule (packets_of ps))) then Complete else rule_end rule ending ps))
filtered-first rule None ending ps some less = filtered rule None ending 0 initial_state ps (omega (arith, less)) tt
filtered-first rule (Some n) ending ps some less =
    let e : n - 0 ≡ n = omega arith in
    rw e at (filtered rule (Some n) ending 0 initial_state ps (omega (arith, less)) some)

pub passes_filtered : PassesFiltered
passes_filtered rule count ps some less = (judged-is (Filter rule count) ps refl).0 ∙ (filtered-first rule count End ps some less).0

-- ---- an edit

abbrev reports : Form
reports = AsReports []

-- the window has the marks just before
abbrev IsKept : Option ℕ → List Mark → List Mark → Type 0
IsKept None before window = Unit {0}
IsKept (Some n) before window = window ≡ last (n - 1) before

record Noted (n : Option ℕ) (state : SelectorState) (before : List Mark) (p : Captured) (b : Bool) : Type 0 where
  state' : SelectorState
  is : unique n state p ≡ (if b then skip_judgement state' else passes state' p)
  kept : IsKept n (before ++ mark_of p.bytes ∷ []) state'.window

noted : (n : Option ℕ) (state : SelectorState) (before : List Mark) (p : Captured) (b : Bool) → IsKept n before state.window
    → is_repeated n before (mark_of p.bytes) ≡ b → Noted n state before p b
noted None state before p true kept is = (cc)
noted None state before p false kept is = record { state' = state; is = refl; kept = tt }
noted (Some n) state before p b kept is =
    let m : Mark = mark_of p.bytes in
    let same : has_same state.window m ≡ b = rw kept is in
    record {
      state' = with_mark (n - 1) m state;
      is = rw same refl;
      kept = rw kept (last-last (n - 1) before m);
    }

-- the progress of a job after packets, the first of which has this number, if these were kept and
-- these marks came before
record Follows (s : EditRule) (number : ℕ) (before : List Mark) (out : List Captured) (ps : List Placed) (w : JobProgress) : Type 0 where
  passed : w.packets ≡ out ++ unique_after s.window before (packets_selected s number (packets_of ps))
  kept : IsKept s.window (before ++ marks (packets_selected s number (packets_of ps))) w.state.window
  end : w.end ≡ end_at_time (first_without_time s number ps)

abbrev Goes : EditRule → ℕ → SelectorState → List Mark → List Captured → List Placed → Type 0
Goes s k state before out ps = Follows s (k + 1) before out ps (apply_events (Edit s) reports (under_way k state out []) (packet_events 0 ps))

-- one packet, where those after it are followed so
follows-next : (s : EditRule) (k : ℕ) (state : SelectorState) (before : List Mark) (out : List Captured) (p : Placed) (ps : List Placed)
    → k + 1 < 2 ^ 63 → IsKept s.window before state.window
    → ((state' : SelectorState) (before' : List Mark) (out' : List Captured) → IsKept s.window before' state'.window → Goes s (k + 1) state' before'
    out' ps) → Goes s k state before out (p ∷ ps)
follows-next s k state before out p ps near kept next = by_selected (is_selected s (k + 1) p.packet) refl
  where
    To : JobProgress → Type 0
    To w = Follows s (k + 1) before out (p ∷ ps) w

    following : Judgement → JobProgress
    following j = apply_events (Edit s) reports (apply_verdict reports (under_way k state out []) 0 p j.verdict j.state) (packet_events 0 ps)

    to : (j : Judgement) → selects s state (k + 1) p.packet ≡ j → To (following j) → Goes s k state before out (p ∷ ps)
    to j is follows = grind (arith, following, upper_bound, follows)

    -- what is selected after the packet
    more : List Captured
    more = packets_selected s (k + 1 + 1) (packets_of ps)

    at_time : (time : ℕ) (u : List Captured) (w : JobProgress) → is_selected s (k + 1) p.packet ≡ true → shifted_time s.shift p.packet.time ≡ Some time
        → Follows s (k + 1 + 1) (before ++ mark_of (edited_packet_with s p.packet time).bytes ∷ []) (out ++ u) ps w
        → unique_after s.window before (edited_packet_with s p.packet time ∷ more) ≡ u ++ unique_after s.window
        (before ++ mark_of (edited_packet_with s p.packet time).bytes ∷ []) more → To w
    at_time time u w is timed f same = grind (arith, append_assoc, more)

    by_unique : (time : ℕ) → is_selected s (k + 1) p.packet ≡ true → shifted_time s.shift p.packet.time ≡ Some time → (b : Bool)
        → is_repeated s.window before (mark_of (edited_packet_with s p.packet time).bytes) ≡ b
        → Goes s k state before out (p ∷ ps)
    by_unique time is timed true same =
        let q : Captured = edited_packet_with s p.packet time in
        let n : Noted s.window state before q true = noted s.window state before q true kept same in
        to (skip_judgement n.state') (rw (is, timed) n.is)
        (at_time time [] (following (skip_judgement n.state')) is timed (next n.state' (before ++ mark_of q.bytes ∷ []) (out ++ []) n.kept) (rw same refl))
    by_unique time is timed false same =
        let q : Captured = edited_packet_with s p.packet time in
        let n : Noted s.window state before q false = noted s.window state before q false kept same in
        to (passes n.state' q) (rw (is, timed) n.is)
        (at_time time (q ∷ []) (following (passes n.state' q)) is timed (next (passes n.state' q).state (before ++ mark_of q.bytes ∷ [])
        (out ++ q ∷ []) n.kept) (rw same refl))

    by_moved : is_selected s (k + 1) p.packet ≡ true → (o : Option ℕ) → shifted_time s.shift p.packet.time ≡ o → Goes s k state before out (p ∷ ps)
    by_moved is None beyond =
        let ended : JobProgress = end_with (under_way k state out []) (FaultIn 0 TimeOutOfRange p.offset) in
        to (refuses state TimeOutOfRange) (rw (is, beyond) refl)
        (rw (progress-ended (Edit s) reports ended (packet_events 0 ps) (FaultIn 0 TimeOutOfRange p.offset) refl) (grind (arith, append-nil)))
    by_moved is (Some time) timed = by_unique time is timed (is_repeated s.window before (mark_of (edited_packet_with s p.packet time).bytes)) refl

    by_selected : (b : Bool) → is_selected s (k + 1) p.packet ≡ b → Goes s k state before out (p ∷ ps)
    by_selected true is = by_moved is (shifted_time s.shift p.packet.time) refl
    by_selected false is =
        grind (arith, to, append-nil)

follows : (s : EditRule) (k : ℕ) (state : SelectorState) (before : List Mark) (out : List Captured) (ps : List Placed) → k + length ps < 2 ^ 63
    → IsKept s.window before state.window
    → Goes s k state before out ps
follows s k state before out [] less kept = grind (arith, append-nil)
follows s k state before out (p ∷ ps) less kept =
    follows-next s k state before out p ps (omega arith) kept (λ state' before' out' kept'. follows s (k + 1) state' before' out' ps (omega arith) kept')

kept-first : (n : Option ℕ) → IsKept n [] []
kept-first n = grind (arith, drop-nil)

follows-first : (s : EditRule) (ps : List Placed) → length ps < 2 ^ 63 → Goes s 0 initial_state [] [] ps
follows-first s ps less = follows s 0 initial_state [] [] ps (omega arith) (kept-first s.window)

pub ends_without_time : EndsWithoutTime
ends_without_time s ps less = grind (arith, follows-first)

pub has_last_marks : HasLastMarks
has_last_marks s n ps is less = grind (arith, follows-first)

-- A whole run of a job, in terms of its call.
use Rattle.cap_tools.proofs.Common.{◌≡◌, ℕ, Bool, zero, suc, List, [], ◌∷◌, map, Option, None, Some, IsTrue, refl, sym, ◌∙◌, ap, subst, Placed, InputPast}
use Rattle.cap_tools.proofs.Common.{FreshInput, fresh_view, nothing_done, Writing, target_at, written_to, failures_to, form_to, room_to, failures_by, finish_at}
use Rattle.cap_tools.proofs.Common.{texts, work_of, JobView, Decided, JobGives, StaysDecided, first_job, Policy, Call, Content, Assignment, Preparing}
use Rattle.cap_tools.proofs.Common.{ReadsFilter, Compiles, Filter, DecidedBy, PreparesBy, inl, inr, ◌+◌, ◌-◌, ◌<◌, ◌≤◌, arith, false, ◌++◌, length, Ok}
use Rattle.cap_tools.proofs.Common.{add-zero, append-nil, length-map, length-set, slice_get-map, slice_get, option_map, HasGiven, Stops, Fault, Declared}
use Rattle.cap_tools.proofs.Common.{ReadFailsAt, given_in_all, decisive_length, Link, listing, Refusal, refusal_status, OutputView, IsTold, InputView}
use Rattle.cap_tools.proofs.Common.{InputsView, input_after, limits_of, offset_of, InputItems, Event, SequenceEnd, Complete, FaultIn, whole_input, RunResult}
use Rattle.cap_tools.proofs.Common.{NoMemory, EndsJob, end_status, end_message, JobEnd, SourceView, JobState, PacketsDecided, CompletesOutput, EndLeaves}
use Rattle.cap_tools.proofs.Common.{EndsByCut, Meets, StopsWriting, WantsMemory, a_packet, all_ends, an_end, output_form, wholes_of, written_by, JobProgress}
use Rattle.cap_tools.proofs.Common.{IsNextAnswer, cut_at, text_of_progress, name_at, CommandRuns, ends, fault_outcome, ListsSome, RefusesStart, drained-text}
use Rattle.cap_tools.proofs.Common.{Turn, MakesStep}
use Rattle.cap_inputs.specs.{Inputs.DeviceLimits, Inputs.device_limits, Inputs.offset_at, inside.Fresh.fresh_limits}
use Rattle.cap_tools.specs.Run.{IsPolicy, IsWork, form_asked, HasLeft, HasLostOutput, IsWhyRefused, listing_answer, listing_outcome, of_cut_input, of_events}
use Rattle.cap_tools.specs.Run.{of_listing, of_packets, of_refusal, output_failed, packets_answer, refusal_outcome, whole_inputs}
use Rattle.cap_process.specs.Messages.{fault_message, refusal_message, write_failed_message}
use Rattle.cap_process.specs.Outcome.{Outcome, Work, NeedsMemory, message, outcome, status, text_after}
use Rattle.{flt_words.specs.declared.fault.ExprFault.ExprFault, flt_bpf.specs.declared.fault.ListingFault.ListingFault}

-- A job goes on over the packets of a call: it does the work that is asked for, more bytes of the
-- same inputs are done, and the output didn't fail.
pub record IsUnderWay (asked : Assignment) (call : Call) (j : JobView) : Type 0 where
  pub past : List InputPast
  pub texts : texts past ≡ map (λ (input : FreshInput). input.text) call.inputs
  pub decided : Decided past call.output.written j
  pub work : IsWork asked call (work_of j.state)
  pub names : j.state.names ≡ call.names
  pub output : failures_by j.state ≡ call.output.failures
  -- what is known of the inputs' devices when the job begins is still true
  pub limits : device_limits j.state.inputs.cursors ≡ map fresh_limits call.inputs
  pub err : j.err ≡ call.messages

-- no step was made yet, or some
pub data Under (asked : Assignment) (call : Call) (job : JobView) : Type 0 where
  fresh : job ≡ first_job asked call → Under asked call job
  goes : job.preparing ≡ None → job.done ≡ None → IsUnderWay asked call job → Under asked call job

-- nothing is decided of the inputs
abbrev pub Begun : Assignment → Call → Type 0
Begun asked call = DecidedBy asked.preparing (map nothing_done call.inputs) call.output.written (first_job asked call)

-- ---- the first view, by its call

-- the output of the first view, by what is asked
pub record FirstOutput (names : List (List ℕ)) (w : Writing) (bytes : List ℕ) (failures room : ℕ) : Type 0 where
  pub form : form_to names (target_at w bytes failures room) ≡ form_asked names w
  pub written : written_to (target_at w bytes failures room) ≡ bytes
  pub failures_are : failures_to (target_at w bytes failures room) ≡ failures
  pub room_is : room_to (target_at w bytes failures room) ≡ room

pub first-output : (names : List (List ℕ)) (w : Writing) (bytes : List ℕ) (failures room : ℕ) → FirstOutput names w bytes failures room
first-output names (Writing.Capture format) bytes failures room = record { form = refl; written = refl; failures_are = refl; room_is = refl }
first-output names Writing.Text bytes failures room = record { form = refl; written = refl; failures_are = refl; room_is = refl }
first-output names (Writing.Lines options) bytes failures room = record { form = refl; written = refl; failures_are = refl; room_is = refl }

map-map : {A B C : Type 0} (f : B → C) (g : A → B) (xs : List A) → map f (map g xs) ≡ map (λ (x : A). f (g x)) xs
map-map f g [] = refl
map-map f g (x ∷ xs) = ap (λ l. f (g x) ∷ l) (map-map f g xs)

-- the job before its first packet, which this policy judges
pub begins : (asked : Assignment) (call : Call) (policy : Policy) (p : Option Preparing) (programs : List Content) (turns : ℕ) (ended : Option ℕ)
    → IsPolicy asked.preparing asked.policy policy
    → Decided (map nothing_done call.inputs) call.output.written
    (record {
      preparing = p;
      state = record (first_job asked call).state { policy = policy };
      programs = programs;
      err = call.messages;
      turns =
          turns;
      done = ended;
    })
    → IsUnderWay asked call (record {
      preparing = p;
      state = record (first_job asked call).state { policy = policy };
      programs = programs;
      err =
          call.messages;
      turns = turns;
      done = ended;
    })
begins asked call policy p programs turns ended is decided =
    let output = first-output call.names asked.writing call.output.written call.output.failures call.room in
    record {
      past = map nothing_done call.inputs;
      texts = map-map (λ (s : InputPast). s.text) nothing_done call.inputs;
      decided = decided;
      work = record { order = refl; policy = is; form = output.form };
      names = refl;
      output = output.failures_are;
      limits = map-map (λ (h : InputView). limits_of h.source) fresh_view call.inputs;
      err = refl;
    }

-- ---- a step more

finish-texts : (ss : List InputPast) (i : ℕ) (bytes : List ℕ) (packets : List Placed) → texts (finish_at ss i bytes packets) ≡ texts ss
finish-texts [] i bytes packets = refl
finish-texts (s ∷ ss) zero bytes packets = refl
finish-texts (s ∷ ss) (suc i) bytes packets = ap (λ (l : List (List ℕ)). s.text ∷ l) (finish-texts ss i bytes packets)

goes-on : (asked : Assignment) (call : Call) (tells : Bool) (job new : JobView) → IsUnderWay asked call job → JobGives tells job Turn.More new
    → new.state.policy ≡ job.state.policy → new.state.names ≡ job.state.names → IsUnderWay asked call new
goes-on asked call tells job new was gives policy names =
    let stays : StaysDecided was.decided new = gives.1 was.past call.output.written was.decided in
    let on = stays.goes in
    let P : Policy → Type 0 = λ a. IsPolicy asked.preparing asked.policy a in
    record {
      past = on.past;
      texts = ap texts on.past_is ∙ finish-texts was.past on.input on.finished on.packets ∙ was.texts;
      decided = record { packets = on.decided; programs = stays.programs };
      work = record { order = on.order ∙ was.work.order; policy = subst P (sym policy) was.work.policy; form = on.form ∙ was.work.form };
      names = names ∙ was.names;
      output = on.output ∙ was.output;
      limits = on.limits ∙ was.limits;
      err = gives.0 ∙ was.err;
    }

-- after the first step the job goes on: over packets, or with the filter that was read
first-more : (output_tells tells : Bool) (asked : Assignment) (call : Call) (new : JobView) (p : Option Preparing) → asked.preparing ≡ p
    → IsTrue output_tells → (p ≡ None → JobGives tells (first_job asked call) Turn.More new) → PreparesBy p output_tells tells (first_job asked call)
    Turn.More new
    → DecidedBy p (map nothing_done call.inputs) call.output.written (first_job asked call) → (p ≡ None → new.state.policy ≡ asked.policy)
    → new.state.names ≡ call.names → IsUnderWay asked call new
first-more output_tells tells asked call new None is to exact prepares d policy names =
    let P : Option Preparing → Type 0 = λ p. IsPolicy p asked.policy asked.policy in
    goes-on asked call tells (first_job asked call) new (begins asked call asked.policy asked.preparing [] 0 None (subst P (sym is) refl) d)
    (exact refl) (policy refl) names
first-more output_tells tells asked call new (Some (ReadsFilter filter)) is to exact read d policy names =
    let P : Option Preparing → Type 0 = λ p. IsPolicy p asked.policy (Filter read.rule filter.count) in
    let J : JobView → Type 0 = λ j. IsUnderWay asked call j in
    subst J (sym read.new_is) (begins asked call (Filter read.rule filter.count) None read.programs 1 None
    (subst P (sym is) (read.rule, read.is, refl)) (d read.rule read.is read.programs read.made))
first-more output_tells tells asked call new (Some (Compiles words link)) is to exact prepares d policy names = absurd (prepares to)

pub under-more : (inputs_tell output_tells tells : Bool) (asked : Assignment) (call : Call) (job new : JobView) → IsTrue inputs_tell
    → IsTrue output_tells → Begun asked call → MakesStep inputs_tell output_tells tells job Turn.More new → Under asked call job → Under asked call new
under-more inputs_tell output_tells tells asked call job new ti to begun step (fresh is) =
    let P : JobView → Type 0 = λ j. MakesStep inputs_tell output_tells tells j Turn.More new in
    let first = subst P is step in
    goes first.keeps.prepared first.keeps.done (first-more output_tells tells asked call new asked.preparing refl to (first.exact ti to refl)
    first.prepares begun first.keeps.policy first.keeps.names)
under-more inputs_tell output_tells tells asked call job new ti to begun step (goes prepared undone was) =
    goes step.keeps.prepared step.keeps.done (goes-on asked call tells job new was (step.exact ti to undone prepared) (step.keeps.policy prepared)
    step.keeps.names)

-- where the output failed, it took as many bytes as it has room for
abbrev pub IsFilled : Call → RunResult → Type 0
IsFilled call r = 0 < r.output.failures → call.room ≤ length r.output.written

-- what a run hands back of the job's last view
pub record IsLeft (new : JobView) (r : RunResult) : Type 0 where
  pub written : r.output.written ≡ written_by new.state
  pub failures : r.output.failures ≡ failures_by new.state
  pub messages : r.messages ≡ new.err

-- ---- the messages

told-as : (tells : Bool) (old old' new : OutputView) (message message' : List ℕ) → message ≡ message' → old ≡ old' → IsTold tells old message new
    → IsTold tells old' message' new
told-as tells old old' new message message' is same exact =
    let M : List ℕ → Type 0 = λ m. IsTold tells old m new in
    let O : OutputView → Type 0 = λ v. IsTold tells v message' new in
    subst O same (subst M is exact)

-- a refusal has a status of its own
never-zero : (why : Refusal) → refusal_status why ≡ 0 → ⊥
never-zero (Refusal.Expression ExprFault.Memory) none = (cc)
never-zero (Refusal.Expression fault) none = (cc)
never-zero (Refusal.Listing ListingFault.Memory) none = (cc)
never-zero (Refusal.Listing fault) none = (cc)
never-zero (Refusal.Program fault at) none = (cc)

-- ---- one of the inputs

-- the element of a map at an index is made of the element there
record From {A B : Type 0} (f : A → B) (o : Option A) (b : B) : Type 0 where
  pub from : A
  pub is : o ≡ Some from
  pub same : f from ≡ b

comes-of : {A B : Type 0} (f : A → B) (o : Option A) (b : B) → option_map f o ≡ Some b → From f o b
comes-of f None b is = (cc)
comes-of f (Some a) b is = record { from = a; is = refl; same = (cc) }

-- where one of two maps of a list has these at a place
at-place : {A B : Type 0} (f : A → B) (xs : List A) (ys : List B) (i : ℕ) (b : B) → ys ≡ map f xs → slice_get ys i ≡ Some b → From f (slice_get xs i) b
at-place f xs ys i b is has = comes-of f (slice_get xs i) b (sym (slice_get-map f xs i) ∙ ap (λ l. slice_get l i) (sym is) ∙ has)

-- ---- a read that failed

given-more : (sure : Option ℕ) (few many : ℕ) → few ≤ many → HasGiven sure few → HasGiven sure many
given-more None few many more enough = absurd enough
given-more (Some n) few many more enough = omega (arith, more, enough)

-- by what the device was sure to give when the call was made
fails-short : (input : FreshInput) (old new : SourceView) (text done rest : List ℕ) (declared : Declared) → fresh_limits input ≡ limits_of old
    → input.text ≡ text → ReadFailsAt old new text done rest declared
    → HasGiven input.sure (input.given + length done + (decisive_length declared rest - 1))
fails-short input old new text done rest declared limits same failed =
    let in_all : input.given + length input.text ≡ given_in_all old = ap (λ (l : DeviceLimits). l.in_all) limits in
    let G : Option ℕ → Type 0 = λ o. HasGiven o (input.given + length done + (decisive_length declared rest - 1)) in
    subst G (sym (ap (λ (l : DeviceLimits). l.sure) limits))
    (given-more old.sure new.given (input.given + length done + (decisive_length declared rest - 1))
    (omega (arith, failed.few, in_all, ap length same)) failed.enough)

-- the inputs are as many as before
same-count : (old new : InputsView) {e : Option Event} → Meets old new e → length new.cursors ≡ length old.cursors
same-count old new (a_packet i cursor p next among held same) = ap (λ (f : InputsView). length f.cursors) same
same-count old new (an_end i next read) = ap (λ (f : InputsView). length f.cursors) read.is ∙ length-set old.cursors i
    (input_after read.cursor (Ok false) read.source)
same-count old new (all_ends next same) = ap (λ (f : InputsView). length f.cursors) same

-- ---- a job with packets

-- the result of the last step
packets-run : (asked : Assignment) (call : Call) (job new : JobView) (r : RunResult) → IsFilled call r → IsUnderWay asked call job
    → EndsJob call.tells job r.status new → IsLeft new r → CommandRuns asked call r
packets-run asked call job new r filled was ended is_left = by_end ended.end refl (ended.leaves was.past before d)
  where
    before : List ℕ
    before = call.output.written

    old : JobState
    old = job.state

    last : JobState
    last = new.state

    d : PacketsDecided was.past before old
    d = was.decided.packets

    w : Work
    w = work_of old

    names : List (List ℕ)
    names = old.names

    wholes-are : wholes_of was.past ≡ whole_inputs call
    wholes-are = ap (λ (l : List (List ℕ)). map whole_input l) was.texts ∙ map-map whole_input (λ (input : FreshInput). input.text) call.inputs

    text : List ℕ
    text = end_message names last.inputs.cursors ended.end

    reported : {message : List ℕ} → text ≡ message → IsTold call.tells call.messages message r.messages
    reported {message} is =
        let T : OutputView → Type 0 = λ v. IsTold call.tells call.messages message v in
        subst T (sym is_left.messages) (told-as call.tells job.err call.messages new.err text message is was.err ended.exact)

    so-far : written_by old ≡ before ++ text_after w d.events
    so-far =
        drained-text before old.names old.output d.packets d.reports d.output
        ∙ ap (λ (v : JobProgress). before ++ text_of_progress (output_form old) v) (sym d.progress)

    -- the run ends with the outcome of inputs with these items
    left : (rs rs' : List InputItems) (close : SequenceEnd) → rs ≡ rs' → CompletesOutput rs d last close → text ≡ message names (Some close)
        → end_status ended.end ≡ status (Some close)
        → HasLeft call (outcome w call.names rs') r
    left rs rs' close same comes says is =
        let whole : outcome w names rs ≡ outcome w call.names rs' = ap (λ (n : List (List ℕ)). outcome w n rs) was.names
        ∙ ap (λ (l : List InputItems). outcome w call.names l) same in
        record {
          output = is_left.written ∙ comes.written ∙ ap (λ (o : Outcome). before ++ o.output) whole;
          failures = is_left.failures ∙ comes.device ∙ was.output;
          message = reported (says ∙ ap (message names) (sym comes.ends) ∙ ap (λ (o : Outcome). o.messages) whole);
          quiet = λ none. is_left.messages ∙ ended.quiet none ∙ was.err;
          status = ended.status_is ∙ is ∙ ap status (sym comes.ends) ∙ ap (λ (o : Outcome). o.status) whole;
        }

    whole-ends : (close : SequenceEnd) → CompletesOutput (wholes_of was.past) d last close → text ≡ message names (Some close)
        → end_status ended.end ≡ status (Some close) → CommandRuns asked call r
    whole-ends close comes says is = ends (outcome w call.names (whole_inputs call)) (of_packets w was.work)
        (left (wholes_of was.past) (whole_inputs call) close wholes-are comes says is)

    says : (input : ℕ) (fault : Fault) (offset : ℕ) → ended.end ≡ JobEnd.FaultIn input fault → offset_at last.inputs.cursors input ≡ offset
        → text ≡ fault_message (name_at names input) offset fault
    says input fault offset is place = ap (end_message names last.inputs.cursors) is ∙ ap (λ n. fault_message (name_at names input) n fault) place

    cuts : (input : ℕ) (fault : Fault) (after : SourceView) → ended.end ≡ JobEnd.FaultIn input fault → offset_at last.inputs.cursors input ≡
        after.offset → EndsByCut d last input fault after → CommandRuns asked call r
    cuts input fault after is place cut =
        let items = cut.held in
        let text_of : From (λ (o : FreshInput). o.text) (slice_get call.inputs input) cut.past.text =
        at-place (λ (o : FreshInput). o.text) call.inputs (texts was.past) input cut.past.text was.texts
        (slice_get-map (λ (s : InputPast). s.text) was.past input
        ∙ ap (option_map (λ (s : InputPast). s.text)) cut.among) in
        let limits : From fresh_limits (slice_get call.inputs input) (limits_of cut.cursor.source) =
        at-place fresh_limits call.inputs (device_limits old.inputs.cursors) input (limits_of cut.cursor.source) was.limits
        (slice_get-map (λ (h : InputView). limits_of h.source) old.inputs.cursors input
        ∙ ap (option_map (λ (h : InputView). limits_of h.source)) cut.cursor_is) in
        let same : text_of.from ≡ limits.from = (let e = sym text_of.is ∙ limits.is in cc) in
        let known : fresh_limits text_of.from ≡ limits_of cut.cursor.source = ap fresh_limits same ∙ limits.same in
        ends (outcome w call.names (cut_at (whole_inputs call) input items))
        (of_cut_input w was.work input items (record {
          input = text_of.from;
          among = text_of.is;
          fault = fault;
          cut = record { done = cut.cut.done; rest = cut.cut.rest; joined = text_of.same ∙ cut.cut.joined; units = cut.cut.units; ending = cut.cut.ending };
          why = elim cut.why [
            | inl failed ↦ inl (
              failed.0,
              fails-short text_of.from cut.cursor.source after cut.past.text cut.cut.done cut.cut.rest items.declared
                  known text_of.same failed.1,
            )
            | inr full ↦ inr full
          ];
        }))
        (left (cut_at (wholes_of was.past) input items) (cut_at (whole_inputs call) input items) (FaultIn input fault after.offset)
        (ap (λ (l : List InputItems). cut_at l input items) wholes-are) cut.comes (says input fault after.offset is place) (ap end_status is))

    lacks-memory : (input : ℕ) (fault : Fault) (after : SourceView) → ended.end ≡ JobEnd.FaultIn input fault → offset_at last.inputs.cursors input ≡
        after.offset → WantsMemory d last input fault after → CommandRuns asked call r
    lacks-memory input fault after is place wants =
        let L : List InputItems → Type 0 = λ l. NeedsMemory w l d.events input wants.packet in
        let one : r.status ≡ 1 = ended.status_is ∙ ap end_status is in
        ends (fault_outcome (text_after w d.events) (fault_message (name_at call.names input) wants.packet.offset NoMemory))
        (of_events w was.work d.events input wants.packet (subst L wholes-are wants.needs))
        (record {
          output = is_left.written ∙ wants.written ∙ so-far;
          failures = is_left.failures ∙ wants.device ∙ was.output;
          message = reported (says input fault wants.packet.offset is (place ∙ wants.place)
              ∙ ap (λ (n : List (List ℕ)). fault_message (name_at n input) wants.packet.offset fault) was.names
              ∙ ap (fault_message (name_at call.names input) wants.packet.offset) wants.why);
          quiet = λ none. absurd (omega (arith, one, none));
          status = one;
        })

    loses-output : ended.end ≡ JobEnd.OutputFailed → StopsWriting d last → HasLostOutput asked call r
    loses-output is stops =
        let bytes : List ℕ = stops.bytes in
        let L : List InputItems → Type 0 = λ l. IsNextAnswer w l d.events stops.event bytes in
        let S : List ℕ → Type 0 = λ l. Stops l bytes (written_by last) in
        let R : List ℕ → Type 0 = λ l. Stops (before ++ text_after w d.events) bytes l in
        let count : length last.inputs.cursors ≡ length call.inputs =
        same-count old.inputs last.inputs stops.met
        ∙ sym (length-map old.inputs.cursors (λ (h : InputView). limits_of h.source))
        ∙ ap length was.limits
        ∙ length-map call.inputs fresh_limits in
        let failures : r.output.failures ≡ call.output.failures + 1 = is_left.failures ∙ stops.failures ∙ ap (λ n. n + 1) was.output in
        record {
          written = text_after w d.events;
          bytes = bytes;
          answer = packets_answer w was.work d.events stops.event refl (subst L wholes-are stops.answer);
          stops = subst R (sym is_left.written) (subst S so-far stops.stops);
          failures = failures;
          filled = filled (omega (arith, failures));
          message = reported (ap (end_message names last.inputs.cursors) is
              ∙ ap (λ (n : List (List ℕ)). write_failed_message (name_at n (length last.inputs.cursors))) was.names
              ∙ ap (λ n. write_failed_message (name_at call.names n)) count);
          status = ended.status_is ∙ ap end_status is;
        }

    by_end : (e : JobEnd) → ended.end ≡ e → EndLeaves d e last → CommandRuns asked call r
    by_end JobEnd.Complete is comes = whole-ends Complete comes (ap (end_message names last.inputs.cursors) is) (ap end_status is)
    by_end (JobEnd.FaultIn input fault) is breaks =
        let place : offset_at last.inputs.cursors input ≡ breaks.cursor.source.offset = ap offset_of breaks.among in
        elim breaks.why [
          | inl comes ↦ whole-ends (FaultIn input fault breaks.cursor.source.offset) comes (says input fault breaks.cursor.source.offset is place)
              (ap end_status is)
          | inr other ↦ elim other [
            | inl cut ↦ cuts input fault breaks.cursor.source is place cut
            | inr wants ↦ lacks-memory input fault breaks.cursor.source is place wants
          ]
        ]
    by_end JobEnd.OutputFailed is stops = output_failed (loses-output is stops)

-- ---- a job that is refused, or lists a program

refused-run : (asked : Assignment) (call : Call) (new : JobView) (r : RunResult) (why : Refusal) → IsWhyRefused asked.preparing why
    → RefusesStart why call.tells (first_job asked call) r.status new → IsLeft new r → CommandRuns asked call r
refused-run asked call new r why refused refuses left = ends (refusal_outcome why) (of_refusal why refused) (record {
  output = left.written ∙ ap (λ (j : JobView). written_by j.state) refuses.new_is
      ∙ (first-output call.names asked.writing call.output.written call.output.failures call.room).written ∙ sym (append-nil call.output.written);
  failures = left.failures ∙ ap (λ (j : JobView). failures_by j.state) refuses.new_is
      ∙ (first-output call.names asked.writing call.output.written call.output.failures call.room).failures_are;
  message = (let T : OutputView → Type 0 = λ v. IsTold call.tells call.messages (refusal_message why) v in subst T (sym left.messages) refuses.exact);
  quiet = λ none. absurd (never-zero why (sym refuses.status_is ∙ none));
  status = refuses.status_is;
})

listed-run : (asked : Assignment) (call : Call) (new : JobView) (r : RunResult) (words : List ℕ) (link : Link) → IsFilled call r
    → asked.preparing ≡ Some (Compiles words link) → ListsSome words link call.tells (first_job asked call) r.status new → IsLeft new r
    → CommandRuns asked call r
listed-run asked call new r words link filled is lists left =
    let bytes : List ℕ = listing lists.prog in
    let written = (first-output call.names asked.writing call.output.written call.output.failures call.room).written in
    let failures = (first-output call.names asked.writing call.output.written call.output.failures call.room).failures_are in
    elim lists.lists [
      | inl whole ↦
          let quiet : r.messages ≡ call.messages = left.messages ∙ whole.quiet in
          let T : OutputView → Type 0 = λ v. IsTold call.tells call.messages [] v in
          ends (listing_outcome lists.prog) (of_listing words link lists.prog is lists.compiled) (record {
            output = left.written ∙ whole.written ∙ ap (λ (l : List ℕ). l ++ bytes) written;
            failures = left.failures ∙ whole.failures ∙ failures;
            message = subst T (sym quiet) (record {
              answer = Ok tt;
              exact = λ te. sym (append-nil call.messages.written);
              counted =
                  sym (add-zero call.messages.failures);
            });
            quiet = λ none. quiet;
            status = whole.status_is;
          })
      | inr failed ↦
          let more : r.output.failures ≡ call.output.failures + 1 = left.failures ∙ failed.failures ∙ ap (λ n. n + 1) failures in
          let S : List ℕ → Type 0 = λ l. Stops l bytes (written_by new.state) in
          let R : List ℕ → Type 0 = λ l. Stops (call.output.written ++ []) bytes l in
          let T : OutputView → Type 0 = λ v. IsTold call.tells call.messages (write_failed_message (name_at call.names (length call.inputs))) v in
          let name : name_at call.names (length (map fresh_view call.inputs)) ≡ name_at call.names (length call.inputs) =
          ap (name_at call.names) (length-map call.inputs fresh_view) in
          output_failed (record {
            written = [];
            bytes = bytes;
            answer = listing_answer words link lists.prog is lists.compiled refl refl;
            stops = subst R (sym left.written) (subst S (written ∙ sym (append-nil call.output.written)) failed.stops);
            failures = more;
            filled = filled (omega (arith, more));
            message = subst T (sym left.messages) (told-as call.tells call.messages call.messages new.err _ _ (ap write_failed_message name) refl failed.exact);
            status = failed.status_is;
          })
    ]

-- ---- all results

-- the first step ends the job: over packets, or it is refused, or it lists a program
first-done : (output_tells : Bool) (asked : Assignment) (call : Call) (new : JobView) (r : RunResult) (p : Option Preparing) → asked.preparing ≡ p
    → IsTrue output_tells → IsFilled call r → (p ≡ None → JobGives call.tells (first_job asked call) (Turn.Done r.status) new)
    → PreparesBy p output_tells call.tells (first_job asked call) (Turn.Done r.status) new → DecidedBy p (map nothing_done call.inputs)
    call.output.written (first_job asked call) → IsLeft new r → CommandRuns asked call r
first-done output_tells asked call new r None is to filled exact prepares d left =
    let P : Option Preparing → Type 0 = λ p. IsPolicy p asked.policy asked.policy in
    packets-run asked call (first_job asked call) new r filled (begins asked call asked.policy asked.preparing [] 0 None (subst P (sym is) refl) d)
    (exact refl) left
first-done output_tells asked call new r (Some (ReadsFilter filter)) is to filled exact refuses d left =
    let P : Option Preparing → Type 0 = λ p. IsWhyRefused p refuses.refusal in
    refused-run asked call new r refuses.refusal (subst P (sym is) refuses.why) refuses.refuses left
first-done output_tells asked call new r (Some (Compiles words link)) is to filled exact prepares d left =
    elim (prepares to) [
      | inl lists ↦ listed-run asked call new r words link filled is lists left
      | inr fails ↦
          let P : Option Preparing → Type 0 = λ p. IsWhyRefused p (Refusal.Expression fails.fault) in
          refused-run asked call new r (Refusal.Expression fails.fault) (subst P (sym is) fails.why) fails.refuses left
    ]

-- the last step of a run
pub under-done : (inputs_tell output_tells : Bool) (asked : Assignment) (call : Call) (job new : JobView) (r : RunResult) → IsTrue inputs_tell
    → IsTrue output_tells → Begun asked call → IsFilled call r → MakesStep inputs_tell output_tells call.tells job (Turn.Done r.status) new
    → IsLeft new r → Under asked call job → CommandRuns asked call r
under-done inputs_tell output_tells asked call job new r ti to begun filled step left (fresh is) =
    let P : JobView → Type 0 = λ j. MakesStep inputs_tell output_tells call.tells j (Turn.Done r.status) new in
    let first = subst P is step in
    first-done output_tells asked call new r asked.preparing refl to filled (first.exact ti to refl) first.prepares begun left
under-done inputs_tell output_tells asked call job new r ti to begun filled step left (goes prepared undone was) =
    packets-run asked call job new r filled was (step.exact ti to undone prepared) left

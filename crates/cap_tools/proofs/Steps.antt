-- The effect of a step on a job, by the parts that it changes. `old` is the job as its invariant
-- describes it, and `now` the same job as contracts see it.
use Rattle.cap_tools.proofs.{Answers.AnswerLeaves, Answers.answer-leaves, CommandStarts.ready-none, Fetches.Follows, Fetches.read_input-leaves}
use Rattle.cap_tools.proofs.Common.{is_none, ◌≡◌, ℕ, ◌+◌, ◌<◌, ◌≤◌, Bool, true, false, IsTrue, List, Captured, Option, None, Some, Result, Ok, Err, ◌&&◌, refl}
use Rattle.cap_tools.proofs.Common.{sym, ◌∙◌, ap, arith, subst, All, Fault, InputView, InputsView, InputPast, IsInput, IsNext, IsSound, MarksDecided, ReadSteps}
use Rattle.cap_tools.proofs.Common.{ReadsInput, steps_left, next-is-of, is_clean_end, input_after_decided, with_cursor, SelectorView, policy_state, GrowsByOne}
use Rattle.cap_tools.proofs.Common.{HasFewMarks, HavePrograms, Spends, IsStep, JobEnd, JobState, JobView, PacketsDecided, StepGives, state_at, asks_report}
use Rattle.cap_tools.proofs.Common.{end_after, sieve, DecidesPacket, StepReads, reads_on, decides_one, leaves_one, IsPaid, IsSmall, Target}
use Rattle.cap_tools.proofs.Common.{HasFewOutputInterfaces, room_by, room_to, Next, get-input, same-input}
use Rattle.cap_tools.specs.Bounds.{is_fault, JudgesOne}
use Rattle.cap_tools.proofs.Lefts.{counted-kept, few-kept, Goes, decided-on, read-on}
use Rattle.cap_tools.proofs.Weights.{is-light, mark_decided-small, read_input-small}
use Rattle.cap_process.specs.inside.Selector.{FitsTally}
use Rattle.cap_process.specs.declared.selector.Verdict as code

-- the job with these inputs, this selector, this output, this count of packets and this status
abbrev pub with_parts : JobView → InputsView → SelectorView → Target → ℕ → Option ℕ → JobView
with_parts j inputs selector output decided done =
    record j { state = state_at j.state.names inputs selector output decided; programs = selector.programs; done = done }

abbrev pub selector_of : JobView → SelectorView
selector_of j = record { policy = j.state.policy; state = j.state.state; programs = j.programs }

-- the selector and the output after a step
pub record Keeps (old : JobView) (selector : SelectorView) (output : Target) : Type 0 where
  pub policy : selector.policy ≡ old.state.policy
  pub programs : HavePrograms selector.policy selector.programs
  pub marks : HasFewMarks selector.policy selector.state
  pub room : room_to output ≡ room_by old.state
  pub few : HasFewOutputInterfaces output

pub same-kept : (old : JobView) → IsSound old → Keeps old (selector_of old) old.state.output
same-kept old sound = record { policy = refl; programs = sound.3; marks = sound.2; room = refl; few = sound.1.1 }

-- the inputs after a step after which the job may go on
pub record Moves (old new : InputsView) : Type 0 where
  pub small : All IsSmall new.cursors
  pub less : steps_left new < steps_left old
  pub paid : IsPaid old new

pub moves-sound : (old now : JobView) (inputs : InputsView) (selector : SelectorView) (output : Target) (decided : ℕ) → old ≡ now → IsSound old
    → now.preparing ≡ None → Keeps old selector output → Moves old.state.inputs inputs → decided ≤ old.state.decided + 1
    → IsSound (with_parts old inputs selector output decided old.done)
moves-sound old now inputs selector output decided is sound prepared keeps moves more =
    let was = sound.0 in
    let less = moves.less in (
      omega (arith, less, was, more),
      (moves.small, keeps.few),
      keeps.marks,
      keeps.programs,
      counted-kept old.done old.turns _ _ (omega (arith, less)) sound.4,
      few-kept old.done old.turns old.state.inputs inputs moves.paid sound.5,
      ready-none _ _ (ap (λ (v : JobView). v.preparing) is ∙ prepared),
    )

pub step-of : (inputs_tell output_tells : Bool) (old now : JobView) (r : Option JobEnd) (inputs : InputsView) (selector : SelectorView)
    (output : Target) (decided : ℕ) (done : Option ℕ) → old ≡ now → Keeps old selector output → All IsSmall inputs.cursors
    → (r ≡ None → Moves old.state.inputs inputs) → (r ≡ None → done ≡ old.done)
    → (IsTrue inputs_tell → IsTrue output_tells → StepGives old.state r (state_at old.state.names inputs selector output decided))
    → StepReads inputs_tell (is_none r) old (with_parts old inputs selector output decided done)
    → IsStep inputs_tell output_tells now r (with_parts old inputs selector output decided done)
step-of inputs_tell output_tells old now r inputs selector output decided done is keeps small moves ends exact reads =
    rw (← is) (record {
      exact = exact;
      reads = reads;
      progress = λ more. (moves more).less;
      paid = λ more. (moves more).paid;
      light = is-light (state_at old.state.names inputs selector output decided) (small, keeps.few) keeps.marks;
      sound = keeps.programs;
      policy = keeps.policy;
      names = refl;
      room = keeps.room;
      preparing = refl;
      err = refl;
      turns = refl;
      done = ends;
    })

-- ---- an input is read on

told : (old now : JobView) (r : Next) → old ≡ now → IsNext now.state.inputs r → IsNext old.state.inputs r
told old now r is tells = (rw (← is) at tells)

pub reads-move : (old now : JobView) (i : ℕ) (inputs : InputsView) (answer a : Result Bool Fault) → old ≡ now → IsSound old → IsNext now.state.inputs
    (Next.Read i) → answer ≡ a → ReadSteps old.state.inputs i answer inputs → Goes a → Moves old.state.inputs inputs
reads-move old now i inputs answer a is sound comes found steps goes =
    let on = read-on old.state.inputs inputs i answer (told old now (Next.Read i) is comes) steps in
    let goes_on = subst Goes (sym found) goes in
    record { small = read_input-small old.state.inputs inputs i answer steps sound.1.0; less = on.less goes_on; paid = on.paid goes_on }

fault-ends : (r : Option JobEnd) (a : Result Bool Fault) → (r ≡ None → Goes a) → is_none r ≡ true → is_fault a ≡ false
fault-ends None (Ok found) goes on = refl
fault-ends None (Err fault) goes on = absurd (goes refl)
fault-ends (Some end) a goes on = (cc)

-- `a` is the result of the read, and `r` how the job ends, if it does
pub read-step : (inputs_tell output_tells : Bool) (old now : JobView) (i : ℕ) (inputs : InputsView) (answer a : Result Bool Fault) (r : Option JobEnd)
    (selector : SelectorView) (output : Target) (done : Option ℕ) → old ≡ now → IsSound old → IsNext now.state.inputs (Next.Read i)
    → answer ≡ a → ReadSteps old.state.inputs i answer inputs → (IsTrue inputs_tell → ReadsInput old.state.inputs i answer inputs)
    → Keeps old selector output → selector.programs ≡ old.programs → (r ≡ None → Goes a) → (r ≡ None → done ≡ old.done)
    → ((is_clean_end a && asks_report old.state.inputs.order old.state.policy) ≡ false → output ≡ old.state.output)
    → (IsTrue output_tells → Follows a old.state.names inputs i (policy_state (selector_of old)) old.state.output r (policy_state selector) output)
    → IsStep inputs_tell output_tells now r (with_parts old inputs selector output old.state.decided done)
read-step inputs_tell output_tells old now i inputs answer a r selector output done is sound comes found steps exact keeps programs goes ends kept follows =
    let m : JobState = old.state in
    let tells = told old now (Next.Read i) is comes in
    let stepped : ReadSteps m.inputs i a inputs = rw found at steps in
    let read : IsTrue inputs_tell → ReadsInput m.inputs i a inputs = λ ti. rw found at (exact ti) in
    step-of inputs_tell output_tells old now r inputs selector output m.decided done is keeps (read_input-small m.inputs inputs i a stepped sound.1.0)
    (λ more. reads-move old now i inputs a a is sound comes refl stepped (goes more)) ends
    (λ ti to ss before d.
    rw keeps.policy (read_input-leaves ss before m.inputs.cursors m.inputs.order m.policy m.state m.names m.output m.decided i a inputs r
    (policy_state selector) output tells (read ti) d (follows to)))
    (reads_on i a (fault-ends r a goes) (record {
      next = next-is-of m.inputs (Next.Read i) tells;
      fetches = stepped;
      exact = read;
      decided = refl;
      programs = programs;
      output = kept;
    }))

-- ---- the current packet of an input is decided, or can't be

pub decides-move : (old now : JobView) (i : ℕ) (inputs : InputsView) → old ≡ now → IsSound old → IsNext now.state.inputs (Next.Decide i)
    → MarksDecided old.state.inputs i inputs → Moves old.state.inputs inputs
decides-move old now i inputs is sound comes marks =
    let on = decided-on old.state.inputs inputs i (told old now (Next.Decide i) is comes) marks in
    record { small = mark_decided-small old.state.inputs inputs i marks sound.1.0; less = on.0; paid = on.1 }

judges-one : (old : JobView) (i : ℕ) (cursor : InputView) (inputs : InputsView) (selector : SelectorView) (output : Target) (decided : ℕ)
    (done : Option ℕ) → IsNext old.state.inputs (Next.Decide i) → IsInput old.state.inputs.cursors i cursor → Spends cursor.source.packet
    (selector_of old) (old.state.decided + 1) selector
    → JudgesOne old i (with_parts old inputs selector output decided done)
judges-one old i cursor inputs selector output decided done tells among spends = by_packet cursor.source.packet refl spends
  where
    by_packet : (o : Option Captured) → cursor.source.packet ≡ o → Spends o (selector_of old) (old.state.decided + 1) selector
        → JudgesOne old i (with_parts old inputs selector output decided done)
    by_packet None held spends = absurd spends
    by_packet (Some p) held spends = record {
      next = next-is-of old.state.inputs (Next.Decide i) tells;
      cursor = cursor;
      among = get-input old.state.inputs.cursors i cursor among;
      packet = p;
      held = held;
      programs = spends.0;
      cost = spends.1;
    }

-- what is known of a packet that was judged, for every result
pub record Judged (output_tells : Bool) (old now : JobView) (i : ℕ) (cursor : InputView) (r : Result code.Verdict JobEnd) (selector : SelectorView)
    (output : Target) : Type 0 where
  pub is : old ≡ now
  pub sound : IsSound old
  pub comes : IsNext now.state.inputs (Next.Decide i)
  pub among : IsInput old.state.inputs.cursors i cursor
  pub keeps : Keeps old selector output
  pub spends : Spends cursor.source.packet (selector_of old) (old.state.decided + 1) selector
  pub passed : old.state.state.passed ≤ old.state.decided + 1 → selector.state.passed ≤ old.state.decided + 1
  pub counted : GrowsByOne old.state.state.tally selector.state.tally
  pub exact : IsTrue output_tells → old.state.state.passed < old.state.decided + 1 → FitsTally old.state.state.tally
      → DecidesPacket cursor.source.packet i (old.state.decided + 1) (sieve (policy_state (selector_of old)) old.state.output) r
      (sieve (policy_state selector) output)

leaves : (output_tells : Bool) (old now : JobView) (i : ℕ) (cursor : InputView) (r : Result code.Verdict JobEnd) (selector : SelectorView)
    (output : Target) → Judged output_tells old now i cursor r selector output → IsTrue output_tells → (ss : List InputPast) (before : List ℕ)
    (d : PacketsDecided ss before old.state)
    → AnswerLeaves d r (state_at old.state.names (with_cursor old.state.inputs i (input_after_decided cursor)) selector output
    (old.state.decided + 1)) (state_at old.state.names old.state.inputs selector output old.state.decided)
leaves output_tells old now i cursor r selector output j to ss before d =
    let m : JobState = old.state in
    let most = j.sound.0 in
    rw j.keeps.policy (answer-leaves ss before m.inputs.cursors m.inputs.order m.policy m.state m.names m.output m.decided i r cursor
    (policy_state selector) output (told old now (Next.Decide i) j.is j.comes) j.among j.keeps.policy j.passed j.counted (omega (arith, most)) (j.exact to) d)

pub decided-step : (inputs_tell output_tells : Bool) (old now : JobView) (i : ℕ) (cursor : InputView) (inputs : InputsView) (verdict : code.Verdict)
    (selector : SelectorView) (output : Target) → Judged output_tells old now i cursor (Ok verdict) selector output → MarksDecided old.state.inputs i inputs
    → IsStep inputs_tell output_tells now (end_after verdict) (with_parts old inputs selector output (old.state.decided + 1) old.done)
decided-step inputs_tell output_tells old now i cursor inputs verdict selector output j marks =
    let m : JobState = old.state in
    let after : InputView → InputsView = λ v. with_cursor m.inputs i (input_after_decided v) in
    let inputs_is : inputs ≡ after cursor = marks.is ∙ ap after (sym (same-input m.inputs.cursors i cursor marks.cursor j.among marks.among)) in
    let moves = decides-move old now i inputs j.is j.sound j.comes marks in
    step-of inputs_tell output_tells old now (end_after verdict) inputs selector output (m.decided + 1) old.done j.is j.keeps moves.small
    (λ more. moves) (λ more. refl)
    (λ ti to ss before d.
    rw inputs_is (leaves output_tells old now i cursor (Ok verdict) selector output j to ss before d))
    (decides_one i (judges-one old i cursor inputs selector output (m.decided + 1) old.done (told old now (Next.Decide i) j.is j.comes) j.among
    j.spends) marks refl)

pub failed-step : (inputs_tell output_tells : Bool) (old now : JobView) (i : ℕ) (cursor : InputView) (end : JobEnd) (selector : SelectorView)
    (output : Target) → Judged output_tells old now i cursor (Err end) selector output
    → IsStep inputs_tell output_tells now (Some end) (with_parts old old.state.inputs selector output old.state.decided old.done)
failed-step inputs_tell output_tells old now i cursor end selector output j =
    step-of inputs_tell output_tells old now (Some end) old.state.inputs selector output old.state.decided old.done j.is j.keeps j.sound.1.0
    (λ more. (cc)) (λ more. refl)
    (λ ti to ss before d. leaves output_tells old now i cursor (Err end) selector output j to ss before d)
    (leaves_one i refl (judges-one old i cursor old.state.inputs selector output old.state.decided old.done
    (told old now (Next.Decide i) j.is j.comes) j.among j.spends) refl refl)

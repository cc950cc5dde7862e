-- A turn of the loop makes one step, or two.
use Rattle.cap_tools.proofs.Common.{◌≡◌, ◌⊎◌, inl, inr, ℕ, ◌+◌, ◌≤◌, Bool, true, false, List, Option, None, Some, IsTrue, refl, sym, ◌∙◌, ap, arith, subst}
use Rattle.cap_tools.proofs.Common.{OutputView, IsTold, InputsView, steps_left, next-is-of, Call, RunResult, CommandRuns, Assignment, JobEnd, JobState}
use Rattle.cap_tools.proofs.Common.{StepGives, EndsJob, HavePrograms, Preparing, JobView, Turn, end_message, end_status, room_by, PreparesBy, StepReads}
use Rattle.cap_tools.proofs.Common.{IsLight, reads_nothing, most_turns, HasFewTurns, IsCounted, IsSound, IsStep, ending, IsNext, next_of, Next, MakesStep}
use Rattle.cap_tools.proofs.Common.{is_read, makes, rests}
use Rattle.cap_tools.specs.Commands.{StepReadsBy, preparing_left}
use Rattle.cap_tools.proofs.{Lefts.reads-kept, Weights.is-light, Runs.IsFilled, Runs.IsLeft, Runs.under-done, Runs.Begun, Runs.Under, Runs.under-more}
use Rattle.cap_tools.specs.inside.Jobs.{MakesSteps, MakesStepUnless, one_step, two_steps, IsUncounted, MayCount}

-- ---- a step that was made may be counted

few-turns : (j : JobView) → j.done ≡ None → HasFewTurns j.done j.turns j.state.inputs → j.turns ≤ most_turns j.state.inputs
few-turns j undone few =
    let F : Option ℕ → Type 0 = λ o. HasFewTurns o j.turns j.state.inputs in
    let is = subst F undone few in
    omega (arith, is)

pub may-count : (inputs_tell output_tells : Bool) (old new : JobView) (r : Option JobEnd) → IsUncounted inputs_tell output_tells old r new → MayCount r new
may-count inputs_tell output_tells old new r is =
    let C : Option ℕ → Type 0 = λ o. IsCounted o old.turns (steps_left old.state.inputs) in
    let F : Option ℕ → Type 0 = λ o. HasFewTurns o old.turns old.state.inputs in
    by_end r is.step (subst C is.undone is.sound.4) (subst F is.undone is.sound.5)
  where
    by_end : (r : Option JobEnd) → IsStep inputs_tell output_tells old r new → IsCounted None old.turns (steps_left old.state.inputs)
        → HasFewTurns None old.turns old.state.inputs → MayCount r new
    by_end None step all few =
        let same = step.turns in
        let less = step.progress refl in
        let paid = step.paid refl in
        (step.done refl ∙ is.undone, omega (arith, all, same, less), omega (arith, few, same, paid))
    by_end (Some end) step all few =
        let same = step.turns in
        omega (arith, all, same)

-- ---- what a step gives once it is counted

prepares-nothing : (output_tells tells : Bool) (old : JobView) (r : Turn) (new : JobView) → old.preparing ≡ None → PreparesBy old.preparing
    output_tells tells old r new
prepares-nothing output_tells tells old r new prepared =
    let Q : Option Preparing → Type 0 = λ p. PreparesBy p output_tells tells old r new in
    subst Q (sym prepared) tt

reads-prepared : (tells goes : Bool) (old new : JobView) → old.preparing ≡ None → StepReads tells goes old new → StepReadsBy old.preparing tells goes old new
reads-prepared tells goes old new prepared reads =
    let Q : Option Preparing → Type 0 = λ p. StepReadsBy p tells goes old new in
    subst Q (sym prepared) reads

pub counted-more : (inputs_tell output_tells tells : Bool) (old mid : JobView) → IsUncounted inputs_tell output_tells old None mid
    → MakesStep inputs_tell output_tells tells old Turn.More
    (record { preparing = mid.preparing; state = mid.state; programs = mid.programs; err = mid.err; turns = mid.turns + 1; done = mid.done })
counted-more inputs_tell output_tells tells old mid is =
    let step = is.step in
    let none : mid.preparing ≡ None = step.preparing ∙ is.prepared in
    let new : JobView = record {
      preparing = mid.preparing;
      state = mid.state;
      programs = mid.programs;
      err = mid.err;
      turns = mid.turns + 1;
      done =
          mid.done;
    } in
    record {
      after = λ status some. absurd (let both = sym is.undone ∙ some in cc both);
      exact = λ ti to undone prepared. (step.err, λ ss before d. record { goes = step.exact ti to ss before d.packets; programs = step.sound });
      prepares = prepares-nothing output_tells tells old Turn.More new is.prepared;
      keeps = record {
        prepared = none;
        done = step.done refl ∙ is.undone;
        status = tt;
        turns = λ undone. ap (λ n. n + 1) step.turns;
        upper_bound = λ undone. (let same = step.turns in let bound = few-turns old is.undone is.sound.5 in omega (arith, same, bound));
        light = step.light;
        sound = step.sound;
        left = λ more. (let p = ap preparing_left none in let p' = ap preparing_left is.prepared in let less = step.progress refl in
            omega (arith, p, p', less));
        names = step.names;
        room = step.room;
        quiet = λ more. step.err;
        policy = λ prepared. step.policy;
      };
      reads = reads-prepared inputs_tell true old new is.prepared (reads-kept inputs_tell true old mid mid.preparing mid.err (mid.turns + 1) mid.done
          step.reads);
    }

status-small : (e : JobEnd) → end_status e ≤ 2
status-small JobEnd.Complete = omega arith
status-small (JobEnd.FaultIn input fault) = omega arith
status-small JobEnd.OutputFailed = omega arith

clean-status : (e : JobEnd) → end_status e ≡ 0 → e ≡ JobEnd.Complete
clean-status JobEnd.Complete is = refl
clean-status (JobEnd.FaultIn input fault) is = (cc)
clean-status JobEnd.OutputFailed is = (cc)

-- a step that ended the job, and its report
step-ends : (inputs_tell output_tells tells : Bool) (old mid new : JobView) (e : JobEnd) → IsTrue inputs_tell → IsTrue output_tells
    → IsStep inputs_tell output_tells old (Some e) mid → new ≡ ending e new.err mid
    → IsTold tells mid.err (end_message mid.state.names mid.state.inputs.cursors e) new.err → (e ≡ JobEnd.Complete → new.err ≡ mid.err)
    → EndsJob tells old (end_status e) new
step-ends inputs_tell output_tells tells old mid new e ti to step is exact quiet =
    let M : JobState → Type 0 = λ m. StepGives old.state (Some e) m in
    let N : List (List ℕ) → Type 0 = λ l. IsTold tells mid.err (end_message l mid.state.inputs.cursors e) new.err in
    let C : JobState → Type 0 = λ m. IsTold tells mid.err (end_message old.state.names m.inputs.cursors e) new.err in
    let F : OutputView → Type 0 = λ v. IsTold tells v (end_message old.state.names new.state.inputs.cursors e) new.err in
    let same : new.state ≡ mid.state = ap (λ (j : JobView). j.state) is in
    record {
      end = e;
      leaves = subst M (sym same) (step.exact ti to);
      exact = subst F step.err (subst C (sym same) (subst N step.names exact));
      quiet = λ zero. quiet (clean-status e zero) ∙ step.err;
      status_is = refl;
    }

pub counted-end : (inputs_tell output_tells tells : Bool) (old mid new : JobView) (e : JobEnd) → IsUncounted inputs_tell output_tells old (Some e) mid
    → new ≡ ending e new.err mid
    → IsTold tells mid.err (end_message mid.state.names mid.state.inputs.cursors e) new.err → (e ≡ JobEnd.Complete → new.err ≡ mid.err)
    → MakesStep inputs_tell output_tells tells old (Turn.Done (end_status e)) new
counted-end inputs_tell output_tells tells old mid new e is new_is told quiet =
    let step = is.step in
    let L : JobView → Type 0 = λ j. IsLight j.state in
    let S : JobView → Type 0 = λ j. HavePrograms j.state.policy j.programs in
    let R : JobView → Type 0 = λ j. StepReads inputs_tell false old j in
    let one : new.turns ≡ mid.turns + 1 = ap (λ (j : JobView). j.turns) new_is in
    record {
      after = λ status some. absurd (let both = sym is.undone ∙ some in cc both);
      exact = λ ti to undone prepared. step-ends inputs_tell output_tells tells old mid new e ti to step new_is told quiet;
      prepares = prepares-nothing output_tells tells old (Turn.Done (end_status e)) new is.prepared;
      keeps = record {
        prepared = ap (λ (j : JobView). j.preparing) new_is ∙ step.preparing ∙ is.prepared;
        done = ap (λ (j : JobView). j.done) new_is;
        status = status-small e;
        turns = λ undone. one ∙ ap (λ n. n + 1) step.turns;
        upper_bound = λ undone. (let same = step.turns in let bound = few-turns old is.undone is.sound.5 in omega (arith, one, same, bound));
        light = subst L (sym new_is) step.light;
        sound = subst S (sym new_is) step.sound;
        left = λ more. (cc);
        names = ap (λ (j : JobView). j.state.names) new_is ∙ step.names;
        room = ap (λ (j : JobView). room_by j.state) new_is ∙ step.room;
        quiet = λ more. (cc);
        policy = λ prepared. ap (λ (j : JobView). j.state.policy) new_is ∙ step.policy;
      };
      reads = reads-prepared inputs_tell false old new is.prepared
          (subst R (sym new_is) (reads-kept inputs_tell false old mid mid.preparing new.err (mid.turns + 1) (Some (end_status e)) step.reads));
    }

counted-status : (done : Option ℕ) (turns left status : ℕ) → done ≡ Some status → IsCounted done turns left → status ≤ 2
counted-status None turns left status is counted = absurd (cc is)
counted-status (Some ended) turns left status is counted =
    let S : Option ℕ → Type 0 = λ o. IsCounted o turns left in
    (subst S is counted).1

-- a step after the end
pub after-end : (inputs_tell output_tells tells : Bool) (old j : JobView) (status : ℕ) → old ≡ j → IsSound old → old.done ≡ Some status
    → j.preparing ≡ None → MakesStep inputs_tell output_tells tells j (Turn.Done status) j
after-end inputs_tell output_tells tells old j status same was ended none =
    let sound = subst IsSound same was in
    let done : j.done ≡ Some status = sym (ap (λ (v : JobView). v.done) same) ∙ ended in
    record {
      after = λ s some. (ap Turn.Done (let same = sym done ∙ some in cc same), refl);
      exact = λ ti to undone prepared. absurd (let both = sym done ∙ undone in cc both);
      prepares = prepares-nothing output_tells tells j (Turn.Done status) j none;
      keeps = record {
        prepared = none;
        done = done;
        status = counted-status j.done j.turns (steps_left j.state.inputs) status done sound.4;
        turns = λ undone. absurd (let both = sym done ∙ undone in cc both);
        upper_bound = λ undone. absurd (let both = sym done ∙ undone in cc both);
        light = is-light j.state sound.1 sound.2;
        sound = sound.3;
        left = λ more. (cc);
        names = refl;
        room = refl;
        quiet = λ more. refl;
        policy = λ prepared. refl;
      };
      reads = reads-prepared inputs_tell false j j none (reads_nothing refl (record { inputs = refl; decided = refl; programs = refl }));
    }

-- ---- a read, if it is next, and then what is next

pub undone-on : (reads inputs_tell output_tells tells : Bool) (old new : JobView) → MakesStepUnless reads inputs_tell output_tells tells old Turn.More
    new → old.preparing ≡ None → old.done ≡ None → (new.preparing ≡ None) × (new.done ≡ None)
undone-on reads inputs_tell output_tells tells old new (makes step) prepared undone = (step.keeps.prepared, step.keeps.done)
undone-on reads inputs_tell output_tells tells old new (rests next more same) prepared undone =
    (ap (λ (j : JobView). j.preparing) same ∙ prepared, ap (λ (j : JobView). j.done) same ∙ undone)

pub step-ended : (inputs_tell output_tells tells : Bool) (old new : JobView) (status : ℕ) → MakesStepUnless false inputs_tell output_tells tells old
    (Turn.Done status) new → MakesSteps inputs_tell output_tells tells old (Turn.Done status) new
step-ended inputs_tell output_tells tells old new status (makes step) = one_step step
step-ended inputs_tell output_tells tells old new status (rests next more same) = absurd (cc more)

pub steps-made : (inputs_tell output_tells tells : Bool) (old between : JobView) (r : Turn) (new : JobView) → MakesStepUnless false inputs_tell
    output_tells tells old Turn.More between
    → MakesStepUnless true inputs_tell output_tells tells between r new → MakesSteps inputs_tell output_tells tells old r new
steps-made inputs_tell output_tells tells old between r new (makes step) (makes then) = two_steps between step then
steps-made inputs_tell output_tells tells old between r new (makes step) (rests next more same) =
    let N : JobView → Type 0 = λ j. MakesStep inputs_tell output_tells tells old Turn.More j in
    let T : Turn → Type 0 = λ t. MakesStep inputs_tell output_tells tells old t new in
    one_step (subst T (sym more) (subst N (sym same) step))
steps-made inputs_tell output_tells tells old between r new (rests next more same) (makes then) =
    let O : JobView → Type 0 = λ j. MakesStep inputs_tell output_tells tells j r new in
    one_step (subst O same then)
steps-made inputs_tell output_tells tells old between r new (rests next more same) (rests next' more' same') =
    let both = sym next ∙ sym (ap (λ (j : JobView). is_read (next_of j.state.inputs)) same) ∙ next' in
    absurd (cc both)

-- whether a read is next
pub told-read : (inputs : InputsView) (r : Next) (reads : Bool) → IsNext inputs r → is_read r ≡ reads → is_read (next_of inputs) ≡ reads
told-read inputs r reads tells is = ap is_read (next-is-of inputs r tells) ∙ is

pub told-no-read : (inputs : InputsView) (r : Next) → IsNext inputs r → ((input : ℕ) × (r ≡ Next.Decide input)) ⊎ (r ≡ Next.Finish)
    → is_read (next_of inputs) ≡ false
told-no-read inputs r tells (inl decides) = told-read inputs r false tells (ap is_read decides.1)
told-no-read inputs r tells (inr finishes) = told-read inputs r false tells (ap is_read finishes)

-- ---- the loop, over one step or two

pub steps-more : (inputs_tell output_tells tells : Bool) (asked : Assignment) (call : Call) (job new : JobView) → IsTrue inputs_tell
    → IsTrue output_tells → Begun asked call → MakesSteps inputs_tell output_tells tells job Turn.More new → Under asked call job → Under asked call new
steps-more inputs_tell output_tells tells asked call job new ti to begun (one_step step) under = under-more inputs_tell output_tells tells asked call
    job new ti to begun step under
steps-more inputs_tell output_tells tells asked call job new ti to begun (two_steps between step then) under =
    under-more inputs_tell output_tells tells asked call between new ti to begun then
    (under-more inputs_tell output_tells tells asked call job between ti to begun step under)

pub steps-done : (inputs_tell output_tells : Bool) (asked : Assignment) (call : Call) (job new : JobView) (r : RunResult) → IsTrue inputs_tell
    → IsTrue output_tells → Begun asked call → IsFilled call r → MakesSteps inputs_tell output_tells call.tells job (Turn.Done r.status) new
    → IsLeft new r → Under asked call job → CommandRuns asked call r
steps-done inputs_tell output_tells asked call job new r ti to begun filled (one_step step) left under = under-done inputs_tell output_tells asked
    call job new r ti to begun filled step left under
steps-done inputs_tell output_tells asked call job new r ti to begun filled (two_steps between step then) left under =
    under-done inputs_tell output_tells asked call between new r ti to begun filled then left
    (under-more inputs_tell output_tells call.tells asked call job between ti to begun step under)

pub steps-room : (inputs_tell output_tells tells : Bool) (old : JobView) (r : Turn) (new : JobView) → MakesSteps inputs_tell output_tells tells old r
    new → room_by new.state ≡ room_by old.state
steps-room inputs_tell output_tells tells old r new (one_step step) = step.keeps.room
steps-room inputs_tell output_tells tells old r new (two_steps between step then) = then.keeps.room ∙ step.keeps.room

pub steps-undone : (inputs_tell output_tells tells : Bool) (old new : JobView) → MakesSteps inputs_tell output_tells tells old Turn.More new → new.done ≡ None
steps-undone inputs_tell output_tells tells old new (one_step step) = step.keeps.done
steps-undone inputs_tell output_tells tells old new (two_steps between step then) = then.keeps.done

pub steps-status : (inputs_tell output_tells tells : Bool) (old new : JobView) (status : ℕ) → MakesSteps inputs_tell output_tells tells old
    (Turn.Done status) new → status ≤ 2
steps-status inputs_tell output_tells tells old new status (one_step step) = step.keeps.status
steps-status inputs_tell output_tells tells old new status (two_steps between step then) = then.keeps.status

-- The job of each command, before its first step.
use Rattle.cap_tools.{proofs.Coming.come-first, proofs.Programs.new-for, specs.declared.start.Preparation.Preparation}
use Rattle.cap_tools.proofs.Common.{◌≡◌, inl, inr, ℕ, ◌+◌, ◌≤◌, Bool, true, List, [], map, length, None, Option, Result, Ok, Err, refl, sym, ap, arith, subst}
use Rattle.cap_tools.proofs.Common.{◌∙◌, nat_eq, nat_le, ◌&&◌, add-zero, DeviceFault, listing, Target, Capture, Text, Lines, target_at, written_to, failures_to}
use Rattle.cap_tools.proofs.Common.{failures_by, Reports, is_text, written_by, MessagesView, most_inputs, IsCompiled, IsTold, Insn, Link, Turn, InTurn, Count}
use Rattle.cap_tools.proofs.Common.{KeepAll, Call, JobView, JobEnd, first_job, state_at, end_message, end_of_write, end_status, fresh_inputs, nothing_done}
use Rattle.cap_tools.proofs.Common.{InputsView, EndsList, ending, Assignment, Preparing, assignment, SelectorView, initial_state, CompileGives, DecidedBy}
use Rattle.cap_tools.proofs.Common.{PreparesBy, PreparesOnly, RefusesStart, Refusal, refusal_status, IsReadyIf, IsSound, Some, spent_in, with_preparing, suc}
use Rattle.cap_tools.proofs.Common.{◌*◌, ◌^◌, ◌<◌, ◌∷◌, drop, Writing, HasWrittenTo, append-nil, IsAt-start, HasPackets-none, InputItems, sequence_in_turn}
use Rattle.cap_tools.proofs.Common.{sequence_by_time, PacketOrder, ByTime, Policy, FreshInput, fresh_view, Future, AreInputsAfter, KnowGreatest, AreFutures}
use Rattle.cap_tools.proofs.Common.{AreSettled, ended_count, inputs_with, inputs_left, input_items, steps_left_in, steps_left, most_steps, reads_of, most_turns}
use Rattle.cap_tools.proofs.Common.{steps_owed_in_all, owed_in, PacketsDecided, false, ap₂, All, is_some, option_map, Content, empty, truth, Rule, by_reading}
use Rattle.cap_tools.proofs.Common.{by_answer, AreNew, preparing_of, MakesStep, Filter}
use Rattle.cap_command.specs.{Command.is_proper, Command.is_proper_edit, Command.is_proper_print, declared.command.Command.Command}
use Rattle.std.proofs.lemmas.Bool.{and_parts, eqb-true, leb-true}
use Rattle.cap_octet.specs.Device.{AppendsOrStops, failures_of}
use Rattle.cap_tools.specs.inside.Jobs.{HasMadeNoStep, KeepsFirst, IsFresh}

start-following : (os : List FreshInput) → AreInputsAfter (map nothing_done os) (map fresh_view os)
start-following [] = tt
start-following (o ∷ os) = (IsAt-start o.text o.given o.failures o.sure, start-following os)

start-wholes : (os : List FreshInput) (fs : List Future) → AreFutures (map fresh_view os) fs → inputs_with (map nothing_done os) (map fresh_view os)
    fs ≡ inputs_left (map fresh_view os) fs
start-wholes [] [] fits = refl
start-wholes [] (f ∷ fs) fits = absurd fits
start-wholes (o ∷ os) [] fits = absurd fits
start-wholes (o ∷ os) (f ∷ fs) fits = ap (λ (l : List InputItems). input_items (nothing_done o) (fresh_view o) f ∷ l) (start-wholes os fs fits.1)

-- nothing is written
start-drained : (before : List ℕ) (names : List (List ℕ)) (w : Writing) (failures room : ℕ) → HasWrittenTo before names (target_at w before failures room) [] []
start-drained before names (Writing.Capture format) failures room = HasPackets-none format before failures room
start-drained before names Writing.Text failures room = sym (append-nil before)
start-drained before names (Writing.Lines options) failures room = sym (append-nil before)

fresh-count : (os : List FreshInput) → ended_count (map fresh_view os) ≡ 0
fresh-count [] = refl
fresh-count (o ∷ os) = refl

start-come : (order : PacketOrder) (os : List FreshInput) → AreSettled (map nothing_done os) (record { order = order; cursors = map fresh_view os }) []
start-come InTurn os fs fits =
    let rs : List InputItems = inputs_left (map fresh_view os) fs in
    ap (sequence_in_turn 0) (start-wholes os fs fits) ∙ ap (λ n. sequence_in_turn n (drop n rs)) (sym (fresh-count os))
start-come ByTime os fs fits = ap sequence_by_time (start-wholes os fs fits)

start-greatest : (os : List FreshInput) → KnowGreatest (map nothing_done os) (map fresh_view os)
start-greatest [] = tt
start-greatest (o ∷ os) = (refl, start-greatest os)

-- the packets of a call, before this policy decides any
nothing-decided : (a : Assignment) (call : Call) (policy : Policy)
    → PacketsDecided (map nothing_done call.inputs) call.output.written (record (first_job a call).state { policy = policy })
nothing-decided a call policy = record {
  following = start-following call.inputs;
  greatest = start-greatest call.inputs;
  events = [];
  first = come-first (map nothing_done call.inputs) (fresh_inputs a.order call.inputs) [] (start-following call.inputs) (start-come a.order call.inputs);
  come = start-come a.order call.inputs;
  packets = [];
  reports = [];
  progress = refl;
  output = start-drained call.output.written call.names a.writing call.output.failures call.room;
  passed = omega arith;
  counted = (omega arith, omega arith, omega arith);
}

fresh-left : (os : List FreshInput) → steps_left_in (map fresh_view os) ≤ (2 ^ 64 + 1) * length os
fresh-left [] = omega arith
fresh-left (o ∷ os) = let e = fresh-left os in omega (arith, e)

-- so much is to be done
pub first-less : (order : PacketOrder) (os : List FreshInput) → length os ≤ most_inputs → steps_left (fresh_inputs order os) < most_steps
first-less order os upper_bound = let a = fresh-left os in omega (arith, a, upper_bound)

-- each input owes one step
start-owed : (os : List FreshInput) → (reads_of (map fresh_view os) ≡ 0) × (owed_in (map fresh_view os) ≡ length (map fresh_view os))
start-owed [] = (refl, refl)
start-owed (o ∷ os) = let e = start-owed os in let r = e.0 in let w = e.1 in (omega (arith, r), omega (arith, w))

-- nothing is owed but for the ends of the inputs
pub first-few : (order : PacketOrder) (os : List FreshInput) → steps_owed_in_all (fresh_inputs order os) < most_turns (fresh_inputs order os)
first-few order os = let e = start-owed os in let r = e.0 in let w = e.1 in omega (arith, r, w)

-- ---- the first step of a job, whose preparation was taken out

pub first-step : (inputs_tell output_tells tells : Bool) (p : Preparing) (old : JobView) (r : Turn) (new : JobView) → IsFresh old
    → PreparesBy (Some p) output_tells tells (with_preparing (Some p) old) r new → KeepsFirst old r new → PreparesOnly old new
    → MakesStep inputs_tell output_tells tells (with_preparing (Some p) old) r new
first-step inputs_tell output_tells tells p old r new fresh prepares keeps only = record {
  after = λ s is. absurd (let both = sym fresh.done ∙ is in cc both);
  exact = λ ti to undone none. absurd (cc none);
  prepares = prepares;
  keeps = keeps p;
  reads = record { inputs = only.inputs; decided = only.decided; unspent = only.unspent };
}

-- a refusal ends the job
pub refused-step : (inputs_tell output_tells tells : Bool) (p : Preparing) (refusal : Refusal) (old : JobView) (r : Turn) (new : JobView)
    → IsFresh old → r ≡ Turn.Done (refusal_status refusal) → RefusesStart refusal tells old (refusal_status refusal) new
    → (RefusesStart refusal tells (with_preparing (Some p) old) (refusal_status refusal) new → PreparesBy (Some p) output_tells tells
    (with_preparing (Some p) old) (Turn.Done (refusal_status refusal)) new) → KeepsFirst old r new → MakesStep inputs_tell output_tells tells
    (with_preparing (Some p) old) r new
refused-step inputs_tell output_tells tells p refusal old r new fresh is refuses gives keeps =
    let P : Turn → Type 0 = λ t. PreparesBy (Some p) output_tells tells (with_preparing (Some p) old) t new in
    first-step inputs_tell output_tells tells p old r new fresh
    (subst P (sym is) (gives (record { status_is = refl; exact = refuses.exact; new_is = refuses.new_is }))) keeps
    (record {
      inputs = ap (λ (j : JobView). j.state.inputs) refuses.new_is;
      decided = ap (λ (j : JobView). j.state.decided) refuses.new_is;
      unspent =
          ap (λ (j : JobView). spent_in j.programs) refuses.new_is;
    })

pub lists-some : (tells : Bool) (words : List ℕ) (link : Link) (prog : List Insn) (p : Option Preparing) (old new : JobView) (r : Turn)
    → IsCompiled words link prog → EndsList prog tells old r new → CompileGives words link tells (with_preparing p old) r new
lists-some tells words link prog p old new Turn.More compiled lists = lists
lists-some tells words link prog p old new (Turn.Done status) compiled lists = inl (record {
  prog = prog;
  compiled = compiled;
  lists = elim lists [
    | inl listed ↦ inl (record { written = listed.written; failures = listed.failures; quiet = listed.quiet; status_is = listed.status_is })
    | inr failed ↦ inr (record { stops = failed.stops; failures = failed.failures; exact = failed.exact; status_is = failed.status_is })
  ];
})

-- a job that still prepares made no step
pub made-no-step : (old now : JobView) (p : Preparing) → old ≡ now → IsSound old → old.preparing ≡ Some p → HasMadeNoStep p old
made-no-step old now p is sound some = (let R : Option Preparing → Type 0 = λ o. IsReadyIf o old in subst R some sound.6)

pub taken-fresh : (old now : JobView) (p : Option Preparing) → old ≡ now → IsFresh old → IsFresh (with_preparing p old)
taken-fresh old now p is fresh = record {
  turns = fresh.turns;
  done = fresh.done;
  programs = fresh.programs;
  left = fresh.left;
  upper_bound =
      fresh.upper_bound;
}

-- the job before it was taken out
pub untaken : (old now : JobView) (p : Option Preparing) → old ≡ now → old.preparing ≡ p → with_preparing p old ≡ now
untaken old now p is prepares = ap (λ q. with_preparing q old) (sym prepares) ∙ is

-- ---- nothing is done

one-input : (n : ℕ) (other : Bool) → (nat_eq n 1 && other) ≡ true → n ≤ most_inputs
one-input n other is = let one = eqb-true n 1 (and_parts (nat_eq n 1) other is).0 in omega (arith, one)

-- a proper command has at most a given number of inputs
pub few-inputs : {Z : Type 0} (c : Command Z) (n : ℕ) → is_proper c n ≡ true → n ≤ most_inputs
few-inputs (Command.Edit edit) n is = one-input n (is_proper_edit edit) is
few-inputs (Command.Merge merge) n is = leb-true n most_inputs (and_parts (nat_le 1 n) (nat_le n most_inputs) is).1
few-inputs Command.Infos n is = leb-true n most_inputs (and_parts (nat_le 1 n) (nat_le n most_inputs) is).1
few-inputs (Command.Print print) n is = one-input n (is_proper_print print) is
few-inputs (Command.Compile compile) n is = let none = eqb-true n 0 is in omega (arith, none)

-- the job that was made of these parts is that of the command
pub first-made : {Z : Type 0} (c : Command Z) (call : Call) (a : Assignment) (inputs : InputsView) (selector : SelectorView) (messages : MessagesView)
    (target : Target)
    → a.preparing ≡ (assignment c).preparing → a.order ≡ (assignment c).order → a.policy ≡ (assignment c).policy → a.writing ≡ (assignment c).writing
    → inputs ≡ fresh_inputs a.order call.inputs → selector ≡ record { policy = a.policy; state = initial_state; programs = [] }
    → messages ≡ record { names = call.names; device = call.messages } → target ≡ target_at a.writing call.output.written call.output.failures call.room
    → record {
      preparing = a.preparing;
      state = state_at messages.names inputs selector target 0;
      programs = selector.programs;
      err = messages.device;
      turns = 0;
      done = None;
    } ≡ first_job (assignment c) call
first-made c call a inputs selector messages target same_preparing same_order same_policy same_writing is judged exact written =
    rw (is, judged, exact, written, same_preparing, same_order, same_policy, same_writing) refl

fresh-job : (a : Assignment) (call : Call) → length call.inputs ≤ most_inputs → IsFresh (first_job a call)
fresh-job a call upper_bound = record {
  turns = refl;
  done = refl;
  programs = refl;
  left = first-less a.order call.inputs upper_bound;
  upper_bound = first-few a.order call.inputs;
}

-- what a command reads or compiles first is not begun, and no step was made
pub first-ready : {Z : Type 0} (c : Command Z) (call : Call) → length call.inputs ≤ most_inputs
    → IsReadyIf (assignment c).preparing (first_job (assignment c) call)
first-ready (Command.Edit edit) call upper_bound = tt
first-ready (Command.Merge merge) call upper_bound = tt
first-ready Command.Infos call upper_bound = tt
first-ready (Command.Print print) call upper_bound = fresh-job (assignment (Command.Print print)) call upper_bound
first-ready (Command.Compile compile) call upper_bound = (fresh-job (assignment (Command.Compile compile)) call upper_bound, refl)

-- nothing is decided of the inputs
pub first-decided : {Z : Type 0} (c : Command Z) (call : Call)
    → DecidedBy (assignment c).preparing (map nothing_done call.inputs) call.output.written (first_job (assignment c) call)
first-decided (Command.Edit edit) call = record {
  packets = nothing-decided (assignment (Command.Edit edit)) call (assignment (Command.Edit edit)).policy;
  programs = refl;
}
first-decided {Z = Z} (Command.Merge merge) call = record {
  packets = nothing-decided (assignment {Z = Z} (Command.Merge merge)) call KeepAll;
  programs = refl;
}
first-decided {Z = Z} Command.Infos call = record { packets = nothing-decided (assignment {Z = Z} Command.Infos) call Count; programs = refl }
first-decided (Command.Print print) call = λ rule is programs made. record {
  packets = nothing-decided (assignment (Command.Print print)) call (Filter rule print.count);
  programs = new-for rule programs made;
}
first-decided (Command.Compile compile) call = tt

-- ---- a listing is written

-- what is appended to a text, or that its device failed
appended : (old new : Target) (bytes : List ℕ) (r : Result (Unit {0}) DeviceFault) → is_text old ≡ true → Reports bytes old r new
    → AppendsOrStops r (written_to old) bytes (written_to new) × (failures_to new ≡ failures_to old + failures_of r)
appended (Capture sink) new bytes r text to = (cc)
appended (Lines options written failures room) new bytes r text to = (cc)
appended (Text written failures room) new bytes r text to =
    rw to.is (to.appends, refl)

pub listed : (insns : List Insn) (tells : Bool) (old new : JobView) (output : Target) (r : Result (Unit {0}) DeviceFault) → is_text old.state.output ≡
    true → Reports (listing insns) old.state.output r output
    → new ≡ ending (end_of_write r) new.err (record old { state = record old.state { output = output } })
    → IsTold tells old.err (end_message old.state.names old.state.inputs.cursors (end_of_write r)) new.err
    → (end_of_write r ≡ JobEnd.Complete → new.err ≡ old.err) → EndsList insns tells old (Turn.Done (end_status (end_of_write r))) new
listed insns tells old new output (Ok done) text lists is told quiet =
    let to = appended old.state.output output (listing insns) (Ok done) text lists in
    inl (record {
      written = ap (λ (j : JobView). written_by j.state) is ∙ to.0;
      failures = ap (λ (j : JobView). failures_by j.state) is ∙ to.1 ∙ add-zero (failures_by old.state);
      quiet = quiet refl;
      status_is = refl;
    })
listed insns tells old new output (Err fault) text lists is told quiet =
    let to = appended old.state.output output (listing insns) (Err fault) text lists in
    inr (record { stops = rw is to.0; failures = ap (λ (j : JobView). failures_by j.state) is ∙ to.1; exact = told; status_is = refl })

pub none-before : {Z : Type 0} (p : Option (Preparation Z)) → is_some p ≡ false → option_map preparing_of p ≡ None
none-before None is = refl
none-before (Some p) is = (cc)

pub some-before : {Z : Type 0} (p : Option (Preparation Z)) → is_some p ≡ true → option_map preparing_of p ≡ None → ⊥
some-before None is none = (cc)
some-before (Some p) is none = (cc)

-- a job that prepares nothing is ready
pub ready-none : (p : Option Preparing) (j : JobView) → p ≡ None → IsReadyIf p j
ready-none None j is = tt
ready-none (Some preparing) j is = (cc)

none-spent : (programs : List Content) → All (λ program. program.spent ≡ 0) programs → spent_in programs ≡ 0
none-spent [] all = refl
none-spent (program ∷ programs) all =
    let cursor : program.spent ≡ 0 = all 0 program (omega arith) in
    ap₂ (λ a b. a + b) cursor (none-spent programs (λ k d less. all (suc k) d (omega (arith, less))))

pub new-unspent : (rule : Rule) (programs : List Content) → AreNew rule programs → spent_in programs ≡ 0
new-unspent (by_reading empty) programs new = rw new refl
new-unspent (by_reading (truth a)) programs new = none-spent programs new.1
new-unspent (by_answer prog) programs new = rw new refl

-- The memory that a job holds is bounded.
use Rattle.cap_tools.proofs.Common.{◌≡◌, ℕ, ◌+◌, ◌*◌, ◌≤◌, List, [], ◌∷◌, ◌++◌, length, map, Bool, Result, arith, subst, All, Fault, Declared, Nothing}
use Rattle.cap_tools.proofs.Common.{PcapFile, PcapngFile, most_in_unit, SourceView, Phase, Reading, Ended, Failed, SectionFits, Steps, Writing}
use Rattle.cap_tools.proofs.Common.{HasFewOutputInterfaces, Target, Capture, Text, Lines, target_at, InputView, InputsView, IsInput, ReadSteps, MarksDecided}
use Rattle.cap_tools.proofs.Common.{input_after, input_after_decided, HasFewMarks, FreshInput, fresh_view, JobState, IsLight, IsSmall}
use Rattle.cap_tools.specs.Bounds.{IsBounded, declared_weight, inputs_weight, names_weight, target_weight}
use Rattle.std.proofs.lemmas.List.Elements.{All-nil, All-cons, All-head, All-tail, All-set}

-- ---- one input for another

small-among : (front back : List InputView) (h : InputView) → All IsSmall (front ++ h ∷ back) → IsSmall h
small-among [] back h all = All-head IsSmall h back all
small-among (x ∷ xs) back h all = small-among xs back h (All-tail IsSmall x (xs ++ h ∷ back) all)

small-at : (cursors : List InputView) (i : ℕ) (h : InputView) → IsInput cursors i h → All IsSmall cursors → IsSmall h
small-at cursors i h a all = small-among a.front a.back h (subst (All IsSmall) a.splits all)

decided-small : (h : InputView) → IsSmall h → IsSmall (input_after_decided h)
decided-small h small = record { held = small.held; block = small.block; section = small.section }

pub mark_decided-small : (inputs inputs' : InputsView) (i : ℕ) → MarksDecided inputs i inputs' → All IsSmall inputs.cursors → All IsSmall inputs'.cursors
mark_decided-small inputs inputs' i s all =
    rw s.is (All-set IsSmall inputs.cursors i (input_after_decided s.cursor)
    (decided-small s.cursor (small-at inputs.cursors i s.cursor s.among all)) all)

steps-small : (old new : SourceView) (r : Result Bool Fault) → Steps old.phase old r new → length old.block ≤ old.room → old.room ≤ most_in_unit
    → (length new.block ≤ new.room) × (new.room ≤ most_in_unit)
steps-small old new r steps held small = by_phase old.phase steps
  where
    same : new ≡ old → (length new.block ≤ new.room) × (new.room ≤ most_in_unit)
    same is = rw is (held, small)

    by_phase : (p : Phase) → Steps p old r new → (length new.block ≤ new.room) × (new.room ≤ most_in_unit)
    by_phase Reading s = (s.block, s.held)
    by_phase Ended s = same s.1
    by_phase (Failed fault) s = same s.1

pub read_input-small : (inputs inputs' : InputsView) (i : ℕ) (r : Result Bool Fault) → ReadSteps inputs i r inputs' → All IsSmall inputs.cursors
    → All IsSmall inputs'.cursors
read_input-small inputs inputs' i r f all =
    let was = small-at inputs.cursors i f.cursor f.among all in
    let small = steps-small f.cursor.source f.source r f.steps was.held was.block in
    rw f.is (All-set IsSmall inputs.cursors i (input_after f.cursor r f.source)
    (record { held = small.0; block = small.1; section = f.upper_bound }) all)

-- ---- at first

pub small-first : (os : List FreshInput) → All IsSmall (map fresh_view os)
small-first [] = All-nil IsSmall
small-first (o ∷ os) = All-cons IsSmall (fresh_view o) (map fresh_view os) (record { held = omega arith; block = omega arith; section = tt }) (small-first os)

pub few-first : (w : Writing) (written : List ℕ) (failures room : ℕ) → HasFewOutputInterfaces (target_at w written failures room)
few-first (Writing.Capture format) written failures room = record { count = omega arith; names = All-nil _ }
few-first Writing.Text written failures room = tt
few-first (Writing.Lines options) written failures room = tt

-- ---- the weight

names-light : {X : Type 0} (f : X → List ℕ) (xs : List X) → All (λ x. length (f x) ≤ 255) xs → names_weight (map f xs) ≤ 274 * length xs
names-light f [] all = omega arith
names-light f (x ∷ xs) all =
    let one = All-head (λ x. length (f x) ≤ 255) x xs all in
    let others = names-light f xs (All-tail (λ x. length (f x) ≤ 255) x xs all) in
    omega (arith, one, others)

declared-light : (d : Declared) → SectionFits d → declared_weight d ≤ 274 * 256
declared-light Nothing upper_bound = omega arith
declared-light (PcapFile head) upper_bound = omega arith
declared-light (PcapngFile first section) upper_bound =
    let names = names-light (λ i. i.name) section.interfaces upper_bound.names in
    let count = upper_bound.count in
    omega (arith, names, count)

cursors-light : (cursors : List InputView) → All IsSmall cursors → inputs_weight cursors ≤ (most_in_unit + 256 * 280) * length cursors
cursors-light [] all = omega arith
cursors-light (h ∷ hs) all =
    let small = All-head IsSmall h hs all in
    let block = small.block in
    let names = declared-light h.source.declared small.section in
    let others = cursors-light hs (All-tail IsSmall h hs all) in
    omega (arith, block, names, others)

target-light : (t : Target) → HasFewOutputInterfaces t → target_weight t ≤ 274 * 4096
target-light (Capture sink) upper_bound =
    let names = names-light (λ i. i.name) sink.interfaces upper_bound.names in
    let count = upper_bound.count in
    omega (arith, names, count)
target-light (Text written failures room) upper_bound = omega arith
target-light (Lines options written failures room) upper_bound = omega arith

pub is-light : (m : JobState) → IsBounded m.inputs m.output → HasFewMarks m.policy m.state → IsLight m
is-light m bounded upper_bound =
    let cursors = cursors-light m.inputs.cursors bounded.0 in
    let target = target-light m.output bounded.1 in
    record { each = bounded; all = omega (arith, cursors, target, upper_bound) }

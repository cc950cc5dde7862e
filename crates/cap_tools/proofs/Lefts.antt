-- Each step decreases the bound of the remaining steps, and the bytes read account for it.
use Rattle.cap_tools.proofs.Common.{◌≡◌, ℕ, ◌+◌, ◌*◌, ◌^◌, ◌<◌, ◌≤◌, suc, Bool, true, false, List, [], ◌∷◌, ◌++◌, length, Result, Ok, Err, refl, sym, ◌∙◌, ap}
use Rattle.cap_tools.proofs.Common.{arith, length-append, slice_set, Fault, SourceView, Phase, Reading, Ended, Failed, Steps, end_offset, phase_after}
use Rattle.cap_tools.proofs.Common.{PacketOrder, InTurn, ByTime, InputView, InputsView, IsInput, MarksDecided, ReadSteps, input_after, input_after_decided}
use Rattle.cap_tools.proofs.Common.{steps_left_in, with_cursor, owed_by, steps_left, IsNext, IsNextIn, IsOpen, decided-waits, same-input, set-among, most_turns}
use Rattle.cap_tools.proofs.Common.{reads_of, IsPaid, steps_owed_in_all, owed_in, Option, None, Some, most_steps, HasFewTurns, OutputView, Preparing, JobView}
use Rattle.cap_tools.proofs.Common.{StepReads, reads_on, decides_one, leaves_one, reads_nothing, Next, IsCounted}
use Rattle.cap_inputs.specs.Inputs.{input_steps_left, is_packet_found, steps_owed}
use Rattle.std.specs.Prelude.{OnOk}

-- ---- one input for another

left-append : (xs ys : List InputView) → steps_left_in (xs ++ ys) ≡ steps_left_in xs + steps_left_in ys
left-append [] ys = omega arith
left-append (x ∷ xs) ys = let e = left-append xs ys in omega (arith, e)

owed-append : (xs ys : List InputView) → owed_in (xs ++ ys) ≡ owed_in xs + owed_in ys
owed-append [] ys = omega arith
owed-append (x ∷ xs) ys = let e = owed-append xs ys in omega (arith, e)

reads-append : (xs ys : List InputView) → reads_of (xs ++ ys) ≡ reads_of xs + reads_of ys
reads-append [] ys = omega arith
reads-append (x ∷ xs) ys = let e = reads-append xs ys in omega (arith, e)

-- what one input for another changes
record Exchanged (cursors cursors' : List InputView) (h h' : InputView) : Type 0 where
  left : steps_left_in cursors' + input_steps_left h ≡ steps_left_in cursors + input_steps_left h'
  reads : reads_of cursors' + end_offset h.source ≡ reads_of cursors + end_offset h'.source
  owes : owed_in cursors' + owed_by h ≡ owed_in cursors + owed_by h'
  count : length cursors' ≡ length cursors

exchanged : (cursors : List InputView) (i : ℕ) (h h' : InputView) → IsInput cursors i h → Exchanged cursors (slice_set cursors i h') h h'
exchanged cursors i h h' a =
    let set = set-among cursors i h h' a in
    let left : steps_left_in cursors ≡ steps_left_in a.front + (input_steps_left h + steps_left_in a.back) = ap steps_left_in a.splits
    ∙ left-append a.front (h ∷ a.back) in
    let left' : steps_left_in (slice_set cursors i h') ≡ steps_left_in a.front + (input_steps_left h' + steps_left_in a.back) = ap steps_left_in set
    ∙ left-append a.front (h' ∷ a.back) in
    let reads : reads_of cursors ≡ reads_of a.front + (end_offset h.source + reads_of a.back) = ap reads_of a.splits ∙ reads-append a.front (h ∷ a.back) in
    let reads' : reads_of (slice_set cursors i h') ≡ reads_of a.front + (end_offset h'.source + reads_of a.back) = ap reads_of set
    ∙ reads-append a.front (h' ∷ a.back) in
    let owes : owed_in cursors ≡ owed_in a.front + (owed_by h + owed_in a.back) = ap owed_in a.splits ∙ owed-append a.front (h ∷ a.back) in
    let owes' : owed_in (slice_set cursors i h') ≡ owed_in a.front + (owed_by h' + owed_in a.back) = ap owed_in set ∙ owed-append a.front (h' ∷ a.back) in
    let count : length cursors ≡ length a.front + suc (length a.back) = ap length a.splits ∙ length-append a.front (h ∷ a.back) in
    let count' : length (slice_set cursors i h') ≡ length a.front + suc (length a.back) = ap length set ∙ length-append a.front (h' ∷ a.back) in
    record { left = omega (arith, left, left'); reads = omega (arith, reads, reads'); owes = omega (arith, owes, owes'); count = count' ∙ sym count }

-- ---- what an input owes

-- an input that is to be read on
record Unready (h : InputView) : Type 0 where
  waits : h.waiting ≡ false
  on : IsOpen h

owes-one : (p : Phase) → (p ≡ Ended → ⊥) → steps_owed false p ≡ 1
owes-one Reading on = refl
owes-one Ended on = absurd (on refl)
owes-one (Failed fault) on = refl

unready-owes : (h : InputView) → Unready h → owed_by h ≡ 1
unready-owes h un = ap (λ (b : Bool). steps_owed b h.source.phase) un.waits ∙ owes-one h.source.phase un.on

to-read : (inputs : InputsView) (i : ℕ) (h : InputView) → IsNext inputs (Next.Read i) → IsInput inputs.cursors i h → Unready h
to-read inputs i h tells a = by_order inputs.order tells
  where
    same-as : (cursor : InputView) → IsInput inputs.cursors i cursor → cursor.waiting ≡ false → IsOpen cursor → Unready h
    same-as cursor among waits on =
        let same = same-input inputs.cursors i h cursor a among in
        record { waits = ap (λ (v : InputView). v.waiting) same ∙ waits; on = λ e. on (sym (ap (λ (v : InputView). v.source.phase) same) ∙ e) }

    by_order : (order : PacketOrder) → IsNextIn order inputs.cursors (Next.Read i) → Unready h
    by_order InTurn tells = same-as tells.cursor tells.among tells.waits tells.unended
    by_order ByTime tells = same-as tells.cursor tells.among tells.waits tells.unended

-- after its packet it owes at most one step
following-owes : (p : Phase) → steps_owed false p ≤ 1
following-owes Reading = omega arith
following-owes Ended = omega arith
following-owes (Failed fault) = omega arith

-- ---- a packet is decided

pub decided-on : (inputs inputs' : InputsView) (i : ℕ) → IsNext inputs (Next.Decide i) → MarksDecided inputs i inputs'
    → (steps_left inputs' < steps_left inputs) × IsPaid inputs inputs'
decided-on inputs inputs' i tells s =
    let cursors' : List InputView = slice_set inputs.cursors i (input_after_decided s.cursor) in
    let one = exchanged inputs.cursors i s.cursor (input_after_decided s.cursor) s.among in
    let left = one.left in
    let reads = one.reads in
    let owes = one.owes in
    let count = one.count in
    let two : owed_by s.cursor ≡ 2 = ap (λ (b : Bool). steps_owed b s.cursor.source.phase)
    (decided-waits inputs.order inputs.cursors i s.cursor s.among tells) in
    let most : owed_by (input_after_decided s.cursor) ≤ 1 = following-owes s.cursor.source.phase in
    let left' : steps_left inputs' ≡ steps_left_in cursors' = ap steps_left s.is in
    let owes' : steps_owed_in_all inputs' ≡ owed_in cursors' = ap steps_owed_in_all s.is in
    let turns' : most_turns inputs' ≡ 2 * reads_of cursors' + length cursors' + 1 = ap most_turns s.is in
    (omega (arith, left, two, most, left'), omega (arith, owes, reads, count, two, most, owes', turns'))

-- ---- an input is read on

-- of the bytes that a device gave none are lost, except those of a broken unit
record Gave (old new : SourceView) (r : Result Bool Fault) : Type 0 where
  given : old.given ≤ new.given
  more : r ≡ Ok true → (old.given < new.given) × (new.given < 2 ^ 63)
  counted : OnOk r (new.given + end_offset old ≡ old.given + end_offset new)

gave : (old new : SourceView) (r : Result Bool Fault) → Steps old.phase old r new → Gave old new r
gave old new r steps = by_phase old.phase steps
  where
    by_phase : (p : Phase) → Steps p old r new → Gave old new r
    by_phase Reading s = record { given = s.given; more = λ is. (s.progress is, s.bounded is); counted = s.counted }
    by_phase Ended s = rw (s.0, s.1) (record { given = omega arith; more = λ is. (cc); counted = refl })
    by_phase (Failed fault) s = rw (s.0, s.1) (record { given = omega arith; more = λ is. (cc); counted = tt })

abbrev pub Goes : Result Bool Fault → Type 0
Goes (Ok b) = Unit {0}
Goes (Err fault) = ⊥

-- reading on never increases the bound of the remaining steps; without a fault it decreases it, and
-- the bytes read account for the step
pub record ReadOn (inputs inputs' : InputsView) (r : Result Bool Fault) : Type 0 where
  pub kept : steps_left inputs' ≤ steps_left inputs
  pub less : Goes r → steps_left inputs' < steps_left inputs
  pub paid : Goes r → IsPaid inputs inputs'

pub read-on : (inputs inputs' : InputsView) (i : ℕ) (r : Result Bool Fault) → IsNext inputs (Next.Read i) → ReadSteps inputs i r inputs'
    → ReadOn inputs inputs' r
read-on inputs inputs' i r tells f =
    by_result r (gave f.cursor.source f.source r f.steps) (exchanged inputs.cursors i f.cursor (input_after f.cursor r f.source) f.among)
    (ap (steps_owed (is_packet_found r)) f.phase) (ap steps_left f.is) (ap steps_owed_in_all f.is) (ap most_turns f.is)
  where
    one : owed_by f.cursor ≡ 1
    one = unready-owes f.cursor (to-read inputs i f.cursor tells f.among)

    after : Result Bool Fault → InputsView
    after r = with_cursor inputs i (input_after f.cursor r f.source)

    by_result : (r : Result Bool Fault) → Gave f.cursor.source f.source r → Exchanged inputs.cursors
        (slice_set inputs.cursors i (input_after f.cursor r f.source)) f.cursor (input_after f.cursor r f.source)
        → owed_by (input_after f.cursor r f.source) ≡ steps_owed (is_packet_found r) (phase_after r)
        → steps_left inputs' ≡ steps_left (after r) → steps_owed_in_all inputs' ≡ steps_owed_in_all (after r) → most_turns inputs' ≡ most_turns
        (after r) → ReadOn inputs inputs' r
    by_result (Ok true) g ex new left owed turns =
        let more = g.more refl in
        let given = more.0 in
        let bounded = more.1 in
        let counted = g.counted in
        let rest = ex.left in
        let reads = ex.reads in
        let owes = ex.owes in
        let count = ex.count in
        let less : steps_left inputs' < steps_left inputs = omega (arith, given, bounded, rest, new, one, left) in
        record { kept = omega (arith, less); less = λ goes. less; paid = λ goes. omega (arith, given, counted, reads, owes, count, new, one, owed, turns) }
    by_result (Ok false) g ex new left owed turns =
        let given = g.given in
        let counted = g.counted in
        let rest = ex.left in
        let reads = ex.reads in
        let owes = ex.owes in
        let count = ex.count in
        let less : steps_left inputs' < steps_left inputs = omega (arith, given, rest, new, one, left) in
        record { kept = omega (arith, less); less = λ goes. less; paid = λ goes. omega (arith, given, counted, reads, owes, count, new, one, owed, turns) }
    by_result (Err fault) g ex new left owed turns =
        let given = g.given in
        let rest = ex.left in
        record { kept = omega (arith, given, rest, new, one, left); less = λ goes. absurd goes; paid = λ goes. absurd goes }

pub counted-kept : (done : Option ℕ) (turns left left' : ℕ) → left' ≤ left → IsCounted done turns left → IsCounted done turns left'
counted-kept None turns left left' less is = omega (arith, less, is)
counted-kept (Some status) turns left left' less is = is

pub counted-turns : (done : Option ℕ) (turns left : ℕ) → IsCounted done turns left → turns ≤ most_steps + 1
counted-turns None turns left is = omega (arith, is)
counted-turns (Some status) turns left is = is.0

pub few-kept : (done : Option ℕ) (turns : ℕ) (inputs inputs' : InputsView) → IsPaid inputs inputs' → HasFewTurns done turns inputs
    → HasFewTurns done turns inputs'
few-kept None turns inputs inputs' paid upper_bound = omega (arith, paid, upper_bound)
few-kept (Some status) turns inputs inputs' paid upper_bound = tt

-- a step reads what it read, whatever becomes of its messages and of the count of steps
pub reads-kept : (tells goes : Bool) (old mid : JobView) (p : Option Preparing) (err : OutputView) (turns : ℕ) (ended : Option ℕ) → StepReads tells goes old mid
    → StepReads tells goes old (record { preparing = p; state = mid.state; programs = mid.programs; err = err; turns = turns; done = ended })
reads-kept tells goes old mid p err turns ended (reads_on i answer on reads) =
    reads_on i answer on (record {
      next = reads.next;
      fetches = reads.fetches;
      exact = reads.exact;
      decided = reads.decided;
      output = reads.output;
      programs = reads.programs;
    })
reads-kept tells goes old mid p err turns ended (decides_one i one settles more) =
    decides_one i (record {
      next = one.next;
      cursor = one.cursor;
      among = one.among;
      packet = one.packet;
      held = one.held;
      programs = one.programs;
      cost = one.cost;
    }) settles more
reads-kept tells goes old mid p err turns ended (leaves_one i ends one inputs same) =
    leaves_one i ends (record {
      next = one.next;
      cursor = one.cursor;
      among = one.among;
      packet = one.packet;
      held = one.held;
      programs =
          one.programs;
      cost = one.cost;
    }) inputs same
reads-kept tells goes old mid p err turns ended (reads_nothing ends none) =
    reads_nothing ends (record { inputs = none.inputs; decided = none.decided; programs = none.programs })

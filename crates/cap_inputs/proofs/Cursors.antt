-- Lemmas on one input among others: how it is found, and how it alone changes.
use Rattle.std.proofs.Common.{◌≡◌, ℕ, zero, suc, ◌+◌, ◌<◌, List, [], ◌∷◌, ◌++◌, length, max, Some, refl, sym, ◌∙◌, ap, subst, arith, get_or, Bool, true, false}
use Rattle.std.proofs.Common.{Result, Ok, map}
use Rattle.std.specs.List.{slice_set, slice_get, AllByRecursion}
use Rattle.cap_inputs.proofs.Common.{Fault, PacketOrder, Schedule, Turn, Merge, ordering_of, InputView, InTurn, ByTime, order_of, fresh_view, fresh_inputs}
use Rattle.cap_io.specs.Source.{Advances, SectionFits, TakesIfAtHand, SkipsUnits, Phase, Reading, SourceView, Steps, end_offset, phase_after}
use Rattle.cap_inputs.specs.inside.Cursor.{schedule_after, schedule_after_decided, first_schedule}
use Rattle.cap_inputs.specs.Inputs.{device_limits, limits_of, InputsView, InputPast, AreInputsAfter, KnowGreatest, IsInput, ReadsInput, ReadSteps, greatest_of}
use Rattle.cap_inputs.specs.Inputs.{input_after, input_after_decided}
use Rattle.cap_octet.specs.{Views.FreshInput, Packet.Captured}
use Rattle.std.proofs.lemmas.{List.append-nil, List.length-append, Option.slice_get_read}
use Rattle.cap_io.specs.{Capture.Placed, Position.given_in_all}

-- ---- each of some

pub weaker : {X : Type 0} (P Q : X → Type 0) → ((x : X) → P x → Q x) → (xs : List X) → AllByRecursion P xs → AllByRecursion Q xs
weaker P Q each [] all = tt
weaker P Q each (x ∷ xs) all = (each x all.0, weaker P Q each xs all.1)

-- ---- one input

-- an input before others
pub later-input : (x : InputView) (xs : List InputView) (i : ℕ) (h : InputView) → IsInput xs i h → IsInput (x ∷ xs) (suc i) h
later-input x xs i h a = record { front = x ∷ a.front; back = a.back; place = ap suc a.place; splits = ap (λ l. x ∷ l) a.splits }

pub input-at : (cursors : List InputView) (i : ℕ) (h : InputView) → slice_get cursors i ≡ Some h → IsInput cursors i h
input-at [] i h is = (cc)
input-at (x ∷ xs) zero h is = let same : x ≡ h = cc in record { front = []; back = xs; place = refl; splits = ap (λ y. y ∷ xs) same }
input-at (x ∷ xs) (suc i) h is = later-input x xs i h (input-at xs i h is)

pub get-among : (cursors : List InputView) (i : ℕ) (h : InputView) → i < length cursors → h ≡ get_or cursors i h → IsInput cursors i h
get-among cursors i h within is = grind (arith, input-at, slice_get_read)

pub get-here : (xs ys : List InputView) (h : InputView) → slice_get (xs ++ h ∷ ys) (length xs) ≡ Some h
get-here [] ys h = refl
get-here (x ∷ xs) ys h = get-here xs ys h

pub get-input : (cursors : List InputView) (i : ℕ) (h : InputView) → IsInput cursors i h → slice_get cursors i ≡ Some h
get-input cursors i h a = rw (a.splits, ← a.place) (get-here a.front a.back h)

pub same-input : (cursors : List InputView) (i : ℕ) (h h' : InputView) → IsInput cursors i h → IsInput cursors i h' → h ≡ h'
same-input cursors i h h' a b = let both = sym (get-input cursors i h a) ∙ get-input cursors i h' b in cc

pub set-here : (front back : List InputView) (h w : InputView) (i : ℕ) → length front ≡ i → slice_set (front ++ h ∷ back) i w ≡ front ++ w ∷ back
set-here [] back h w i place = rw (← place) refl
set-here (x ∷ xs) back h w i place = rw (← place) (ap (λ l. x ∷ l) (set-here xs back h w _ refl))

pub set-among : (cursors : List InputView) (i : ℕ) (h h' : InputView) (a : IsInput cursors i h) → slice_set cursors i h' ≡ a.front ++ h' ∷ a.back
set-among cursors i h h' a = grind (arith, set-here)

-- the order of the packets stays
pub schedule-order : (schedule : Schedule) (i : ℕ) (r : Result Bool Fault) → ordering_of (schedule_after schedule i r) ≡ ordering_of schedule
schedule-order (Turn turn) i (Ok true) = refl
schedule-order (Merge next last) i (Ok found) = refl
schedule-order _ i _ = refl

pub following-order : (schedule : Schedule) (i : ℕ) → ordering_of (schedule_after_decided schedule i) ≡ ordering_of schedule
following-order (Turn turn) i = refl
following-order (Merge next last) i = refl

-- what is known if the next packet was at hand
pub taken-of : (tells r : Bool) (old new : SourceView) → r ≡ true → TakesIfAtHand tells old r new → TakesIfAtHand tells old true new
taken-of tells r old new is takes = subst (λ b. TakesIfAtHand tells old b new) is takes

pub fetches-by : (inputs : InputsView) (i : ℕ) (r : Result Bool Fault) (old new : InputView) (order : PacketOrder) → order ≡ inputs.order
    → i < length inputs.cursors → old ≡ get_or inputs.cursors i old
    → Advances old.source.phase old.source r new.source → Steps old.source.phase old.source r new.source → new ≡ input_after old r new.source
    → ReadsInput inputs i r (record { order = order; cursors = slice_set inputs.cursors i new })
fetches-by inputs i r old new order same within value advances steps is = grind (arith, get-among)

pub read_input-steps-by : (inputs : InputsView) (i : ℕ) (r : Result Bool Fault) (old new : InputView) (order : PacketOrder) → order ≡ inputs.order
    → i < length inputs.cursors → old ≡ get_or inputs.cursors i old
    → Steps old.source.phase old.source r new.source → new.source.phase ≡ phase_after r → SectionFits new.source.declared → new ≡ input_after old r new.source
    → ReadSteps inputs i r (record { order = order; cursors = slice_set inputs.cursors i new })
read_input-steps-by inputs i r old new order same within value steps phase upper_bound is = grind (arith, get-among)

-- ---- what no step changes of a device

pub limits-at : (xs ys : List InputView) (h h' : InputView) → limits_of h'.source ≡ limits_of h.source → device_limits (xs ++ h' ∷ ys) ≡ device_limits
    (xs ++ h ∷ ys)
limits-at [] ys h h' same = ap (λ b. b ∷ device_limits ys) same
limits-at (x ∷ xs) ys h h' same = ap (λ l. limits_of x.source ∷ l) (limits-at xs ys h h' same)

same-limits : (old new : SourceView) → new.sure ≡ old.sure → given_in_all new ≡ given_in_all old → limits_of new ≡ limits_of old
same-limits old new sure in_all = cc

-- the bytes that were skipped, and those of the current unit, are given
skipped-in_all : (old new : SourceView) (rest : List ℕ) → (passes : SkipsUnits old new rest) → length rest ≡ length new.block + length new.unread
    → new.given + end_offset old ≡ old.given + end_offset new
    → given_in_all new ≡ given_in_all old
skipped-in_all old new rest passes left counted = grind (arith, length-append)

limits-by : (p : Phase) (old new : SourceView) (found : Bool) → Steps p old (Ok found) new → Advances p old (Ok found) new → limits_of new ≡ limits_of old
limits-by Reading old new true steps finds = grind (arith, same-limits, skipped-in_all, length-append)
limits-by Reading old new false steps finds =
    let none : length new.block ≡ 0 = cc in
    let over : length new.unread ≡ 0 = cc in
    same-limits old new steps.sure (skipped-in_all old new [] finds.passes (omega (arith, none)) steps.counted)
limits-by _ old new found steps advances = ap limits_of steps.1

pub limits-kept : (old new : SourceView) (found : Bool) → Steps old.phase old (Ok found) new → Advances old.phase old (Ok found) new
    → limits_of new ≡ limits_of old
limits-kept old new found steps advances = limits-by _ old new found steps advances

-- ---- the greatest time

greatest-more : (ps : List Placed) (x : Placed) → greatest_of (ps ++ x ∷ []) ≡ max (greatest_of ps) x.packet.time
greatest-more [] x = omega arith
greatest-more (p ∷ ps) x = omega (arith, greatest-more ps x)

-- one more packet is done
pub greatest-decided : (h : InputView) (p : Captured) (offset : ℕ) (ps : List Placed) → h.source.packet ≡ Some p → h.greatest ≡ greatest_of ps
    → (input_after_decided h).greatest ≡ greatest_of (ps ++ record { offset = offset; packet = p } ∷ [])
greatest-decided h p offset ps held knows = grind (arith, greatest-more)

-- no packet more is done
pub greatest-same : (g : ℕ) (ps : List Placed) → g ≡ greatest_of ps → g ≡ greatest_of (ps ++ [])
greatest-same g ps knows = knows ∙ ap greatest_of (sym (append-nil ps))

pub greatest-here : (us vs : List InputPast) (s s' : InputPast) (xs ys : List InputView) (h h' : InputView) → AreInputsAfter us xs
    → KnowGreatest (us ++ s ∷ vs) (xs ++ h ∷ ys)
    → (h.greatest ≡ greatest_of s.packets → h'.greatest ≡ greatest_of s'.packets) → KnowGreatest (us ++ s' ∷ vs) (xs ++ h' ∷ ys)
greatest-here [] vs s s' [] ys h h' following knows goes = (goes knows.0, knows.1)
greatest-here [] vs s s' (x ∷ xs) ys h h' following knows goes = absurd following
greatest-here (u ∷ us) vs s s' [] ys h h' following knows goes = absurd following
greatest-here (u ∷ us) vs s s' (x ∷ xs) ys h h' following knows goes = (knows.0, greatest-here us vs s s' xs ys h h' following.1 knows.1 goes)

-- ---- inputs as they are handed over

map-map : {X : Type 0} (f : X → FreshInput) (xs : List X) → map (λ x. fresh_view (f x)) xs ≡ map fresh_view (map f xs)
map-map f [] = refl
map-map f (x ∷ xs) = ap (λ l. fresh_view (f x) ∷ l) (map-map f xs)

pub first-ordering : (order : PacketOrder) (count : ℕ) → ordering_of (first_schedule order count) ≡ order
first-ordering InTurn count = refl
first-ordering ByTime count = refl

-- the inputs as they are handed over
pub first-inputs : {X : Type 0} (f : X → FreshInput) (xs : List X) (cursors : List InputView) (schedule : Schedule) (merges : Bool)
    → cursors ≡ map (λ x. fresh_view (f x)) xs → schedule ≡ first_schedule (order_of merges) (length cursors)
    → record { order = ordering_of schedule; cursors = cursors } ≡ fresh_inputs (order_of merges) (map f xs)
first-inputs f xs cursors schedule merges is at = grind (arith, first-ordering, map-map)

-- The items that remain after a position, for inputs in turn and for a merge.
use Rattle.cap_tools.proofs.Coming.{from_turn, left-decided, turn-closes, turn-broken, hand_is, At, Fit, fits-join, rests-join, rests-length}
use Rattle.cap_tools.proofs.Common.{append-nil, ◌≡◌, inl, inr, ℕ, zero, suc, ◌+◌, ◌≤◌, Bool, true, false, cond, not, max, List, [], ◌∷◌, ◌++◌, length, drop}
use Rattle.cap_tools.proofs.Common.{Option, None, Some, refl, sym, ◌∙◌, ap, arith, subst, Captured, Fault, Kind, Declared, Items, no_items, kind_of, IsAt}
use Rattle.cap_tools.proofs.Common.{Phase, Ended, InputItems, Event, Packet, InputEnd, SequenceEnd, Complete, FaultIn, PacketOrder, InTurn, ByTime, with_front}
use Rattle.cap_tools.proofs.Common.{sequence_in_turn, sequence_by_time, Policy, Form, JobProgress, apply_events, end_input, unless_ended, InputView, InputPast}
use Rattle.cap_tools.proofs.Common.{Future, AreFutures, AreInputsAfter, IsInput, ended_count, input_after_decided, is_open, items_left, inputs_left, key_of}
use Rattle.cap_tools.proofs.Common.{sequence_left, packet_time, AllEnded, IsNextIn, IsOpen, count-open, count-all, Placed, after_packets, waiting_packets}
use Rattle.cap_tools.proofs.Common.{no_future, Next}
use Rattle.cap_io.specs.Sequence.{fault_without_packets, sequence_of_entries, sort_entries, all_entries, unless_fault, first_end}
use Rattle.cap_inputs.specs.inside.Inputs.{AllReady, IsReady, KeysFrom, NoneEnded, NoneWaits}
use Rattle.cap_inputs.proofs.Order.{merged-broken, IsFrom, end_at, AllFrom, merged-next}

-- a packet waits, whose greatest time so far is at least the key; or the input is at its clean end
pub data InputFrom (k : ℕ) (h : InputView) : Type 0 where
  waits_from : (p : Captured) → h.waiting ≡ true → h.source.packet ≡ Some p → k ≤ max h.greatest p.time → InputFrom k h
  ended_from : h.waiting ≡ false → h.source.phase ≡ Ended → InputFrom k h

abbrev pub InputsFrom : ℕ → List InputView → Type 0
InputsFrom k [] = Unit {0}
InputsFrom k (h ∷ hs) = InputFrom k h × InputsFrom k hs

abbrev first_is : InputView → Captured → Placed
first_is h p = record { offset = h.source.offset; packet = p }

pub waiting-rest : (h : InputView) (p : Captured) (f : Future) → h.waiting ≡ true → h.source.packet ≡ Some p → (items_left h f).items ≡ after_packets
    (first_is h p ∷ []) f.items
waiting-rest h p f waits held = ap (λ (l : List Placed). after_packets l f.items) (ap (λ b. waiting_packets b h.source) waits ∙ hand_is h.source p held)

pub ended-rest : (h : InputView) (f : Future) → h.waiting ≡ false → h.source.phase ≡ Ended → Fit h f → (items_left h f).items ≡ (no_future h.source).items
ended-rest h f waits e fit = ap (λ b. after_packets (waiting_packets b h.source) f.items) waits ∙ ap (λ (g : Future). g.items) (fit e)

from-one : (k : ℕ) (h : InputView) (f : Future) → InputFrom k h → Fit h f → IsFrom k h.greatest (items_left h f).items.packets
from-one k h f (waits_from p waits held less) fit = let P : Items → Type 0 = λ i. IsFrom k h.greatest i.packets in
    subst P (sym (waiting-rest h p f waits held)) less
from-one k h f (ended_from waits e) fit = let P : Items → Type 0 = λ i. IsFrom k h.greatest i.packets in subst P (sym (ended-rest h f waits e fit)) tt

whole-one : (k n : ℕ) (h : InputView) (f : Future) → InputFrom k h → Fit h f → end_at n (items_left h f) ≡ Complete
whole-one k n h f (waits_from p waits held less) fit = ap (λ (i : Items). end_at n (record { greatest = h.greatest; items = i; size = f.size }))
    (waiting-rest h p f waits held)
whole-one k n h f (ended_from waits e) fit = ap (λ (i : Items). end_at n (record { greatest = h.greatest; items = i; size = f.size }))
    (ended-rest h f waits e fit)

pub all-from : (k : ℕ) (hs : List InputView) (fs : List Future) → InputsFrom k hs → AreFutures hs fs → AllFrom k (inputs_left hs fs)
all-from k [] [] from fits = tt
all-from k [] (f ∷ fs) from fits = absurd fits
all-from k (h ∷ hs) [] from fits = absurd fits
all-from k (h ∷ hs) (f ∷ fs) from fits = (from-one k h f from.0 fits.0, all-from k hs fs from.1 fits.1)

-- where no input has to be read none ends by a fault, whatever comes
pub none-broken : (k n : ℕ) (hs : List InputView) (fs : List Future) → InputsFrom k hs → AreFutures hs fs → fault_without_packets n
    (inputs_left hs fs) ≡ Complete
none-broken k n [] [] from fits = refl
none-broken k n [] (f ∷ fs) from fits = absurd fits
none-broken k n (h ∷ hs) [] from fits = absurd fits
none-broken k n (h ∷ hs) (f ∷ fs) from fits = ap (λ (c : SequenceEnd). first_end c (fault_without_packets (n + 1) (inputs_left hs fs)))
    (whole-one k n h f from.0 fits.0) ∙ none-broken k (n + 1) hs fs from.1 fits.1

-- the input with the least key, the lowest input of those, is decided: whatever comes, its packet
-- is next
pub merge-decides : (xs ys : List InputView) (h : InputView) (p : Captured) (fs gs : List Future) (f : Future) → h.waiting ≡ true → h.source.packet ≡ Some p
    → InputsFrom (max h.greatest p.time + 1) xs → InputsFrom (max h.greatest p.time) ys → AreFutures xs fs → AreFutures ys gs
    → fault_without_packets 0 (inputs_left xs fs ++ items_left h f ∷ inputs_left ys gs) ≡ Complete
    → sequence_by_time (inputs_left xs fs ++ items_left h f ∷ inputs_left ys gs) ≡ with_front
    (Packet (length (inputs_left xs fs)) (first_is h p) ∷ [])
    (sequence_by_time (inputs_left xs fs ++ items_left (input_after_decided h) f ∷ inputs_left ys gs))
merge-decides xs ys h p fs gs f waits held over from fits_x fits_y whole =
    let is = waiting-rest h p f waits held in
    let key : max h.greatest p.time ≡ (input_after_decided h).greatest = rw held refl in
    merged-next (inputs_left xs fs) (inputs_left ys gs) h.greatest (first_is h p) (items_left h f).items f.items.packets f.size
    (ap (λ (i : Items). i.packets) is) whole
    (all-from (max h.greatest p.time + 1) xs fs over fits_x) (all-from (max h.greatest p.time) ys gs from fits_y)
    ∙ ap (λ (i : Items). with_front (Packet (length (inputs_left xs fs)) (first_is h p) ∷ [])
    (sequence_by_time (inputs_left xs fs
    ++ record {
      greatest = max h.greatest p.time;
      items = record { packets = f.items.packets; declared = i.declared; ending = i.ending };
      size =
          f.size;
    } ∷ inputs_left ys gs))) is
    ∙ ap (λ n. with_front (Packet (length (inputs_left xs fs)) (first_is h p) ∷ [])
    (sequence_by_time (inputs_left xs fs ++ record { greatest = n; items = f.items; size = f.size } ∷ inputs_left ys gs))) key

-- ---- which inputs are ready

-- an input that is ready, by its done part
ready-one : (s : InputPast) (h : InputView) → At s h → IsReady h → InputFrom 0 h
ready-one s h at ready = by_waiting h.waiting refl ready
  where
    by_waiting : (b : Bool) → h.waiting ≡ b → IsReady h → InputFrom 0 h
    by_waiting true is ready =
        let W : Bool → Type 0 = λ b. IsAt s.text s.done s.packets b h.source in
        let has = (subst W is at).waits refl in
        waits_from has.packet is has.held (omega arith)
    by_waiting false is ready = elim ready [ inl w ↦ absurd (cc (w, is)) | inr e ↦ ended_from is e ]

ready-front : (ss : List InputPast) (xs zs : List InputView) → AreInputsAfter ss (xs ++ zs) → AllReady xs → InputsFrom 0 xs
ready-front ss [] zs following ready = tt
ready-front [] (x ∷ xs) zs following ready = absurd following
ready-front (s ∷ ss) (x ∷ xs) zs following ready = (ready-one s x following.0 ready.0, ready-front ss xs zs following.1 ready.1)

all-ready : (ss : List InputPast) (hs : List InputView) → AreInputsAfter ss hs → AllReady hs → InputsFrom 0 hs
all-ready ss hs following ready = ready-front ss hs [] (subst (AreInputsAfter ss) (sym (append-nil hs)) following) ready

-- ---- how many inputs are at their ends

count-none : (ys : List InputView) → NoneEnded ys → ended_count ys ≡ 0
count-none [] none = refl
count-none (y ∷ ys) none = count-open [] ys y tt none.0

count-ended : (xs ys : List InputView) (h : InputView) → AllEnded xs → h.source.phase ≡ Ended → NoneEnded ys → ended_count (xs ++ h ∷ ys) ≡ length xs + 1
count-ended [] ys h ended is none =
    let zero_more = count-none ys none in
    let one : 1 + ended_count ys ≡ 0 + 1 = omega (arith, zero_more) in
    ap (λ (p : Phase). cond (not (is_open p)) (1 + ended_count ys) 0) is ∙ one
count-ended (x ∷ xs) ys h ended is none =
    let more = count-ended xs ys h ended.1 is none in
    let one : 1 + ended_count (xs ++ h ∷ ys) ≡ suc (length xs) + 1 = omega (arith, more) in
    ap (λ (p : Phase). cond (not (is_open p)) (1 + ended_count (xs ++ h ∷ ys)) 0) ended.0 ∙ one

from-of : (k : ℕ) (hs : List InputView) → KeysFrom k hs → InputsFrom 0 hs → InputsFrom k hs
from-of k [] from ready = tt
from-of k (h ∷ hs) from ready = (one from.0 ready.0, from-of k hs from.1 ready.1)
  where
    one : (h.waiting ≡ true → k ≤ key_of h) → InputFrom 0 h → InputFrom k h
    one keys (waits_from p w held l) = waits_from p w held (rw held at (keys w))
    one keys (ended_from w e) = ended_from w e

pub record ReadyAt (xs ys : List InputView) : Type 0 where
  pub before : InputsFrom 0 xs
  pub following : InputsFrom 0 ys

ready-split : (xs ys : List InputView) (h : InputView) → InputsFrom 0 (xs ++ h ∷ ys) → ReadyAt xs ys
ready-split [] ys h ready = record { before = tt; following = ready.1 }
ready-split (x ∷ xs) ys h ready = let more = ready-split xs ys h ready.1 in record { before = (ready.0, more.before); following = more.following }

-- ---- an input is read on

-- what closing an input is to the progress
abbrev pub closed_in : PacketOrder → Policy → JobProgress → ℕ → Option Kind → ℕ → JobProgress
closed_in InTurn policy w i kind size = end_input policy w i kind size
closed_in ByTime policy w i kind size = w

-- what is known of the input that is read on
pub record ReadLaws (order : PacketOrder) (i : ℕ) (xs ys : List InputView) (h : InputView) : Type 0 where
  pub here : length xs ≡ i
  pub waits : h.waiting ≡ false
  pub found_left : (h' : InputView) → IsOpen h' → (rs : List InputItems) → sequence_left order (xs ++ h ∷ ys) rs ≡ sequence_left order (xs ++ h' ∷ ys) rs
  pub closed_events : Option Kind → ℕ → List Event
  pub closed_one : order ≡ InTurn → (kind : Option Kind) (size : ℕ) → closed_events kind size ≡ InputEnd i kind size ∷ []
  pub closed_left : (h' : InputView) → h'.source.phase ≡ Ended → (declared : Declared) (g size : ℕ) (fs gs : List Future) → AreFutures xs fs → AreFutures ys gs
      → sequence_left order (xs ++ h ∷ ys) (inputs_left xs fs ++ record { greatest = g; items = no_items declared None 0; size = size } ∷ inputs_left ys gs)
      ≡ with_front (closed_events (kind_of declared) size)
      (sequence_left order (xs ++ h' ∷ ys) (inputs_left xs fs ++ record { greatest = g; items = no_items declared None 0; size = size } ∷
      inputs_left ys gs))
  pub closed_way : (policy : Policy) (form : Form) (w : JobProgress) (kind : Option Kind) (size : ℕ) → w.end ≡ None → apply_events policy form w
      (closed_events kind size) ≡ closed_in order policy w i kind size
  pub broken_left : (declared : Declared) (fault : Fault) (offset g size : ℕ) (fs gs : List Future) → AreFutures xs fs → AreFutures ys gs
      → sequence_left order (xs ++ h ∷ ys) (inputs_left xs fs ++ record { greatest = g; items = no_items declared (Some fault) offset; size = size } ∷
      inputs_left ys gs) ≡ record { events = []; end = FaultIn i fault offset }

turn-reads : (i : ℕ) (xs ys : List InputView) (h : InputView) → length xs ≡ i → h.waiting ≡ false → IsOpen h → AllEnded xs → NoneEnded ys
    → ReadLaws InTurn i xs ys h
turn-reads i xs ys h here waits on ended none = record {
  here = here;
  waits = waits;
  found_left = λ h' on' rs. at rs ∙ sym (ap (λ n. from_turn n rs) (count-open xs ys h' ended on' ∙ here));
  closed_events = λ kind size. InputEnd i kind size ∷ [];
  closed_one = λ is kind size. refl;
  closed_left = λ h' e declared g size fs gs before with_back.
      let rs : List InputItems = inputs_left xs fs ++ record { greatest = g; items = no_items declared None 0; size = size } ∷ inputs_left ys gs in
      at rs
      ∙ turn-closes i g g declared size (record { greatest = g; items = no_items declared None 0; size = size }) (inputs_left xs fs)
      (inputs_left ys gs) (rests-length xs fs before ∙ here)
      ∙ ap (λ n. with_front (InputEnd i (kind_of declared) size ∷ []) (from_turn n rs)) (ap (λ n. n + 1) (sym here) ∙ sym (count-ended xs ys h' ended e none));
  closed_way = λ policy form w kind size on. ap (λ (o : Option SequenceEnd). unless_ended o w (end_input policy w i kind size)) on;
  broken_left = λ declared fault offset g size fs gs before with_back.
      at (inputs_left xs fs ++ record { greatest = g; items = no_items declared (Some fault) offset; size = size } ∷ inputs_left ys gs)
      ∙ turn-broken i g declared fault offset size (inputs_left xs fs) (inputs_left ys gs) (rests-length xs fs before ∙ here);
}
  where
    at : (rs : List InputItems) → sequence_left InTurn (xs ++ h ∷ ys) rs ≡ from_turn i rs
    at rs = ap (λ n. from_turn n rs) (count-open xs ys h ended on ∙ here)

merge-breaks : (i : ℕ) (xs ys : List InputView) (declared : Declared) (fault : Fault) (offset g size : ℕ) (fs gs : List Future) → length xs ≡ i
    → InputsFrom 0 xs → AreFutures xs fs
    → sequence_by_time (inputs_left xs fs ++ record { greatest = g; items = no_items declared (Some fault) offset; size = size } ∷ inputs_left ys
    gs) ≡ record { events = []; end = FaultIn i fault offset }
merge-breaks i xs ys declared fault offset g size fs gs here ready before =
    merged-broken (inputs_left xs fs) (inputs_left ys gs) (record { greatest = g; items = no_items declared (Some fault) offset; size = size }) fault
    offset (none-broken 0 0 xs fs ready before) refl
    ∙ ap (λ n. record { events = []; end = FaultIn n fault offset }) (rests-length xs fs before ∙ here)

merge-reads : (i : ℕ) (xs ys : List InputView) (h : InputView) → length xs ≡ i → h.waiting ≡ false → InputsFrom 0 xs → ReadLaws ByTime i xs ys h
merge-reads i xs ys h here waits ready = record {
  here = here;
  waits = waits;
  found_left = λ h' on rs. refl;
  closed_events = λ kind size. [];
  closed_one = λ is. (cc);
  closed_left = λ h' e declared g size fs gs before with_back. refl;
  closed_way = λ policy form w kind size on. refl;
  broken_left = λ declared fault offset g size fs gs before with_back. merge-breaks i xs ys declared fault offset g size fs gs here ready before;
}

pub record ReadAt (order : PacketOrder) (cursors : List InputView) (i : ℕ) : Type 0 where
  pub cursor : InputView
  pub among : IsInput cursors i cursor
  pub laws : ReadLaws order i among.front among.back cursor

pub read-at : (order : PacketOrder) (ss : List InputPast) (cursors : List InputView) (i : ℕ) → IsNextIn order cursors (Next.Read i)
    → AreInputsAfter ss cursors → ReadAt order cursors i
read-at InTurn ss cursors i tells following =
    let a = tells.among in
    record { cursor = tells.cursor; among = a; laws = turn-reads i a.front a.back tells.cursor a.place tells.waits tells.unended tells.front tells.back }
read-at ByTime ss cursors i tells following =
    let a = tells.among in
    record {
      cursor = tells.cursor;
      among = a;
      laws = merge-reads i a.front a.back tells.cursor a.place tells.waits
          (ready-front ss a.front (tells.cursor ∷ a.back) (rw a.splits at following) tells.front);
    }

-- ---- the current packet is decided

pub record DecideLaws (order : PacketOrder) (i : ℕ) (xs ys : List InputView) (h : InputView) : Type 0 where
  pub here : length xs ≡ i
  pub waits : h.waiting ≡ true
  pub decided_left : (p : Captured) → h.source.packet ≡ Some p → (f : Future) → Fit h f → (fs gs : List Future) → AreFutures xs fs → AreFutures ys gs
      → sequence_left order (xs ++ h ∷ ys) (inputs_left xs fs ++ items_left h f ∷ inputs_left ys gs) ≡ with_front
      (Packet i (record { offset = h.source.offset; packet = p }) ∷ [])
      (sequence_left order (xs ++ input_after_decided h ∷ ys) (inputs_left xs fs ++ items_left (input_after_decided h) f ∷ inputs_left ys gs))

turn-decides : (i : ℕ) (xs ys : List InputView) (h : InputView) → length xs ≡ i → h.waiting ≡ true → IsOpen h → AllEnded xs → DecideLaws InTurn i xs ys h
turn-decides i xs ys h here waits on ended = record {
  here = here;
  waits = waits;
  decided_left = λ p held f fit fs gs before with_back.
      let rs : List InputItems = inputs_left xs fs ++ items_left h f ∷ inputs_left ys gs in
      let rs' : List InputItems = inputs_left xs fs ++ items_left (input_after_decided h) f ∷ inputs_left ys gs in
      ap (λ n. from_turn n rs) (count-open xs ys h ended on ∙ here)
      ∙ left-decided h i p waits held f (inputs_left xs fs) (inputs_left ys gs) (rests-length xs fs before ∙ here)
      ∙ ap (λ n. with_front (Packet i (record { offset = h.source.offset; packet = p }) ∷ []) (from_turn n rs'))
      (sym (count-open xs ys (input_after_decided h) ended on ∙ here));
}

merge-left : (i : ℕ) (xs ys : List InputView) (h : InputView) → length xs ≡ i → h.waiting ≡ true → InputsFrom 0 (xs ++ h ∷ ys)
    → KeysFrom (key_of h + 1) xs → KeysFrom (key_of h) ys
    → (p : Captured) → h.source.packet ≡ Some p → (f : Future) → Fit h f → (fs gs : List Future) → AreFutures xs fs → AreFutures ys gs
    → sequence_by_time (inputs_left xs fs ++ items_left h f ∷ inputs_left ys gs) ≡ with_front
    (Packet i (record { offset = h.source.offset; packet = p }) ∷ [])
    (sequence_by_time (inputs_left xs fs ++ items_left (input_after_decided h) f ∷ inputs_left ys gs))
merge-left i xs ys h here waits ready over from p held f fit fs gs before after_fits =
    let r = ready-split xs ys h ready in
    let key : key_of h ≡ max h.greatest p.time = ap (λ (o : Option Captured). max h.greatest (packet_time o)) held in
    merge-decides xs ys h p fs gs f waits held (rw key at (from-of (key_of h + 1) xs over r.before))
    (rw key at (from-of (key_of h) ys from r.following)) before after_fits
    (rw (rests-join xs ys h fs gs f before) at (none-broken 0 0 (xs ++ h ∷ ys) (fs ++ f ∷ gs) ready (fits-join xs ys h fs gs f before fit after_fits)))
    ∙ ap (λ n. with_front (Packet n (record { offset = h.source.offset; packet = p }) ∷ [])
    (sequence_by_time (inputs_left xs fs ++ items_left (input_after_decided h) f ∷ inputs_left ys gs))) (rests-length xs fs before ∙ here)

merge-decide-laws : (i : ℕ) (xs ys : List InputView) (h : InputView) → length xs ≡ i → h.waiting ≡ true → InputsFrom 0 (xs ++ h ∷ ys)
    → KeysFrom (key_of h + 1) xs → KeysFrom (key_of h) ys → DecideLaws ByTime i xs ys h
merge-decide-laws i xs ys h here waits ready over from = record {
  here = here;
  waits = waits;
  decided_left = merge-left i xs ys h here waits ready over from;
}

pub record DecideAt (order : PacketOrder) (cursors : List InputView) (i : ℕ) : Type 0 where
  pub cursor : InputView
  pub among : IsInput cursors i cursor
  pub laws : DecideLaws order i among.front among.back cursor

pub decide-at : (order : PacketOrder) (ss : List InputPast) (cursors : List InputView) (i : ℕ) → IsNextIn order cursors (Next.Decide i)
    → AreInputsAfter ss cursors → DecideAt order cursors i
decide-at InTurn ss cursors i tells following =
    let a = tells.among in
    record { cursor = tells.cursor; among = a; laws = turn-decides i a.front a.back tells.cursor a.place tells.waits tells.unended tells.front }
decide-at ByTime ss cursors i tells following =
    let l = tells.1 in
    let a = l.among in
    record {
      cursor = l.cursor;
      among = a;
      laws = merge-decide-laws i a.front a.back l.cursor a.place l.waits
          (rw a.splits at (all-ready ss cursors following tells.0)) l.over l.from;
    }

-- ---- nothing remains

-- all inputs are at their ends
pub record OverAt (order : PacketOrder) (cursors : List InputView) : Type 0 where
  pub ended : AllEnded cursors
  pub over_left : (fs : List Future) → AreFutures cursors fs → sequence_left order cursors (inputs_left cursors fs) ≡ record { events = []; end = Complete }

drop-all : (rs : List InputItems) (n : ℕ) → length rs ≤ n → drop n rs ≡ []
drop-all [] zero h = refl
drop-all [] (suc n) h = refl
drop-all (r ∷ rs) zero h = absurd (omega (arith, h))
drop-all (r ∷ rs) (suc n) h = drop-all rs n (omega (arith, h))

-- inputs at their ends, none of which waits
ended-from-all : (hs : List InputView) → NoneWaits hs → AllEnded hs → InputsFrom 0 hs
ended-from-all [] none ended = tt
ended-from-all (h ∷ hs) none ended = (ended_from none.0 ended.0, ended-from-all hs none.1 ended.1)

no-entries : (n : ℕ) (hs : List InputView) (fs : List Future) → NoneWaits hs → AllEnded hs → AreFutures hs fs → all_entries n (inputs_left hs fs) ≡ []
no-entries n [] [] none ended fits = refl
no-entries n [] (f ∷ fs) none ended fits = absurd fits
no-entries n (h ∷ hs) [] none ended fits = absurd fits
no-entries n (h ∷ hs) (f ∷ fs) none ended fits =
    ap (λ (i : Items). all_entries n (record { greatest = h.greatest; items = i; size = f.size } ∷ inputs_left hs fs)) (ended-rest h f none.0 ended.0 fits.0)
    ∙ no-entries (n + 1) hs fs none.1 ended.1 fits.1

pub over-at : (order : PacketOrder) (cursors : List InputView) → IsNextIn order cursors Next.Finish → OverAt order cursors
over-at InTurn cursors ended = record {
  ended = ended;
  over_left = λ fs fits.
      let rs : List InputItems = inputs_left cursors fs in
      ap (λ n. from_turn n rs) (count-all cursors ended)
      ∙ ap (sequence_in_turn (length cursors)) (drop-all rs (length cursors) (let e = rests-length cursors fs fits in omega (arith, e)));
}
over-at ByTime cursors tells = record {
  ended = tells.1;
  over_left = λ fs fits.
      ap (λ (c : SequenceEnd). unless_fault c (sequence_of_entries (sort_entries (all_entries 0 (inputs_left cursors fs)))))
      (none-broken 0 0 cursors fs (ended-from-all cursors tells.0 tells.1) fits)
      ∙ ap (λ l. sequence_of_entries (sort_entries l)) (no-entries 0 cursors fs tells.0 tells.1 fits);
}

-- The events that have come after an input is read on, or its packet is decided.
use Rattle.cap_tools.proofs.Common.{◌≡◌, ℕ, suc, ◌+◌, Bool, true, false, List, [], ◌∷◌, ◌++◌, length, drop, map, None, Some, Result, Ok, refl, sym, ◌∙◌, ap}
use Rattle.cap_tools.proofs.Common.{arith, subst, add-zero, Option, option_to_list, append_assoc, append-nil, length-append, Captured, Fault, Declared, Placed}
use Rattle.cap_tools.proofs.Common.{Items, FaultAt, items, after_packets, no_items, kind_of, SourceView, Phase, Ended, FindsPacket, FindsEnd, Finds, Advances}
use Rattle.cap_tools.proofs.Common.{IsAt, pending, InputItems, Event, Packet, InputEnd, FaultIn, Sequence, sequence_of, sequence_in_turn, input_sequence}
use Rattle.cap_tools.proofs.Common.{with_front, whole_input, PacketOrder, InputView, InputsView, Future, InputPast, AreInputsAfter, AreFutures, AreSettled}
use Rattle.cap_tools.proofs.Common.{waiting_packets, input_items, inputs_with, items_left, inputs_left, sequence_left, no_future, input_after}
use Rattle.cap_tools.proofs.Common.{input_after_decided, actual_future, wholes_of, ComeFirst, finish_at, slice_get}
use Rattle.cap_io.specs.Capture.{placed_at, Ending, End, NoUnit, items_from, front_of}
use Rattle.cap_io.proofs.{Standing.IsAt-items, Standing.items-begin, Standing.Advances-sound, Cuts.items_from-stops}

abbrev pub At : InputPast → InputView → Type 0
At s h = IsAt s.text s.done s.packets h.waiting h.source

abbrev pub Fit : InputView → Future → Type 0
Fit h f = h.source.phase ≡ Ended → f ≡ no_future h.source

pub record Stands (ss : List InputPast) (xs : List InputView) (h : InputView) (ys : List InputView) : Type 0 where
  pub front : List InputPast
  pub here : InputPast
  pub back : List InputPast
  pub is : ss ≡ front ++ here ∷ back
  pub before : AreInputsAfter front xs
  pub at : At here h
  pub following : AreInputsAfter back ys

pub stands-split : (ss : List InputPast) (xs ys : List InputView) (h : InputView) → AreInputsAfter ss (xs ++ h ∷ ys) → Stands ss xs h ys
stands-split [] [] ys h st = absurd st
stands-split [] (x ∷ xs) ys h st = absurd st
stands-split (s ∷ ss) [] ys h st = record { front = []; here = s; back = ss; is = refl; before = tt; at = st.0; following = st.1 }
stands-split (s ∷ ss) (x ∷ xs) ys h st =
    let more = stands-split ss xs ys h st.1 in
    record {
      front = s ∷ more.front;
      here = more.here;
      back = more.back;
      is = ap (λ (l : List InputPast). s ∷ l) more.is;
      before =
          (st.0, more.before);
      at = more.at;
      following = more.following;
    }

pub stands-join : (us vs : List InputPast) (s : InputPast) (xs ys : List InputView) (h : InputView) → AreInputsAfter us xs → At s h
    → AreInputsAfter vs ys → AreInputsAfter (us ++ s ∷ vs) (xs ++ h ∷ ys)
stands-join [] vs s [] ys h before at with_front = (at, with_front)
stands-join [] vs s (x ∷ xs) ys h before at with_front = absurd before
stands-join (a ∷ us) vs s [] ys h before at with_front = absurd before
stands-join (a ∷ us) vs s (x ∷ xs) ys h before at with_front = (before.0, stands-join us vs s xs ys h before.1 at with_front)

pub stands-length : (us : List InputPast) (xs : List InputView) → AreInputsAfter us xs → length us ≡ length xs
stands-length [] [] st = refl
stands-length [] (x ∷ xs) st = absurd st
stands-length (a ∷ us) [] st = absurd st
stands-length (a ∷ us) (x ∷ xs) st = ap suc (stands-length us xs st.1)

pub record FitsSplit (xs : List InputView) (h : InputView) (ys : List InputView) (fs : List Future) : Type 0 where
  pub front : List Future
  pub here : Future
  pub back : List Future
  pub is : fs ≡ front ++ here ∷ back
  pub before : AreFutures xs front
  pub fit : Fit h here
  pub following : AreFutures ys back

pub fits-split : (xs ys : List InputView) (h : InputView) (fs : List Future) → AreFutures (xs ++ h ∷ ys) fs → FitsSplit xs h ys fs
fits-split [] ys h [] fits = absurd fits
fits-split (x ∷ xs) ys h [] fits = absurd fits
fits-split [] ys h (f ∷ fs) fits = record { front = []; here = f; back = fs; is = refl; before = tt; fit = fits.0; following = fits.1 }
fits-split (x ∷ xs) ys h (f ∷ fs) fits =
    let more = fits-split xs ys h fs fits.1 in
    record {
      front = f ∷ more.front;
      here = more.here;
      back = more.back;
      is = ap (λ (l : List Future). f ∷ l) more.is;
      before = (fits.0, more.before);
      fit = more.fit;
      following = more.following;
    }

pub fits-join : (xs ys : List InputView) (h : InputView) (fs gs : List Future) (f : Future) → AreFutures xs fs → Fit h f → AreFutures ys gs
    → AreFutures (xs ++ h ∷ ys) (fs ++ f ∷ gs)
fits-join [] ys h [] gs f before fit with_front = (fit, with_front)
fits-join [] ys h (g ∷ fs) gs f before fit with_front = absurd before
fits-join (x ∷ xs) ys h [] gs f before fit with_front = absurd before
fits-join (x ∷ xs) ys h (g ∷ fs) gs f before fit with_front = (before.0, fits-join xs ys h fs gs f before.1 fit with_front)

pub wholes-join : (us vs : List InputPast) (s : InputPast) (xs ys : List InputView) (h : InputView) (fs gs : List Future) (f : Future)
    → AreInputsAfter us xs → AreFutures xs fs
    → inputs_with (us ++ s ∷ vs) (xs ++ h ∷ ys) (fs ++ f ∷ gs) ≡ inputs_with us xs fs ++ input_items s h f ∷ inputs_with vs ys gs
wholes-join [] vs s [] ys h [] gs f st fits = refl
wholes-join [] vs s [] ys h (g ∷ fs) gs f st fits = absurd fits
wholes-join [] vs s (x ∷ xs) ys h fs gs f st fits = absurd st
wholes-join (a ∷ us) vs s [] ys h fs gs f st fits = absurd st
wholes-join (a ∷ us) vs s (x ∷ xs) ys h [] gs f st fits = absurd fits
wholes-join (a ∷ us) vs s (x ∷ xs) ys h (g ∷ fs) gs f st fits = ap (λ (l : List InputItems). input_items a x g ∷ l)
    (wholes-join us vs s xs ys h fs gs f st.1 fits.1)

pub rests-join : (xs ys : List InputView) (h : InputView) (fs gs : List Future) (f : Future) → AreFutures xs fs → inputs_left (xs ++ h ∷ ys)
    (fs ++ f ∷ gs) ≡ inputs_left xs fs ++ items_left h f ∷ inputs_left ys gs
rests-join [] ys h [] gs f fits = refl
rests-join [] ys h (g ∷ fs) gs f fits = absurd fits
rests-join (x ∷ xs) ys h [] gs f fits = absurd fits
rests-join (x ∷ xs) ys h (g ∷ fs) gs f fits = ap (λ (l : List InputItems). items_left x g ∷ l) (rests-join xs ys h fs gs f fits.1)

pub rests-length : (xs : List InputView) (fs : List Future) → AreFutures xs fs → length (inputs_left xs fs) ≡ length xs
rests-length [] [] fits = refl
rests-length [] (f ∷ fs) fits = absurd fits
rests-length (x ∷ xs) [] fits = absurd fits
rests-length (x ∷ xs) (f ∷ fs) fits = ap suc (rests-length xs fs fits.1)

pub finish-here : (us vs : List InputPast) (s : InputPast) (i : ℕ) (bytes : List ℕ) (packets : List Placed) → length us ≡ i
    → finish_at (us ++ s ∷ vs) i bytes packets ≡ us ++ record { text = s.text; done = s.done ++ bytes; packets = s.packets ++ packets } ∷ vs
finish-here [] vs s i bytes packets place = rw (← place) refl
finish-here (a ∷ us) vs s i bytes packets place = rw (← place) (ap (λ (l : List InputPast). a ∷ l) (finish-here us vs s (length us) bytes packets refl))

-- ---- the events so far, after one input is read on

-- For each future after the change there is one before it: all items are the same, and the
-- remaining ones begin with the new events.
pub record Carries (s s' : InputPast) (xs ys : List InputView) (h h' : InputView) (order : PacketOrder) (new : List Event) (f' : Future) : Type 0 where
  pub future : Future
  pub fit : Fit h future
  pub same : input_items s h future ≡ input_items s' h' f'
  pub left_is : (fs gs : List Future) → AreFutures xs fs → AreFutures ys gs → sequence_left order (xs ++ h ∷ ys)
      (inputs_left xs fs ++ items_left h future ∷ inputs_left ys gs) ≡ with_front new
      (sequence_left order (xs ++ h' ∷ ys) (inputs_left xs fs ++ items_left h' f' ∷ inputs_left ys gs))

pub come-on : (us vs : List InputPast) (s s' : InputPast) (xs ys : List InputView) (h h' : InputView) (order : PacketOrder) (es new : List Event)
    → AreInputsAfter us xs
    → AreSettled (us ++ s ∷ vs) (record { order = order; cursors = xs ++ h ∷ ys }) es
    → ((f' : Future) → Fit h' f' → Carries s s' xs ys h h' order new f')
    → AreSettled (us ++ s' ∷ vs) (record { order = order; cursors = xs ++ h' ∷ ys }) (es ++ new)
come-on us vs s s' xs ys h h' order es new st come carries fs fits =
    let split = fits-split xs ys h' fs fits in
    let c = carries split.here split.fit in
    let was = come (split.front ++ c.future ∷ split.back) (fits-join xs ys h split.front split.back c.future split.before c.fit split.following) in
    rw split.is
    (ap (sequence_of order)
    (wholes-join us vs s' xs ys h' split.front split.back split.here st split.before
    ∙ ap (λ (r : InputItems). inputs_with us xs split.front ++ r ∷ inputs_with vs ys split.back) (sym c.same)
    ∙ sym (wholes-join us vs s xs ys h split.front split.back c.future st split.before))
    ∙ was
    ∙ ap (λ (l : List InputItems). with_front es (sequence_left order (xs ++ h ∷ ys) l)) (rests-join xs ys h split.front split.back c.future split.before)
    ∙ ap (with_front es) (c.left_is split.front split.back split.before split.following)
    ∙ ap (λ (l : List Event). record
    { events = l; end = (sequence_left order (xs ++ h' ∷ ys) (inputs_left xs split.front ++ items_left h' split.here ∷ inputs_left ys split.back)).end })
    (append-back es new (sequence_left order (xs ++ h' ∷ ys) (inputs_left xs split.front ++ items_left h' split.here ∷ inputs_left ys split.back)).events)
    ∙ ap (λ (l : List InputItems). with_front (es ++ new) (sequence_left order (xs ++ h' ∷ ys) l))
    (sym (rests-join xs ys h' split.front split.back split.here split.before)))
  where
    append-back : (xs ys zs : List Event) → xs ++ (ys ++ zs) ≡ (xs ++ ys) ++ zs
    append-back [] ys zs = refl
    append-back (x ∷ xs) ys zs = ap (λ (l : List Event). x ∷ l) (append-back xs ys zs)

pub get-at : {A : Type 0} (xs ys : List A) (x : A) (i : ℕ) → length xs ≡ i → slice_get (xs ++ x ∷ ys) i ≡ Some x
get-at [] ys x i is = rw (← is) refl
get-at (y ∷ xs) ys x i is = rw (← is) (get-at xs ys x (length xs) refl)

drop-front : (rs qs : List InputItems) (r : InputItems) (n : ℕ) → length rs ≡ n → drop n (rs ++ r ∷ qs) ≡ r ∷ qs
drop-front [] qs r n is = rw (← is) refl
drop-front (x ∷ xs) qs r n is = rw (← is) (drop-front xs qs r (length xs) refl)

drop-over : (rs qs : List InputItems) (r : InputItems) (n : ℕ) → length rs ≡ n → drop (n + 1) (rs ++ r ∷ qs) ≡ qs
drop-over [] qs r n is = rw (← is) refl
drop-over (x ∷ xs) qs r n is =
    let e : suc (length xs) + 1 ≡ suc (length xs + 1) = omega arith in
    rw (← is, e) (drop-over xs qs r (length xs) refl)

-- ---- the next packet is in hand

not-ended : (s s' : SourceView) → Advances s.phase s (Ok true) s' → s.phase ≡ Ended → ⊥
not-ended s s' advances is =
    let P : Phase → Type 0 = λ p. Advances p s (Ok true) s' in
    let same = subst P is advances in
    let e : Ok true ≡ Ok false = same.0 in cc

pub carries-found : (s : InputPast) (xs ys : List InputView) (h : InputView) (s' : SourceView) (order : PacketOrder)
    → ((rs : List InputItems) → sequence_left order (xs ++ h ∷ ys) rs ≡ sequence_left order (xs ++ input_after h (Ok true) s' ∷ ys) rs)
    → h.waiting ≡ false → Advances h.source.phase h.source (Ok true) s' → (finds : FindsPacket h.source s') (f' : Future)
    → Carries s (record { text = s.text; done = s.done ++ finds.passes.passed; packets = s.packets ++ [] }) xs ys h (input_after h (Ok true) s') order [] f'
carries-found s xs ys h s' order lefts waits advances finds f' = record {
  future = record { items = after_packets (waiting_packets true s') f'.items; size = f'.size };
  fit = λ e. absurd (not-ended h.source s' advances e);
  same = rw (waits, append-nil s.packets) refl;
  left_is = λ fs gs before with_back.
      ap (λ (b : Bool). sequence_left order (xs ++ h ∷ ys)
      (inputs_left xs fs ++ record {
        greatest = h.greatest;
        items = after_packets (waiting_packets b h.source)
            (after_packets (waiting_packets true s') f'.items);
        size = f'.size;
      } ∷ inputs_left ys gs)) waits
      ∙ lefts (inputs_left xs fs ++ items_left (input_after h (Ok true) s') f' ∷ inputs_left ys gs);
}

-- ---- the current packet is decided

-- the order of the inputs from one on, in turn
abbrev pub from_turn : ℕ → List InputItems → Sequence
from_turn turn rs = sequence_in_turn turn (drop turn rs)

came-next : (i : ℕ) (g : ℕ) (g' : ℕ) (x : Placed) (items : Items) (size : ℕ) (ending : Ending) (more : Sequence)
    → input_sequence i (record { greatest = g; items = after_packets (x ∷ []) items; size = size }) ending more
    ≡ with_front (Packet i x ∷ []) (input_sequence i (record { greatest = g'; items = after_packets [] items; size = size }) ending more)
came-next i g g' x items size End more = refl
came-next i g g' x items size (FaultAt fault offset) more = refl

turn-next : (turn g g' : ℕ) (x : Placed) (items : Items) (size : ℕ) (rs qs : List InputItems) → length rs ≡ turn
    → from_turn turn (rs ++ record { greatest = g; items = after_packets (x ∷ []) items; size = size } ∷ qs)
    ≡ with_front (Packet turn x ∷ []) (from_turn turn (rs ++ record { greatest = g'; items = after_packets [] items; size = size } ∷ qs))
turn-next turn g g' x items size rs qs is =
    ap (sequence_in_turn turn) (drop-front rs qs (record { greatest = g; items = after_packets (x ∷ []) items; size = size }) turn is)
    ∙ came-next turn g g' x items size items.ending (sequence_in_turn (turn + 1) qs)
    ∙ ap (λ (l : List InputItems). with_front (Packet turn x ∷ []) (sequence_in_turn turn l))
    (sym (drop-front rs qs (record { greatest = g'; items = after_packets [] items; size = size }) turn is))

-- the packet that waits
pub hand_is : (s : SourceView) (p : Captured) → s.packet ≡ Some p → waiting_packets true s ≡ record { offset = s.offset; packet = p } ∷ []
hand_is s p is = ap (λ (o : Option Captured). placed_at s.offset (option_to_list o)) is

pub left-decided : (h : InputView) (turn : ℕ) (p : Captured) → h.waiting ≡ true → h.source.packet ≡ Some p → (f : Future) (rs qs : List InputItems)
    → length rs ≡ turn
    → from_turn turn (rs ++ items_left h f ∷ qs) ≡ with_front (Packet turn (record { offset = h.source.offset; packet = p }) ∷ [])
    (from_turn turn (rs ++ items_left (input_after_decided h) f ∷ qs))
left-decided h turn p waits held f rs qs is =
    ap (λ (l : List Placed). from_turn turn (rs ++ record { greatest = h.greatest; items = after_packets l f.items; size = f.size } ∷ qs))
    (ap (λ b. waiting_packets b h.source) waits ∙ hand_is h.source p held)
    ∙ turn-next turn h.greatest (input_after_decided h).greatest (record { offset = h.source.offset; packet = p }) f.items f.size rs qs is

pub carries-decided : (s : InputPast) (xs ys : List InputView) (h : InputView) (i : ℕ) (order : PacketOrder) (bytes : List ℕ) (p : Captured)
    → h.waiting ≡ true → h.source.packet ≡ Some p
    → ((f : Future) → Fit h f → (fs gs : List Future) → AreFutures xs fs → AreFutures ys gs
    → sequence_left order (xs ++ h ∷ ys) (inputs_left xs fs ++ items_left h f ∷ inputs_left ys gs) ≡ with_front
    (Packet i (record { offset = h.source.offset; packet = p }) ∷ [])
    (sequence_left order (xs ++ input_after_decided h ∷ ys) (inputs_left xs fs ++ items_left (input_after_decided h) f ∷ inputs_left ys gs)))
    → (f' : Future) → Fit (input_after_decided h) f'
    → Carries s (record { text = s.text; done = s.done ++ bytes; packets = s.packets ++ record { offset = h.source.offset; packet = p } ∷ [] }) xs ys
    h (input_after_decided h) order (Packet i (record { offset = h.source.offset; packet = p }) ∷ []) f'
carries-decided s xs ys h i order bytes p waits held lefts f' fit =
    let x : Placed = record { offset = h.source.offset; packet = p } in
    let hand : waiting_packets h.waiting h.source ≡ x ∷ [] = ap (λ b. waiting_packets b h.source) waits ∙ hand_is h.source p held in
    record {
      future = f';
      fit = fit;
      same =
          ap (λ (l : List Placed). record { greatest = 0; items = after_packets s.packets (after_packets l f'.items); size = f'.size }) hand
          ∙ ap (λ (l : List Placed). record {
            greatest = 0;
            items = record { packets = l; declared = f'.items.declared; ending = f'.items.ending };
            size = f'.size;
          }) (sym (append_assoc s.packets (x ∷ []) f'.items.packets));
      left_is = lefts f' fit;
    }

-- ---- a clean end is met

pub turn-closes : (turn g g' : ℕ) (declared : Declared) (size : ℕ) (r' : InputItems) (rs qs : List InputItems) → length rs ≡ turn
    → from_turn turn (rs ++ record { greatest = g; items = no_items declared None 0; size = size } ∷ qs)
    ≡ with_front (InputEnd turn (kind_of declared) size ∷ []) (from_turn (turn + 1) (rs ++ r' ∷ qs))
turn-closes turn g g' declared size r' rs qs is =
    ap (sequence_in_turn turn) (drop-front rs qs (record { greatest = g; items = no_items declared None 0; size = size }) turn is)
    ∙ ap (λ (l : List InputItems). with_front (InputEnd turn (kind_of declared) size ∷ []) (sequence_in_turn (turn + 1) l)) (sym (drop-over rs qs r' turn is))

same-end : (s s' : SourceView) → Advances s.phase s (Ok false) s' → s.phase ≡ Ended → s' ≡ s
same-end s s' advances is = let P : Phase → Type 0 = λ p. Advances p s (Ok false) s' in (subst P is advances).1

pub carries-closed : (s : InputPast) (xs ys : List InputView) (h : InputView) (s' : SourceView) (order : PacketOrder) (new : List Event)
    → ((fs gs : List Future) → AreFutures xs fs → AreFutures ys gs
    → sequence_left order (xs ++ h ∷ ys) (inputs_left xs fs ++ record { greatest = h.greatest; items = no_items s'.declared None 0; size = s'.offset }
    ∷ inputs_left ys gs) ≡ with_front new (sequence_left order (xs ++ input_after h (Ok false) s' ∷ ys)
    (inputs_left xs fs ++ record { greatest = h.greatest; items = no_items s'.declared None 0; size = s'.offset } ∷ inputs_left ys gs)))
    → h.waiting ≡ false → Advances h.source.phase h.source (Ok false) s' → (finds : FindsEnd h.source s') → (f' : Future) → Fit (input_after h (Ok false) s') f'
    → Carries s (record { text = s.text; done = s.done ++ finds.passes.passed; packets = s.packets ++ [] }) xs ys h (input_after h (Ok false) s') order new f'
carries-closed s xs ys h s' order new lefts waits advances finds f' fit =
    let is : f' ≡ no_future s' = fit finds.phase in record {
      future = f';
      fit = λ e. is ∙ ap no_future (same-end h.source s' advances e);
      same = rw (waits, append-nil s.packets) refl;
      left_is = λ fs gs before with_back.
          ap (λ (b : Bool). sequence_left order (xs ++ h ∷ ys)
          (inputs_left xs fs ++ record { greatest = h.greatest; items = after_packets (waiting_packets b h.source) f'.items; size = f'.size } ∷
          inputs_left ys gs)) waits
          ∙ ap (λ (f : Future). sequence_left order (xs ++ h ∷ ys)
          (inputs_left xs fs ++ record { greatest = h.greatest; items = after_packets [] f.items; size = f.size } ∷ inputs_left ys gs)) is
          ∙ lefts fs gs before with_back
          ∙ ap (λ (f : Future). with_front new (sequence_left order (xs ++ input_after h (Ok false) s' ∷ ys)
          (inputs_left xs fs ++ items_left (input_after h (Ok false) s') f ∷ inputs_left ys gs))) (sym is);
    }

-- ---- an input ends by a fault

pub turn-broken : (turn g : ℕ) (declared : Declared) (fault : Fault) (offset size : ℕ) (rs qs : List InputItems) → length rs ≡ turn
    → from_turn turn (rs ++ record { greatest = g; items = no_items declared (Some fault) offset; size = size } ∷ qs) ≡ record
    { events = []; end = FaultIn turn fault offset }
turn-broken turn g declared fault offset size rs qs is =
    ap (sequence_in_turn turn) (drop-front rs qs (record { greatest = g; items = no_items declared (Some fault) offset; size = size }) turn is)

-- ---- the true future

true-items : (s : InputPast) (h : InputView) → At s h → (b : Bool) → h.waiting ≡ b → after_packets s.packets
    (after_packets (waiting_packets b h.source) (actual_future h.source).items) ≡ items s.text
true-items s h at true is =
    let P : Bool → Type 0 = λ b. IsAt s.text s.done s.packets b h.source in
    let here : IsAt s.text s.done s.packets true h.source = subst P is at in
    let has = here.waits refl in
    ap (λ (l : List Placed). after_packets s.packets (after_packets l (actual_future h.source).items)) (hand_is h.source has.packet has.held)
    ∙ ap (λ (l : List Placed). record {
      packets = l;
      declared = (actual_future h.source).items.declared;
      ending =
          (actual_future h.source).items.ending;
    })
    (sym (append_assoc s.packets (record { offset = h.source.offset; packet = has.packet } ∷ []) (actual_future h.source).items.packets))
    ∙ ap (λ n. after_packets (s.packets ++ record { offset = h.source.offset; packet = has.packet } ∷ [])
    (items_from h.source.declared n h.source.unread)) here.place
    ∙ sym (IsAt-items s.text s.done s.packets h.source here)
true-items s h at false is =
    let P : Bool → Type 0 = λ b. IsAt s.text s.done s.packets b h.source in
    let here : IsAt s.text s.done s.packets false h.source = subst P is at in
    ap (λ n. after_packets s.packets (items_from h.source.declared n h.source.unread)) (here.place ∙ ap length (append-nil s.done))
    ∙ sym (ap items here.whole ∙ items-begin s.done h.source.unread s.packets h.source.declared here.units)

true-size : (s : InputPast) (h : InputView) → At s h → (actual_future h.source).size ≡ length s.text
true-size s h at =
    let place : h.source.offset + length h.source.block ≡ length (s.done ++ pending_of) = at.place in
    ap (λ n. n + length h.source.unread) at.place
    ∙ sym (length-append (s.done ++ pending_of) h.source.unread)
    ∙ ap length (append_assoc s.done pending_of h.source.unread)
    ∙ sym (ap length at.whole)
  where
    pending_of : List ℕ
    pending_of = pending h.waiting h.source.block

pub true-whole : (s : InputPast) (h : InputView) → At s h → input_items s h (actual_future h.source) ≡ whole_input s.text
true-whole s h at =
    ap (λ (i : Items). record { greatest = 0; items = i; size = (actual_future h.source).size }) (true-items s h at h.waiting refl)
    ∙ ap (λ n. record { greatest = 0; items = items s.text; size = n }) (true-size s h at)

pub true-wholes : (ss : List InputPast) (hs : List InputView) → AreInputsAfter ss hs
    → inputs_with ss hs (map (λ (h : InputView). actual_future h.source) hs) ≡ wholes_of ss
true-wholes [] [] st = refl
true-wholes [] (h ∷ hs) st = absurd st
true-wholes (s ∷ ss) [] st = absurd st
true-wholes (s ∷ ss) (h ∷ hs) st = ap (λ (r : InputItems). r ∷ inputs_with ss hs (map (λ (h : InputView). actual_future h.source) hs))
    (true-whole s h st.0) ∙ ap (λ (l : List InputItems). whole_input s.text ∷ l) (true-wholes ss hs st.1)

pub true-fit : (s : InputPast) (h : InputView) → At s h → Fit h (actual_future h.source)
true-fit s h at e =
    let over = at.ended e in
    let stops : front_of h.source.declared h.source.unread ≡ NoUnit None = rw over.unread over.ends in
    ap (λ (i : Items). record { items = i; size = (actual_future h.source).size })
    (items_from-stops h.source.declared (h.source.offset + length h.source.block) h.source.unread None stops)
    ∙ ap (λ n. record { items = no_items h.source.declared None 0; size = n }) (rw (over.block, over.unread) (simp (add-zero)))

pub true-fits : (ss : List InputPast) (hs : List InputView) → AreInputsAfter ss hs → AreFutures hs (map (λ (h : InputView). actual_future h.source) hs)
true-fits [] [] st = tt
true-fits [] (h ∷ hs) st = absurd st
true-fits (s ∷ ss) [] st = absurd st
true-fits (s ∷ ss) (h ∷ hs) st = (true-fit s h st.0, true-fits ss hs st.1)

-- the events so far come first in the order of the complete inputs
pub come-first : (ss : List InputPast) (inputs : InputsView) (es : List Event) → AreInputsAfter ss inputs.cursors → AreSettled ss inputs es
    → ComeFirst (sequence_of inputs.order (wholes_of ss)) es
come-first ss inputs es following come = record {
  later = sequence_left inputs.order inputs.cursors (inputs_left inputs.cursors (map (λ (h : InputView). actual_future h.source) inputs.cursors));
  is =
      ap (sequence_of inputs.order) (sym (true-wholes ss inputs.cursors following))
      ∙ come (map (λ (h : InputView). actual_future h.source) inputs.cursors) (true-fits ss inputs.cursors following);
}

-- what an input finds that met no fault
pub finds : (s : InputPast) (h : InputView) (s' : SourceView) (r : Result Bool Fault) → At s h → h.waiting ≡ false → Advances h.source.phase h.source
    r s' → Finds h.source r s'
finds s h s' r at waits advances =
    let P : Bool → Type 0 = λ b. IsAt s.text s.done s.packets b h.source in
    Advances-sound s.text s.done s.packets h.source s' r (subst P waits at) advances

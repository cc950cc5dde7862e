-- The schedule agrees with the inputs, and still does after each read and decision.
use Rattle.std.proofs.Common.{◌≡◌, ◌≢◌, ◌⊎◌, inl, inr, ℕ, zero, suc, ◌+◌, ◌<◌, ◌≤◌, Bool, true, false, List, [], ◌∷◌, ◌++◌, length, map, Some, Result, Ok, Err}
use Rattle.std.proofs.Common.{refl, sym, ◌∙◌, ap, arith, ◌&&◌}
use Rattle.std.specs.List.{slice_get, slice_set, AllByRecursion}
use Rattle.cap_inputs.proofs.Common.{Fault, Schedule, Turn, Merge, Next, ordering_of, PacketOrder, InTurn, ByTime, InputView, Queue}
use Rattle.cap_io.specs.Source.{Phase, Reading, Ended, Failed, phase_after}
use Rattle.cap_inputs.specs.inside.Cursor.{EntersQueue, HoldsQueue, is_merge, EachAt, IsOfTurn, IsOfMerge, IsNextAt, IsScheduled, first_schedule}
use Rattle.cap_inputs.specs.inside.Cursor.{schedule_after, schedule_after_decided, waits_at}
use Rattle.cap_inputs.specs.Inputs.{key_of, IsInput, input_after_decided, is_packet_found}
use Rattle.cap_inputs.specs.inside.Inputs.{AllEnded, AllReady, IsAtTurn, IsNextIn, IsOpen, IsReady, NoneWaits}
use Rattle.cap_inputs.proofs.Cursors.{get-input, input-at, same-input, schedule-order, set-among}
use Rattle.cap_inputs.proofs.Leasts.{queue-read}
use Rattle.std.proofs.lemmas.{Bool.cases_order, Option.slice_get_within}

-- ---- of each, and of each by its index

all-of : (Q : InputView → Type 0) (hs : List InputView) → ((i : ℕ) (h : InputView) → slice_get hs i ≡ Some h → Q h) → AllByRecursion Q hs
all-of Q [] each = tt
all-of Q (h ∷ hs) each = (each 0 h refl, all-of Q hs (λ i k is. each (suc i) k is))

all-at : (Q : InputView → Type 0) (hs : List InputView) (i : ℕ) (h : InputView) → AllByRecursion Q hs → slice_get hs i ≡ Some h → Q h
all-at Q [] i h all is = absurd (cc)
all-at Q (x ∷ xs) zero h all is = let same : x ≡ h = cc in rw same at all.0
all-at Q (x ∷ xs) (suc i) h all is = all-at Q xs i h all.1 is

get-front : (xs zs : List InputView) (i : ℕ) → i < length xs → slice_get (xs ++ zs) i ≡ slice_get xs i
get-front [] zs i within = absurd (omega arith)
get-front (x ∷ xs) zs zero within = refl
get-front (x ∷ xs) zs (suc i) within = get-front xs zs i (omega arith)

get-back : (xs ys : List InputView) (h : InputView) (i : ℕ) → slice_get (xs ++ h ∷ ys) (length xs + suc i) ≡ slice_get ys i
get-back [] ys h i = let one : 0 + suc i ≡ suc i = omega arith in rw one refl
get-back (x ∷ xs) ys h i = let one : suc (length xs) + suc i ≡ suc (length xs + suc i) = omega arith in rw one (get-back xs ys h i)

-- the inputs before one, and those after it
module _ (cursors : List InputView) (i : ℕ) (h : InputView) (a : IsInput cursors i h) where
  front-of : (Q : InputView → Type 0) → ((j : ℕ) (k : InputView) → j < i → slice_get cursors j ≡ Some k → Q k) → AllByRecursion Q a.front
  front-of Q each = grind (arith, all-of, slice_get_within, get-front)

  front-at : (Q : InputView → Type 0) (j : ℕ) (k : InputView) → AllByRecursion Q a.front → j < i → slice_get cursors j ≡ Some k → Q k
  front-at Q j k all less is = grind (arith, all-at, get-front)

  back-of : (Q : InputView → Type 0) → ((j : ℕ) (k : InputView) → i < j → slice_get cursors j ≡ Some k → Q k) → AllByRecursion Q a.back
  back-of Q each = grind (arith, all-of, get-back)

-- another cursor of an input, where the others stay
each-set : (P P' : ℕ → InputView → Type 0) (cursors : List InputView) (i : ℕ) (h h' : InputView) → IsInput cursors i h → EachAt P cursors → P' i h'
    → ((j : ℕ) (k : InputView) → j ≢ i → slice_get cursors j ≡ Some k → P j k → P' j k) → EachAt P' (slice_set cursors i h')
each-set P P' cursors i h h' a each here others j k is =
    elim (parts a.front a.back j (rw (set-among cursors i h h' a) at is)) [
      | inl (place, same) ↦ (let at : j ≡ i = cc in rw (at, ← same) here)
      | inr (other, stays) ↦ (let was : slice_get cursors j ≡ Some k = cc in others j k (λ e. other (e ∙ sym a.place)) was (each j k was))
    ]
  where
    parts : (xs ys : List InputView) (j : ℕ) → slice_get (xs ++ h' ∷ ys) j ≡ Some k → ((j ≡ length xs) × (h' ≡ k)) ⊎
        ((j ≡ length xs → ⊥) × (slice_get (xs ++ h ∷ ys) j ≡ Some k))
    parts [] ys zero is = inl (refl, (cc))
    parts [] ys (suc j) is = inr ((λ e. omega (arith, e)), is)
    parts (x ∷ xs) ys zero is = inr ((λ e. omega (arith, e)), is)
    parts (x ∷ xs) ys (suc j) is = elim (parts xs ys j is) [
      | inl (at, same) ↦ inl (ap suc at, same)
      | inr (other, stays) ↦
          inr ((λ e. other (omega (arith, e))), stays)
    ]

-- ---- what is next

some-at : (cursors : List InputView) (i : ℕ) → i < length cursors → (h : InputView) × slice_get cursors i ≡ Some h
some-at [] i within = absurd (omega arith)
some-at (x ∷ xs) zero within = (x, refl)
some-at (x ∷ xs) (suc i) within = some-at xs i (omega arith)

waits-is : (cursors : List InputView) (i : ℕ) (waiting : Bool) → waits_at cursors i ≡ Some waiting → (h : InputView) × slice_get cursors i ≡ Some h
    × h.waiting ≡ waiting
waits-is [] i waiting is = absurd (cc)
waits-is (x ∷ xs) zero waiting is = (x, refl, (cc))
waits-is (x ∷ xs) (suc i) waiting is = waits-is xs i waiting is

at-turn : (turn : ℕ) (cursors : List InputView) (i : ℕ) (waiting : Bool) → EachAt (IsOfTurn turn) cursors → i ≡ turn → waits_at cursors turn ≡ Some
    waiting → IsAtTurn cursors i waiting
at-turn turn cursors i waiting placed here waits =
    let found = waits-is cursors i waiting (rw here waits) in
    let a = input-at cursors i found.0 found.1 in
    record {
      cursor = found.0;
      among = a;
      waits = found.2;
      unended = (placed i found.0 found.1).1 (omega arith);
      front = front-of cursors i found.0 a _ (λ j k less is. (placed j k is).0 (omega arith));
      back = back-of cursors i found.0 a _ (λ j k more is. (placed j k is).1 (omega arith));
    }

all-ready : (n u : ℕ) (cursors : List InputView) → EachAt (IsOfMerge n u) cursors → (u ≤ n ⊎ length cursors ≤ n) → AllReady cursors
all-ready n u cursors placed done = grind (arith, all-of, slice_get_within, cases_order)

all-ended : (hs : List InputView) → NoneWaits hs → AllReady hs → AllEnded hs
all-ended [] none ready = tt
all-ended (h ∷ hs) none ready = (elim ready.0 [ inl w ↦ absurd (let e = none.0 in cc w) | inr e ↦ e ], all-ended hs none.1 ready.1)

-- what is next at the cursor is next of the inputs
pub next-is : (schedule : Schedule) (cursors : List InputView) (r : Next) → IsScheduled schedule cursors → IsNextAt schedule cursors r
    → IsNextIn (ordering_of schedule) cursors r
next-is (Turn turn) cursors (Next.Read i) placed tells = at-turn turn cursors i false placed tells.0 tells.1
next-is (Turn turn) cursors (Next.Decide i) placed tells = at-turn turn cursors i true placed tells.0 tells.1
next-is (Turn turn) cursors Next.Finish placed tells = all-of _ cursors (λ j k is. (placed j k is).0 (omega (arith, slice_get_within)))
next-is (Merge n u) cursors (Next.Read i) placed tells =
    let same = tells.0 in
    let found = some-at cursors i (rw same tells.2) in
    let a = input-at cursors i found.0 found.1 in
    let here = (placed i found.0 found.1).0 (omega arith) (rw same tells.1) in
    record {
      cursor = found.0;
      among = a;
      waits = here.0;
      unended = here.1;
      front = front-of cursors i found.0 a _
          (λ j k less is. (placed j k is).1 (inl (rw same at less)));
    }
next-is (Merge n u) cursors (Next.Decide i) placed tells = (all-ready n u cursors placed tells.0, tells.1)
next-is (Merge n u) cursors Next.Finish placed tells = (tells.1, all-ended cursors tells.1 (all-ready n u cursors placed tells.0))

-- whether the packet of the next input waits
pub read-idle : (order : PacketOrder) (cursors : List InputView) (i : ℕ) (h : InputView) → IsInput cursors i h → IsNextIn order cursors (Next.Read i)
    → h.waiting ≡ false
read-idle InTurn cursors i h a tells = ap (λ v. v.waiting) (same-input cursors i h _ a tells.among) ∙ tells.waits
read-idle ByTime cursors i h a tells = ap (λ v. v.waiting) (same-input cursors i h _ a tells.among) ∙ tells.waits

pub decided-waits : (order : PacketOrder) (cursors : List InputView) (i : ℕ) (h : InputView) → IsInput cursors i h → IsNextIn order cursors
    (Next.Decide i) → h.waiting ≡ true
decided-waits InTurn cursors i h a tells = ap (λ v. v.waiting) (same-input cursors i h _ a tells.among) ∙ tells.waits
decided-waits ByTime cursors i h a tells = ap (λ v. v.waiting) (same-input cursors i h _ a tells.1.among) ∙ tells.1.waits

-- ---- the cursor moves on

phase-unended : (h : InputView) (p : Phase) → h.source.phase ≡ p → (p ≡ Ended → ⊥) → IsOpen h
phase-unended h p is other = λ e. other (sym is ∙ e)

not-ready : (h : InputView) → h.waiting ≡ false → IsOpen h → IsReady h → ⊥
not-ready h waits unended ready = elim ready [ inl w ↦ (cc w) | inr e ↦ unended e ]

-- an input is read on
pub placed-read : (schedule : Schedule) (cursors : List InputView) (i : ℕ) (h' : InputView) (r : Result Bool Fault) → IsNextIn (ordering_of schedule)
    cursors (Next.Read i)
    → h'.waiting ≡ is_packet_found r → h'.source.phase ≡ phase_after r → IsScheduled schedule cursors → IsScheduled (schedule_after schedule i r)
    (slice_set cursors i h')
placed-read (Turn turn) cursors i h' r tells waits phase placed = by_result r phase
  where
    h : InputView
    h = tells.cursor

    own : IsOfTurn turn i h
    own = placed i h (get-input cursors i h tells.among)

    from : turn ≤ i
    from = let not : i < turn → ⊥ = λ less. tells.unended (own.0 less) in omega (arith, not)

    still : IsOpen h' → EachAt (IsOfTurn turn) (slice_set cursors i h')
    still unended = each-set _ _ cursors i h h' tells.among placed ((λ less. absurd (tells.unended (own.0 less))), λ le. unended) (λ j k other is was. was)

    by_result : (r : Result Bool Fault) → h'.source.phase ≡ phase_after r → IsScheduled (schedule_after (Turn turn) i r) (slice_set cursors i h')
    by_result (Ok true) phase = still (phase-unended h' Reading phase (λ e. (cc)))
    by_result (Ok false) phase = each-set _ (IsOfTurn (i + 1)) cursors i h h' tells.among placed ((λ less. phase), λ le. absurd (omega (arith, le)))
        (λ j k other is was. (
          (λ less. front-at cursors i h tells.among _ j k tells.front (omega (arith, less, other)) is),
          λ le. was.1 (omega (arith, le, from)),
        ))
    by_result (Err fault) phase = still (phase-unended h' (Failed fault) phase (λ e. (cc)))
placed-read (Merge n u) cursors i h' r tells waits phase placed = by_result r waits phase
  where
    h : InputView
    h = tells.cursor

    own : IsOfMerge n u i h
    own = placed i h (get-input cursors i h tells.among)

    not : i < n ⊎ u ≤ i → ⊥
    not out = not-ready h tells.waits tells.unended (own.1 out)

    from : n ≤ i
    from = let less : i < n → ⊥ = λ l. not (inl l) in omega (arith, less)

    on : IsReady h' → EachAt (IsOfMerge (i + 1) u) (slice_set cursors i h')
    on ready = each-set _ (IsOfMerge (i + 1) u) cursors i h h' tells.among placed ((λ le less. absurd (omega (arith, le))), λ out. ready)
        (λ j k other is was. (
          (λ le less. was.0 (omega (arith, le, from)) less),
          λ out. elim out [ inl less ↦ front-at cursors i h tells.among _ j k tells.front (omega (arith, less, other)) is | inr le ↦ was.1 (inr le) ],
        ))

    by_result : (r : Result Bool Fault) → h'.waiting ≡ is_packet_found r → h'.source.phase ≡ phase_after r
        → IsScheduled (schedule_after (Merge n u) i r) (slice_set cursors i h')
    by_result (Ok true) waits phase = on (inl waits)
    by_result (Ok false) waits phase = on (inr phase)
    by_result (Err fault) waits phase =
        each-set _ _ cursors i h h' tells.among placed (
          (λ le less. (waits, phase-unended h' (Failed fault) phase (λ e. (cc)))),
          λ out. absurd (not out),
        ) (λ j k other is was. was)

-- an input is read on, and with it the queue
pub goes-on : (schedule schedule' : Schedule) (cursors : List InputView) (i : ℕ) (h h' : InputView) (r : Result Bool Fault) (q q' : Queue)
    → IsInput cursors i h → IsNextIn (ordering_of schedule) cursors (Next.Read i)
    → h'.waiting ≡ is_packet_found r → h'.source.phase ≡ phase_after r → schedule' ≡ schedule_after schedule i r
    → EntersQueue (is_packet_found r && is_merge schedule) (record { time = key_of h'; input = i }) q q' → HoldsQueue (ordering_of schedule) cursors q
    × IsScheduled schedule cursors
    → HoldsQueue (ordering_of schedule') (slice_set cursors i h') q' × IsScheduled schedule' (slice_set cursors i h')
goes-on schedule schedule' cursors i h h' r q q' a tells waits phase is enters was =
    rw (is, schedule-order) (
      queue-read schedule cursors i h h' r q q' a (read-idle _ cursors i h a tells) waits enters was.0,
      placed-read schedule cursors i h' r tells waits phase was.1,
    )

-- the current packet of an input is decided
pub placed-decided : (schedule : Schedule) (cursors : List InputView) (i : ℕ) (h : InputView) → IsInput cursors i h → IsNextIn (ordering_of schedule)
    cursors (Next.Decide i)
    → h.source.phase ≡ Reading → IsScheduled schedule cursors → IsScheduled (schedule_after_decided schedule i) (slice_set cursors i (input_after_decided h))
placed-decided (Turn turn) cursors i h a tells phase placed =
    each-set _ _ cursors i h _ a placed (placed i h (get-input cursors i h a)) (λ j k other is was. was)
placed-decided (Merge n u) cursors i h a tells phase placed =
    each-set _ _ cursors i h _ a placed
    ((λ le less. (refl, phase-unended h Reading phase (λ e. (cc)))), λ out. absurd (elim out [ inl less ↦ omega arith | inr le ↦ omega arith ]))
    (λ j k other is was. ((λ le less. absurd (omega arith)), λ out. all-at IsReady cursors j k tells.0 is))

-- ---- new inputs

fresh-all : {X : Type 0} (f : X → InputView) (Q : InputView → Type 0) (xs : List X) → ((x : X) → Q (f x)) → AllByRecursion Q (map f xs)
fresh-all f Q [] each = tt
fresh-all f Q (x ∷ xs) each = (each x, fresh-all f Q xs each)

pub placed-first : {X : Type 0} (f : X → InputView) (xs : List X) (order : PacketOrder) → ((x : X) → (f x).waiting ≡ false)
    → ((x : X) → (f x).source.phase ≡ Reading)
    → IsScheduled (first_schedule order (length (map f xs))) (map f xs)
placed-first {X = X} f xs order idle phase = by_order order
  where
    unended : (x : X) → IsOpen (f x)
    unended x = phase-unended (f x) Reading (phase x) (λ e. (cc))

    by_order : (order : PacketOrder) → IsScheduled (first_schedule order (length (map f xs))) (map f xs)
    by_order InTurn = λ j k is. ((λ less. absurd (omega (arith, less))), λ le. all-at IsOpen (map f xs) j k (fresh-all f IsOpen xs unended) is)
    by_order ByTime = λ j k is. (
      (λ le less. all-at (λ h. (h.waiting ≡ false) × IsOpen h) (map f xs) j k (fresh-all f _ xs (λ x. (idle x, unended x))) is),
      λ out. absurd (elim out [ inl less ↦ omega (arith, less) | inr le ↦ omega (arith, le, slice_get_within (map f xs) j k is) ]),
    )

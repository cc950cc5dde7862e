-- The queue of a merge gives the packet with the least key.
use Rattle.std.specs.List.{sum_by, All, slice_set}
use Rattle.std.proofs.Common.{length-append, ◌≡◌, ◌≢◌, ℕ, zero, suc, ◌+◌, ◌<◌, ◌≤◌, inl, inr, ◌&&◌, ◌||◌, Bool, true, false, IsTrue, if◌then◌else◌, List, []}
use Rattle.std.proofs.Common.{◌∷◌, ◌++◌, length, Option, None, Some, Result, Ok, refl, sym, ◌∙◌, ap, map, arith, ◌==◌, nat_lt, add-zero}
use Rattle.cap_inputs.proofs.Common.{and_parts, eqb-true, Queue, nat_tests, Waiting, Schedule, Turn, Merge, Fault, ordering_of, InputView, Next, order_of}
use Rattle.cap_inputs.specs.inside.Queue.{NotAfter, Precedes, IsFirstWaiting, is_entered}
use Rattle.cap_inputs.specs.inside.Cursor.{EntersQueue, HasPlaceFor, HoldsQueue, IsQueued, Leaves, TakesFirst, is_merge, sum_waiting}
use Rattle.cap_inputs.specs.Inputs.{IsInput, is_packet_found, key_of}
use Rattle.cap_inputs.specs.inside.Inputs.{NoneWaits, IsLeast, KeysFrom, IsNextIn}
use Rattle.cap_inputs.proofs.Cursors.{set-among}
use Rattle.std.proofs.lemmas.List.{Elements.All-cons, Elements.All-nil, Elements.All-tail, Sums.sum_by-cons, Sorted.sum_by-IsPermutation}

-- ---- sums

abbrev entry : InputView → ℕ → Waiting
entry h i = record { time = key_of h; input = i }

abbrev part : (Waiting → ℕ) → InputView → ℕ → ℕ
part f h i = if h.waiting then f (entry h i) else 0

-- another cursor in an input's place
exchanged : (f : Waiting → ℕ) (i n : ℕ) (xs ys : List InputView) (h h' : InputView) → i + length xs ≡ n
    → sum_waiting f i (xs ++ h ∷ ys) + part f h' n ≡ sum_waiting f i (xs ++ h' ∷ ys) + part f h n
exchanged f i n [] ys h h' is = grind arith
exchanged f i n (x ∷ xs) ys h h' is = omega (arith, exchanged f (i + 1) n xs ys h h' (omega arith))

counts : (ws : List Waiting) → sum_by (λ w. 1) ws ≡ length ws
counts [] = refl
counts (w ∷ ws) = omega (arith, sum_by-cons, counts ws)

counts-most : (i : ℕ) (hs : List InputView) → sum_waiting (λ w. 1) i hs ≤ length hs
counts-most i [] = omega arith
counts-most i (h ∷ hs) =
    let more = counts-most (i + 1) hs in
    elim h.waiting as (λ b. (if b then 1 else 0) + sum_waiting (λ w. 1) (i + 1) hs ≤ suc (length hs)) [
      | true ↦ omega arith
      | false ↦
          omega arith
    ]

-- ---- an input is read on

abbrev is_of : ℕ → Waiting → ℕ
is_of n w = if w.input == n then 1 else 0

none-apart : (h : InputView) (i n : ℕ) → i ≢ n → part (is_of n) h i ≡ 0
none-apart h i n other = grind (arith, nat_tests)

none-later : (n i : ℕ) (hs : List InputView) → n < i → sum_waiting (is_of n) i hs ≡ 0
none-later n i [] later = refl
none-later n i (h ∷ hs) later = omega (arith, none-apart, none-later n (i + 1) hs (omega arith))

none-idle : (n i : ℕ) (xs ys : List InputView) (h : InputView) → i + length xs ≡ n → h.waiting ≡ false → sum_waiting (is_of n) i (xs ++ h ∷ ys) ≡ 0
none-idle n i [] ys h is idle = grind (arith, none-later)
none-idle n i (x ∷ xs) ys h is idle = omega (arith, none-apart, none-idle n (i + 1) xs ys h (omega arith) idle)

none-entered : (n : ℕ) (ws : List Waiting) → sum_by (is_of n) ws ≡ 0 → All (λ w. w.input ≢ n) ws
none-entered n [] none = All-nil (λ w. w.input ≢ n)
none-entered n (w ∷ ws) none =
    let all = sum_by-cons (is_of n) w ws in
    All-cons (λ v. v.input ≢ n) w ws (λ e. (let same : (w.input == n) ≡ true = grind arith in
    let one : is_of n w ≡ 1 = cc in omega arith)) (none-entered n ws (omega arith))

-- an input that doesn't wait has room for its entry, and none of its own is there
pub room-for : (schedule : Schedule) (cursors : List InputView) (i : ℕ) (h : InputView) (waits : Bool) (q : Queue) → IsInput cursors i h
    → h.waiting ≡ false → HoldsQueue (ordering_of schedule) cursors q
    → (waits && is_merge schedule) ≡ true → HasPlaceFor q i
room-for (Turn turn) cursors i h waits q a idle was merge = absurd (let e = (and_parts waits false merge).1 in cc)
room-for (Merge first last) cursors i h waits q a idle was merge =
    let other = exchanged (λ w. 1) 0 i a.front a.back h (record h { waiting = true }) (omega arith) in
    let most = counts-most 0 (a.front ++ record h { waiting = true } ∷ a.back) in
    let none : part (λ w. 1) h i ≡ 0 = cc in
    let held = was.entered in (
      omega (
        arith,
        rw a.splits at (held (λ w. 1)),
        counts,
        ap length a.splits,
        length-append a.front (h ∷ a.back),
        length-append a.front (record h { waiting = true } ∷ a.back),
      ),
      none-entered i _ (held _ ∙ rw a.splits (none-idle i 0 a.front a.back h (omega arith) idle)),
    )

-- another cursor of an input, whose entry was added or removed
queued-with : (cursors : List InputView) (i : ℕ) (h h' : InputView) (q q' : Queue) (a : IsInput cursors i h)
    → ((f : Waiting → ℕ) → sum_by f q'.waiting + part f h i ≡ sum_by f q.waiting + part f h' i) → q.room ≤ q'.room → IsQueued cursors q
    → IsQueued (slice_set cursors i h') q'
queued-with cursors i h h' q q' a goes roomy was = rw (set-among cursors i h h' a) (record {
  entered = λ f. omega (arith, exchanged f 0 i a.front a.back h h' (omega arith), rw a.splits at (was.entered f));
  room = omega (arith, ap length a.splits, length-append a.front (h ∷ a.back), length-append a.front (h' ∷ a.back));
})

-- an input is read on
pub queue-read : (schedule : Schedule) (cursors : List InputView) (i : ℕ) (h h' : InputView) (r : Result Bool Fault) (q q' : Queue)
    → IsInput cursors i h → h.waiting ≡ false → h'.waiting ≡ is_packet_found r
    → EntersQueue (is_packet_found r && is_merge schedule) (entry h' i) q q' → HoldsQueue (ordering_of schedule) cursors q
    → HoldsQueue (ordering_of schedule) (slice_set cursors i h') q'
queue-read (Turn turn) cursors i h h' r q q' a idle waits enters was = tt
queue-read (Merge first last) cursors i h h' (Ok true) q q' a idle waits enters was =
    queued-with cursors i h h' q q' a
    (λ f. rw (idle, waits) (omega (arith, sum_by-IsPermutation f _ _ enters.0, sum_by-cons))) enters.1 was
queue-read (Merge first last) cursors i h h' _ q q' a idle waits enters was = queued-with cursors i h h' q q' a (λ f. rw (idle, waits, enters) refl)
    (rw enters (omega arith)) was

-- ---- the least key

abbrev is_same : Waiting → Waiting → ℕ
is_same w v = if (v.time == w.time) && (v.input == w.input) then 1 else 0

abbrev is_before : Waiting → Waiting → ℕ
is_before w v = if nat_lt v.time w.time || ((v.time == w.time) && nat_lt v.input w.input) then 1 else 0

same-self : (w : Waiting) → is_same w w ≡ 1
same-self w = grind arith

some-entered : (w : Waiting) (ws : List Waiting) → is_entered ws w.time w.input ≡ true → 0 < sum_by (is_same w) ws
some-entered w [] is = absurd (cc)
some-entered w (v ∷ vs) is = rw sum_by-cons (by_same _ is (some-entered w vs))
  where
    by_same : (b : Bool) → (b || is_entered vs w.time w.input) ≡ true → (is_entered vs w.time w.input ≡ true → 0 < sum_by (is_same w) vs)
        → 0 < (if b then 1 else 0) + sum_by (is_same w) vs
    by_same true is more = omega arith
    by_same false is more = omega arith

none-before : (w : Waiting) (ws : List Waiting) → All (NotAfter w) ws → sum_by (is_before w) ws ≡ 0
none-before w [] all = refl
none-before w (v ∷ vs) all =
    let here : is_before w v ≡ 0 = elim (all 0 w (omega arith)) [
      | inl lt ↦ grind arith
      | inr (same, le) ↦
          grind arith
    ] in
    omega (arith, sum_by-cons, none-before w vs (All-tail (NotAfter w) v vs all))

-- the input of an entry, which is the least
record LeastOf (w : Waiting) (i : ℕ) (hs : List InputView) : Type 0 where
  n : ℕ
  place : i + n ≡ w.input
  least : IsLeast hs n
  key : key_of least.cursor ≡ w.time

keys-from : (w : Waiting) (i : ℕ) (hs : List InputView) → sum_waiting (is_before w) i hs ≡ 0 → KeysFrom w.time hs
keys-from w i [] none = tt
keys-from w i (h ∷ hs) none = (
  λ waits. (let here : is_before w (entry h i) ≡ 0 = rw waits at (let first : part (is_before w) h i ≡ 0 = omega arith in
      first) in grind arith),
  keys-from w (i + 1) hs (omega arith),
)

least-of : (w : Waiting) (i : ℕ) (hs : List InputView) → 0 < sum_waiting (is_same w) i hs → sum_waiting (is_before w) i hs ≡ 0 → LeastOf w i hs
least-of w i [] some none = absurd (omega arith)
least-of w i (h ∷ hs) some none = by_same (least-of w (i + 1) hs) _ _ refl refl
  where
    further : (0 < sum_waiting (is_same w) (i + 1) hs → sum_waiting (is_before w) (i + 1) hs ≡ 0 → LeastOf w (i + 1) hs) → part (is_same w) h i ≡ 0
        → ((more : LeastOf w (i + 1) hs) → h.waiting ≡ true → w.time + 1 ≤ key_of h) → LeastOf w i (h ∷ hs)
    further later other over =
        let more = later (omega arith) (omega arith) in
        let l = more.least in
        record {
          n = suc more.n;
          place = omega arith;
          least = record {
            cursor = l.cursor;
            among = record {
              front = h ∷ l.among.front;
              back = l.among.back;
              place = ap suc l.among.place;
              splits = ap (λ l. h ∷ l)
                  l.among.splits;
            };
            waits = l.waits;
            over = (rw more.key (over more), l.over);
            from = l.from;
          };
          key = more.key;
        }

    by_same : (0 < sum_waiting (is_same w) (i + 1) hs → sum_waiting (is_before w) (i + 1) hs ≡ 0 → LeastOf w (i + 1) hs) → (b c : Bool)
        → h.waiting ≡ b → ((key_of h == w.time) && (i == w.input)) ≡ c → LeastOf w i (h ∷ hs)
    by_same later false c waits is = further later (rw waits refl) (λ more yes. absurd (cc))
    by_same later true true waits is =
        let same = and_parts _ _ is in
        let key = eqb-true _ w.time same.0 in
        record {
          n = 0;
          place = add-zero i ∙ eqb-true i w.input same.1;
          least = record {
            cursor = h;
            among = record { front = []; back = hs; place = refl; splits = refl };
            waits = waits;
            over = tt;
            from = rw key (keys-from w (i + 1) hs (omega arith));
          };
          key = key;
        }
    by_same later true false waits is =
        let here : is_before w (entry h i) ≡ 0 = rw waits at (let first : part (is_before w) h i ≡ 0 = omega arith in first) in
        further later (rw (waits, is) refl) (λ more yes. (let place = more.place in grind arith))

-- the first entry is of the least key, and of the lowest input with it
first-of : (cursors : List InputView) (q : Queue) (w : Waiting) (ws : List Waiting) → ((f : Waiting → ℕ) → sum_by f q.waiting ≡ sum_by f ws)
    → IsQueued cursors q
    → 0 < sum_by (is_same w) ws → All (NotAfter w) ws → LeastOf w 0 cursors
first-of cursors q w ws moved was some all = grind (arith, least-of, none-before)

pub first-least : (cursors : List InputView) (q : Queue) (w : Waiting) → IsQueued cursors q → IsFirstWaiting w q.waiting → IsLeast cursors w.input
first-least cursors q w was is =
    let first = first-of cursors q w _ (λ f. refl) was (some-entered w _ is.0) is.1 in
    let same : first.n ≡ w.input = omega arith in rw (← same) first.least

none-waits : (i : ℕ) (hs : List InputView) → sum_waiting (λ w. 1) i hs ≡ 0 → NoneWaits hs
none-waits i [] none = tt
none-waits i (h ∷ hs) none =
    let idle = elim h.waiting as (λ b. ◌≡◌ {A = ℕ} (if b then 1 else 0) 0 → b ≡ false) [ true ↦ λ e. absurd (omega arith) | false ↦ λ e. refl ] in
    (idle (omega arith), none-waits (i + 1) hs (omega arith))

pub empty-none : (cursors : List InputView) (q : Queue) → IsQueued cursors q → q.waiting ≡ [] → NoneWaits cursors
empty-none cursors q was empty = none-waits 0 cursors (sym (was.entered (λ w. 1)) ∙ ap (sum_by (λ w. 1)) empty)

-- ---- the current packet of the next input is decided

keys-at : (k : ℕ) (xs ys : List InputView) (h : InputView) → KeysFrom k (xs ++ h ∷ ys) → h.waiting ≡ true → k ≤ key_of h
keys-at k [] ys h from waits = from.0 waits
keys-at k (x ∷ xs) ys h from waits = keys-at k xs ys h from.1 waits

-- one input alone has the least key
least-same : (xs ys xs' ys' : List InputView) (h h' : InputView) → xs ++ h ∷ ys ≡ xs' ++ h' ∷ ys' → h.waiting ≡ true → h'.waiting ≡ true
    → KeysFrom (key_of h + 1) xs → KeysFrom (key_of h) ys
    → KeysFrom (key_of h' + 1) xs' → KeysFrom (key_of h') ys' → (length xs ≡ length xs') × (h ≡ h')
least-same [] ys [] ys' h h' is waits waits' over from over' from' = (refl, (cc))
least-same [] ys (x ∷ xs') ys' h h' is waits waits' over from over' from' =
    let same : h ≡ x = cc in let rest : ys ≡ xs' ++ h' ∷ ys' = cc in
    absurd (omega (arith, keys-at _ xs' ys' h' (rw rest at from) waits', rw (← same) at (over'.0 (rw same at waits))))
least-same (x ∷ xs) ys [] ys' h h' is waits waits' over from over' from' =
    let same : x ≡ h' = cc in let rest : xs ++ h ∷ ys ≡ ys' = cc in
    absurd (omega (arith, keys-at _ xs ys h (rw (← rest) at from') waits, rw same at (over.0 (rw (← same) at waits'))))
least-same (x ∷ xs) ys (x' ∷ xs') ys' h h' is waits waits' over from over' from' =
    let more = least-same xs ys xs' ys' h h' (cc) waits waits' over.1 from over'.1 from' in (ap suc more.0, more.1)

taken-in : (cursors : List InputView) (i : ℕ) (h' : InputView) (q q' : Queue) (taken : Option Waiting) → IsLeast cursors i → h'.waiting ≡ false
    → TakesFirst taken q q' → q.room ≤ q'.room → IsQueued cursors q → IsQueued (slice_set cursors i h') q'
taken-in cursors i h' q q' None least decided moved roomy was =
    let none = empty-none cursors q was moved in
    let a = least.among in
    absurd (let waits = least.waits in let idle = idle-in a.front a.back _ (rw a.splits at none) in cc waits)
  where
    idle-in : (xs ys : List InputView) (h : InputView) → NoneWaits (xs ++ h ∷ ys) → h.waiting ≡ false
    idle-in [] ys h none = none.0
    idle-in (x ∷ xs) ys h none = idle-in xs ys h none.1
taken-in cursors i h' q q' (Some w) least decided moved roomy was =
    let all : (f : Waiting → ℕ) → sum_by f q.waiting ≡ sum_by f (w ∷ q'.waiting) = λ f. sym (sum_by-IsPermutation f _ _ moved.0) in
    let some : 0 < sum_by (is_same w) (w ∷ q'.waiting) = omega (arith, sum_by-cons (is_same w) w q'.waiting, same-self) in
    let first = first-of cursors q w (w ∷ q'.waiting) all was some (before-after w _ moved.1) in
    let l = first.least in
    let same = least-same _ _ _ _ _ l.cursor
    (sym least.among.splits ∙ l.among.splits) least.waits l.waits least.over least.from l.over l.from in
    let input : w.input ≡ i = omega (arith, same.0, first.place, least.among.place, l.among.place) in
    let time = sym (ap key_of same.1 ∙ first.key) in
    let own : w ≡ entry least.cursor i = λ k. record { time = time k; input = input k } in
    queued-with cursors i _ h' q q' least.among
    (λ f. rw (least.waits, decided) (omega (arith, all, sum_by-cons, ap f own))) roomy was
  where
    before-after : (w : Waiting) (ws : List Waiting) → All (Precedes w) ws → All (NotAfter w) (w ∷ ws)
    before-after w ws before zero d h = inr (refl, omega arith)
    before-after w ws before (suc k) d h = elim (before k d (omega arith)) [ inl lt ↦ inl lt | inr (same, lt) ↦ inr (same, omega arith) ]

pub queue-decided : (schedule : Schedule) (cursors : List InputView) (i : ℕ) (h' : InputView) (q q' : Queue) → IsNextIn (ordering_of schedule) cursors
    (Next.Decide i) → h'.waiting ≡ false
    → Leaves (is_merge schedule) q q' → HoldsQueue (ordering_of schedule) cursors q → HoldsQueue (ordering_of schedule) (slice_set cursors i h') q'
queue-decided (Turn turn) cursors i h' q q' tells decided leaves was = tt
queue-decided (Merge first last) cursors i h' q q' tells decided leaves was = taken-in cursors i h' q q' leaves.0 tells.1 decided leaves.1 leaves.2 was

-- ---- new inputs

none-first : {X : Type 0} (f : X → InputView) (g : Waiting → ℕ) (i : ℕ) (xs : List X) → ((x : X) → (f x).waiting ≡ false) → sum_waiting g i (map f xs) ≡ 0
none-first f g i [] idle = refl
none-first f g i (x ∷ xs) idle = let later = none-first f g (i + 1) xs idle in rw idle (omega arith)

-- a new queue is that of inputs none of which waits
pub queued-first : {X : Type 0} (f : X → InputView) (xs : List X) (merges : Bool) (q : Queue) → ((x : X) → (f x).waiting ≡ false) → q.waiting ≡ []
    → (IsTrue merges → length (map f xs) ≤ q.room)
    → HoldsQueue (order_of merges) (map f xs) q
queued-first f xs false q idle empty roomy = tt
queued-first f xs true q idle empty roomy = grind (arith, none-first)

-- The order of a merge is sorted, has each packet once, and keeps the order of each input.
use Rattle.std.proofs.Common.{◌≡◌, ℕ, ◌+◌, ◌<◌, ◌≤◌, true, false, if◌then◌else◌, max, List, [], ◌∷◌, ◌++◌, refl, sym, ap, nat_eq, subst, IsPermutation}
use Rattle.cap_io.proofs.Common.{arith, AllByRecursion}
use Rattle.cap_io.specs.Capture.{Placed, Ending}
use Rattle.std.proofs.lemmas.List.Sorted.{IsPermutation-refl, IsPermutation-trans, IsPermutation-cons, IsPermutation-middle}
use Rattle.cap_io.specs.Merging.{AreSorted, IsNoLater, IsNoLaterThan, MergesSort, StopAtFault, StopsBy, events_of, of_input}
use Rattle.cap_io.specs.Sequence.{Entry, Event, Packet, SequenceEnd, Complete, FaultIn, Sequence, InputItems, all_entries, comes_before, end_after, entries_of}
use Rattle.cap_io.specs.Sequence.{fault_without_packets, insert_entry, sequence_of_entries, sort_entries, unless_fault, with_front}

-- ---- before and after

before : (x y : Entry) → comes_before x y ≡ true → IsNoLater x y
before x y is = grind arith

not-before : (x y : Entry) → comes_before x y ≡ false → IsNoLater y x
not-before x y is = grind arith

no-later-trans : (x y z : Entry) → IsNoLater x y → IsNoLater y z → IsNoLater x z
no-later-trans x y z h h1 = grind arith

no-later-all : (e x : Entry) (xs : List Entry) → IsNoLater e x → IsNoLaterThan x xs → IsNoLaterThan e xs
no-later-all e x [] first all = tt
no-later-all e x (y ∷ ys) first all = (no-later-trans e x y first all.0, no-later-all e x ys first all.1)

-- ---- sorted

no-later-insert : (e x : Entry) (xs : List Entry) → IsNoLater e x → IsNoLaterThan e xs → IsNoLaterThan e (insert_entry x xs)
no-later-insert e x [] first all = (first, tt)
no-later-insert e x (y ∷ ys) first all = grind (arith, (no-later-insert e x ys first all.1))

sorted-insert : (e : Entry) (es : List Entry) → AreSorted es → AreSorted (insert_entry e es)
sorted-insert e [] all = (tt, tt)
sorted-insert e (x ∷ xs) all = grind (arith, no-later-insert, before, not-before, no-later-all, (sorted-insert e xs all.1))

sorted : (es : List Entry) → AreSorted (sort_entries es)
sorted [] = tt
sorted (e ∷ es) = sorted-insert e (sort_entries es) (sorted es)

-- ---- each once

permuted-insert : (e : Entry) (es : List Entry) → IsPermutation (e ∷ es) (insert_entry e es)
permuted-insert e [] = IsPermutation-refl (e ∷ [])
permuted-insert e (x ∷ xs) =
    let later : IsPermutation (e ∷ x ∷ xs) (x ∷ insert_entry e xs) = IsPermutation-trans _ _ _ (IsPermutation-middle (e ∷ []) x xs)
    (IsPermutation-cons x _ _ (permuted-insert e xs)) in
    grind arith

permuted : (es : List Entry) → IsPermutation es (sort_entries es)
permuted [] = IsPermutation-refl []
permuted (e ∷ es) = IsPermutation-trans _ _ _ (IsPermutation-cons e _ _ (permuted es)) (permuted-insert e (sort_entries es))

-- ---- in their places

-- what is true of each entry is also true in joined lists, with one more entry, and in sorted ones
pub each-append : (P : Entry → Type 0) (xs ys : List Entry) → AllByRecursion P xs → AllByRecursion P ys → AllByRecursion P (xs ++ ys)
each-append P [] ys a b = b
each-append P (x ∷ xs) ys a b = (a.0, each-append P xs ys a.1 b)

each-insert : (P : Entry → Type 0) (e : Entry) (xs : List Entry) → P e → AllByRecursion P xs → AllByRecursion P (insert_entry e xs)
each-insert P e [] p h = (p, tt)
each-insert P e (x ∷ xs) p h = grind (arith, (each-insert P e xs p h.1))

pub each-sorted : (P : Entry → Type 0) (xs : List Entry) → AllByRecursion P xs → AllByRecursion P (sort_entries xs)
each-sorted P [] h = tt
each-sorted P (x ∷ xs) h = each-insert P x (sort_entries xs) h.0 (each-sorted P xs h.1)

-- of those of its own input none has a lower greatest time
abbrev IsLed : Entry → Entry → Type 0
IsLed e x = x.input ≡ e.input → e.key ≤ x.key

abbrev Leads : Entry → List Entry → Type 0
Leads e es = AllByRecursion (IsLed e) es

abbrev EachLeads : List Entry → Type 0
EachLeads [] = Unit {0}
EachLeads (e ∷ es) = Leads e es × EachLeads es

leads-own : (e : Entry) (input : ℕ) (ending : Ending) (greatest : ℕ) (ps : List Placed) → e.key ≤ greatest → Leads e (entries_of input ending greatest ps)
leads-own e input ending greatest [] less = tt
leads-own e input ending greatest (p ∷ ps) less =
    let more : greatest ≤ max greatest p.packet.time = grind arith in
    let next : e.key ≤ max greatest p.packet.time = omega (arith, less, more) in
    ((λ same. next), leads-own e input ending (max greatest p.packet.time) ps next)

leads-other : (e : Entry) (input : ℕ) (ending : Ending) (greatest : ℕ) (ps : List Placed) → e.input < input → Leads e (entries_of input ending greatest ps)
leads-other e input ending greatest [] less = tt
leads-other e input ending greatest (p ∷ ps) less =
    ((λ (same : input ≡ e.input). omega (arith, less, same)), leads-other e input ending (max greatest p.packet.time) ps less)

leads-others : (e : Entry) (input : ℕ) (rs : List InputItems) → e.input < input → Leads e (all_entries input rs)
leads-others e input [] less = tt
leads-others e input (r ∷ rs) less = search (arith, each-append, leads-other, (leads-others e (input + 1) rs (omega (arith, less))))

each-leads-own : (input : ℕ) (ending : Ending) (greatest : ℕ) (ps : List Placed) (rest : List Entry) → ((e : Entry) → e.input ≡ input → Leads e rest)
    → EachLeads rest → EachLeads (entries_of input ending greatest ps ++ rest)
each-leads-own input ending greatest [] rest others each = each
each-leads-own input ending greatest (p ∷ ps) rest others each =
    let e : Entry = record { key = max greatest p.packet.time; input = input; p = p; end = end_after input ending ps } in
    let same : max greatest p.packet.time ≤ max greatest p.packet.time = omega arith in (
      each-append (IsLed e) (entries_of input ending (max greatest p.packet.time) ps) rest
          (leads-own e input ending (max greatest p.packet.time) ps same) (others e refl),
      each-leads-own input ending (max greatest p.packet.time) ps
          rest others each,
    )

each-leads : (input : ℕ) (rs : List InputItems) → EachLeads (all_entries input rs)
each-leads input [] = tt
each-leads input (r ∷ rs) =
    each-leads-own input r.items.ending r.greatest r.items.packets (all_entries (input + 1) rs)
    (λ e is. leads-others e (input + 1) rs (omega (arith, is))) (each-leads (input + 1) rs)

abbrev if_of : ℕ → Entry → List Entry → List Entry
if_of input e es = if nat_eq e.input input then e ∷ es else es

-- an entry that may come before another input's entry may also come after it
exchanged : (input : ℕ) (e x : Entry) (es : List Entry) → (e.input ≡ x.input → ⊥) → if_of input x (if_of input e es) ≡ if_of input e (if_of input x es)
exchanged input e x es other = grind arith

-- what comes before an entry that leads is of another input
is-other : (e x : Entry) → (x.input ≡ e.input → e.key ≤ x.key) → comes_before x e ≡ true → e.input ≡ x.input → ⊥
is-other e x leads is same = grind arith

places-insert : (input : ℕ) (e : Entry) (es : List Entry) → Leads e es → of_input input (insert_entry e es) ≡ of_input input (e ∷ es)
places-insert input e [] leads = refl
places-insert input e (x ∷ xs) leads = grind (arith, exchanged, is-other, (places-insert input e xs leads.1))

places : (input : ℕ) (es : List Entry) → EachLeads es → of_input input (sort_entries es) ≡ of_input input es
places input [] each = refl
places input (e ∷ es) each = grind (arith, places-insert, each-sorted, (places input es each.1))

-- ---- those that come

-- those of sorted entries that come in a sequence, unless the order ends so before it
record Come (c : SequenceEnd) (es : List Entry) (s : Sequence) : Type 0 where
  come : List Entry
  later : List Entry
  parts : es ≡ come ++ later
  events : s.events ≡ events_of come
  whole : s.end ≡ Complete → later ≡ []
  stops : StopsBy c come s.end (StopAtFault come later s.end)

comes : (es : List Entry) → Come Complete es (sequence_of_entries es)
comes [] = grind arith
comes (e ∷ es) = by_end (comes es) e.end refl
  where
    by_end : Come Complete es (sequence_of_entries es) → (c : SequenceEnd) → e.end ≡ c
        → Come Complete (e ∷ es) (with_front (Packet e.input e.p ∷ []) (unless_fault c (sequence_of_entries es)))
    by_end more Complete is =
        let end = (sequence_of_entries es).end in
        record {
          come = e ∷ more.come;
          later = more.later;
          parts = ap (λ (l : List Entry). e ∷ l) more.parts;
          events = ap (λ (l : List Event). Packet e.input e.p ∷ l) more.events;
          whole = more.whole;
          stops = subst (λ (x : SequenceEnd). StopsBy x more.come end (StopAtFault more.come more.later end)) (sym is) more.stops;
        }
    by_end more (FaultIn input fault offset) is =
        let end = FaultIn input fault offset in
        record {
          come = e ∷ [];
          later = es;
          parts = refl;
          events = refl;
          whole = λ is. (cc);
          stops = subst (λ (x : SequenceEnd). StopsBy x [] end (StopAtFault [] es end)) (sym is) (refl, refl);
        }

comes-unless : (c : SequenceEnd) (es : List Entry) → Come c es (unless_fault c (sequence_of_entries es))
comes-unless c es = grind (arith, comes)

pub merges-sort : MergesSort
merges-sort rs =
    let es = all_entries 0 rs in
    let c = comes-unless (fault_without_packets 0 rs) (sort_entries es) in
    grind (arith, sorted, permuted, places, each-leads)

-- The packets of a merge, continued from the current ones, are in the order of the complete inputs.
use Rattle.std.proofs.Common.{◌≡◌, ℕ, suc, ◌+◌, ◌<◌, ◌≤◌, true, false, max, List, [], ◌∷◌, ◌++◌, length, refl, sym, ◌∙◌, ap, arith, add-zero, subst}
use Rattle.cap_io.specs.Capture.{Placed, Items, Ending}
use Rattle.cap_io.specs.Sequence.{Packet, SequenceEnd, Complete, FaultIn, with_front, InputItems, Entry, end_after, entries_of, all_entries, comes_before}
use Rattle.cap_io.specs.Sequence.{insert_entry, sort_entries, sequence_of_entries, first_end, fault_without_packets, unless_fault, sequence_by_time}
use Rattle.cap_io.proofs.Merging.{each-append, each-sorted}
use Rattle.cap_inputs.proofs.{Common.Fault, Cursors.weaker}
use Rattle.std.{specs.List.AllByRecursion, proofs.lemmas.List.append_assoc}

-- what all entries and the fault of inputs without packets have of one input
abbrev input_entries : ℕ → InputItems → List Entry
input_entries input r = entries_of input r.items.ending r.greatest r.items.packets

abbrev pub end_at : ℕ → InputItems → SequenceEnd
end_at input r = end_after input r.items.ending r.items.packets

put_in-first : (e : Entry) (xs : List Entry) → AllByRecursion (λ x. comes_before x e ≡ false) xs → insert_entry e xs ≡ e ∷ xs
put_in-first e [] h = refl
put_in-first e (x ∷ xs) h = rw h.0 refl

-- what comes before all others is first in the order
pub sorted-first : (e : Entry) (xs ys : List Entry) → AllByRecursion (λ x. comes_before e x ≡ true) xs
    → AllByRecursion (λ y. comes_before y e ≡ false) ys → sort_entries (xs ++ e ∷ ys) ≡ e ∷ sort_entries (xs ++ ys)
sorted-first e [] ys a b = put_in-first e _ (each-sorted (λ y. comes_before y e ≡ false) ys b)
sorted-first e (x ∷ xs) ys a b = ap (insert_entry x) (sorted-first e xs ys a.1 b) ∙ rw a.0 refl

-- the keys of an input never fall
abbrev FollowsIn : ℕ → ℕ → Entry → Type 0
FollowsIn input greatest x = (x.input ≡ input) × (greatest ≤ x.key)

entries-follow : (input : ℕ) (ending : Ending) (greatest : ℕ) (ps : List Placed) → AllByRecursion (FollowsIn input greatest)
    (entries_of input ending greatest ps)
entries-follow input ending greatest [] = tt
entries-follow input ending greatest (p ∷ ps) = (
  (refl, omega arith),
  weaker _ _ (λ x f. (f.0, omega arith))
      _ (entries-follow input ending (max greatest _) ps),
)

ahead : (e x : Entry) → e.key < x.key → comes_before e x ≡ true
ahead e x h = grind arith

later : (e x : Entry) → e.key ≤ x.key → e.input + 1 ≤ x.input → comes_before x e ≡ false
later e x h l = grind arith

later-own : (e x : Entry) → FollowsIn e.input e.key x → comes_before x e ≡ false
later-own e x h = grind arith

-- the least key among the remaining items of an input is at least the input's key
abbrev pub IsFrom : ℕ → ℕ → List Placed → Type 0
IsFrom k greatest [] = Unit {0}
IsFrom k greatest (p ∷ ps) = k ≤ max greatest p.packet.time

abbrev pub AllFrom : ℕ → List InputItems → Type 0
AllFrom k [] = Unit {0}
AllFrom k (r ∷ rs) = IsFrom k r.greatest r.items.packets × AllFrom k rs

entries-each : (Q : Entry → Type 0) (k input : ℕ) (ending : Ending) (greatest : ℕ) (ps : List Placed) → IsFrom k greatest ps
    → ((x : Entry) → k ≤ x.key → x.input ≡ input → Q x) → AllByRecursion Q (entries_of input ending greatest ps)
entries-each Q k input ending greatest [] from each = tt
entries-each Q k input ending greatest (p ∷ ps) from each = (
  each (record { key = max greatest _; input = input; p = p; end = end_after input ending ps }) from refl,
  weaker _ Q (λ x f. each x (omega arith) f.0)
      _
      (entries-follow input ending _ ps),
)

all-each : (Q : Entry → Type 0) (k input : ℕ) (rs : List InputItems) → AllFrom k rs → ((x : Entry) → k ≤ x.key → input ≤ x.input → Q x)
    → AllByRecursion Q (all_entries input rs)
all-each Q k input [] from each = tt
all-each Q k input (r ∷ rs) from each =
    each-append Q _ _ (entries-each Q k input _ _ _ from.0
    (λ x le is. each x le (omega arith)))
    (all-each Q k (input + 1) rs from.1 (λ x le l. each x le (omega arith)))

all_entries-append : (input : ℕ) (xs ys : List InputItems) → all_entries input (xs ++ ys) ≡ all_entries input xs ++ all_entries (input + length xs) ys
all_entries-append input [] ys = rw add-zero refl
all_entries-append input (x ∷ xs) ys =
    let e : input + suc (length xs) ≡ (input + 1) + length xs = omega arith in
    rw (e, all_entries-append (input + 1) xs ys)
    (sym (append_assoc (input_entries input x) _ _))

first-close-assoc : (a b c : SequenceEnd) → first_end a (first_end b c) ≡ first_end (first_end a b) c
first-close-assoc Complete b c = refl
first-close-assoc (FaultIn i f o) b c = refl

broken-append : (input : ℕ) (xs ys : List InputItems) → fault_without_packets input (xs ++ ys) ≡ first_end (fault_without_packets input xs)
    (fault_without_packets (input + length xs) ys)
broken-append input [] ys = rw add-zero refl
broken-append input (x ∷ xs) ys =
    let e : input + suc (length xs) ≡ (input + 1) + length xs = omega arith in
    rw (e, broken-append (input + 1) xs ys) (first-close-assoc (end_at input x) _
    _)

first-over : (a b : SequenceEnd) → first_end a b ≡ Complete → (a ≡ Complete) × (b ≡ Complete)
first-over Complete b h = (refl, h)
first-over (FaultIn i f o) b h = absurd (let e = h in cc)

over-right : (a : SequenceEnd) → first_end a Complete ≡ a
over-right Complete = refl
over-right (FaultIn i f o) = refl

-- For the input whose current packet has the least key (the lowest one among equals), that packet
-- comes first, and the items after it are the merge of what remains.
pub merged-next : (xs ys : List InputItems) (g : ℕ) (p : Placed) (items : Items) (ps : List Placed) (size : ℕ) → items.packets ≡ p ∷ ps
    → fault_without_packets 0 (xs ++ record { greatest = g; items = items; size = size } ∷ ys) ≡ Complete → AllFrom (max g p.packet.time + 1) xs
    → AllFrom (max g p.packet.time) ys
    → sequence_by_time (xs ++ record { greatest = g; items = items; size = size } ∷ ys)
    ≡ with_front (Packet (length xs) p ∷ [])
    (sequence_by_time (xs ++ record {
      greatest = max g p.packet.time;
      items = record { packets = ps; declared = items.declared; ending = items.ending };
      size = size;
    } ∷ ys))
merged-next xs ys g p items ps size is whole over from =
    let k : ℕ = max g _ in
    let n : ℕ = length xs in
    let r : InputItems = record { greatest = g; items = record { packets = p ∷ ps; declared = items.declared; ending = items.ending }; size = size } in
    let r' : InputItems = record { greatest = k; items = record { packets = ps; declared = items.declared; ending = items.ending }; size = size } in
    let same : record { greatest = g; items = items; size = size } ≡ r =
    ap (λ (l : List Placed). record { greatest = g; items = record { packets = l; declared = items.declared; ending = items.ending }; size = size }) is in
    let B : InputItems → Type 0 = λ z. fault_without_packets 0 (xs ++ z ∷ ys) ≡ Complete in
    let whole' : fault_without_packets 0 (xs ++ r ∷ ys) ≡ Complete = subst B same whole in
    let e : Entry = record { key = k; input = n; p = p; end = end_after n _ ps } in
    let zero : 0 + n ≡ n = omega arith in
    let apart = first-over _ (fault_without_packets (0 + n) (r ∷ ys)) (sym (broken-append 0 xs (r ∷ ys)) ∙ whole') in
    let rest = first-over (end_at (0 + n) r) (fault_without_packets (0 + n + 1) ys) apart.1 in
    let after_e : List Entry = input_entries n r' ++ all_entries (n + 1) ys in
    let old = all_entries-append 0 xs (r ∷ ys)
    ∙ ap (λ (m : ℕ). all_entries 0 xs ++ all_entries m (r ∷ ys)) zero in
    let new = all_entries-append 0 xs (r' ∷ ys)
    ∙ ap (λ m. all_entries 0 xs ++ all_entries m (r' ∷ ys)) zero in
    let follows : AllByRecursion (λ x. comes_before x e ≡ false) after_e =
    each-append (λ x. comes_before x e ≡ false) _ _
    (weaker (FollowsIn n k) (λ x. comes_before x e ≡ false) (λ x h. later-own e x h) (input_entries n r') (entries-follow n items.ending k ps))
    (all-each (λ x. comes_before x e ≡ false) k (n + 1) ys from (λ x le l. later e x le l)) in
    let first : sort_entries (all_entries 0 (xs ++ r ∷ ys)) ≡ e ∷ sort_entries (all_entries 0 (xs ++ r' ∷ ys)) =
    ap sort_entries old ∙ sorted-first e (all_entries 0 xs) after_e
    (all-each (λ x. comes_before e x ≡ true) (k + 1) 0 xs over (λ x le l. ahead e x (omega (arith, le)))) follows
    ∙ ap (λ l. e ∷ sort_entries l) (sym new) in
    let left_broken =
    broken-append 0 xs _
    ∙ ap (λ (c : SequenceEnd). first_end c (fault_without_packets (0 + n) (r' ∷ ys))) apart.0
    ∙ ap (λ (c : SequenceEnd). first_end (end_at (0 + n) r') c) rest.1
    ∙ over-right (end_at (0 + n) r')
    ∙ ap (λ m. end_at m r') zero in
    ap (λ (z : InputItems). sequence_by_time (xs ++ z ∷ ys)) same
    ∙ ap (λ (c : SequenceEnd). unless_fault c (sequence_of_entries (sort_entries (all_entries 0 (xs ++ r ∷ ys))))) whole'
    ∙ ap sequence_of_entries first
    ∙ ap (λ (c : SequenceEnd). with_front (Packet n p ∷ []) (unless_fault c (sequence_of_entries (sort_entries (all_entries 0 (xs ++ r' ∷ ys))))))
    (sym left_broken)

-- an input that ends by a fault, where none before it does and it has no packet left: nothing more
-- comes
pub merged-broken : (xs ys : List InputItems) (r : InputItems) (fault : Fault) (offset : ℕ) → fault_without_packets 0 xs ≡ Complete
    → end_at (length xs) r ≡ FaultIn (length xs) fault offset
    → sequence_by_time (xs ++ r ∷ ys) ≡ record { events = []; end = FaultIn (length xs) fault offset }
merged-broken xs ys r fault offset none is = grind (arith, broken-append)

-- Each capture is cut into units in exactly one way.
use Rattle.std.proofs.Common.{◌≡◌, ℕ, zero, suc, ◌+◌, ◌<◌, ◌≤◌, List, [], ◌++◌, length, take, drop, Option, refl, sym, ◌∙◌, ap, ap₂, zero-add, add-zero}
use Rattle.cap_io.proofs.Common.{arith, append_assoc, append-nil, length-drop, take_at, drop_at, take-append-drop, Captured, Fault, Declared, length-append}
use Rattle.cap_io.specs.Capture.{Nothing, IsUnit, Placed, placed_at, AreUnits, no_unit, unit_then, Front, Whole, NoUnit, front_of, items, after_packets}
use Rattle.cap_io.specs.Capture.{ending_by, Items, no_items, items_with, items_within, items_from}
use Rattle.cap_io.specs.Laws.{EachHasCut, EachHasOneCut, CutTellsItems}
use Rattle.cap_io.proofs.Units.{front_of-unit, front_of-is}

-- ---- a unit has a byte at least

front-sized : (b : Declared) (text : List ℕ) (size : ℕ) (ps : List Captured) (d : Declared) → front_of b text ≡ Whole size ps d → (0 < size) × (0 < length text)
front-sized b text size ps d e = let f = front_of-is b text size ps d e in (f.some, omega (arith, f.some, f.there))

-- ---- more units than there can be change nothing

enough-at : (m n : ℕ) (f : Front) (b : Declared) (at : ℕ) (text : List ℕ) → length text < suc m → length text < suc n
    → ((size : ℕ) (ps : List Captured) (d : Declared) → f ≡ Whole size ps d → (0 < size) × (0 < length text))
    → ((d : Declared) (at' : ℕ) (xs : List ℕ) → length xs < m → length xs < n → items_within m d at' xs ≡ items_within n d at' xs)
    → items_with f b at (λ size d. items_within m d (at + size) (drop size text)) ≡ items_with f b at (λ size d. items_within n d (at + size) (drop size text))
enough-at m n f b at text l r sized same = grind (arith, placed_at, length-drop)

enough : (m n : ℕ) (b : Declared) (at : ℕ) (text : List ℕ) → length text < m → length text < n → items_within m b at text ≡ items_within n b at text
unfolding items_within
enough zero n b at text l r = absurd (omega arith)
enough (suc m) zero b at text l r = absurd (omega arith)
enough (suc m) (suc n) b at text l r =
    enough-at m n (front_of b text) b at text l r (λ size ps d e. front-sized b text size ps d e) (λ d at' xs l' r'. enough m n d at' xs l' r')

-- ---- one unit

items_from-step : (b : Declared) (at : ℕ) (text : List ℕ)
    → items_from b at text ≡ items_with (front_of b text) b at (λ size d. items_within (length text) d (at + size) (drop size text))
unfolding items_within items_from
items_from-step b at text = let e : length text + 1 ≡ suc (length text) = omega arith in rw e refl

pub items_from-stops : (b : Declared) (at : ℕ) (text : List ℕ) (why : Option Fault) → front_of b text ≡ NoUnit why → items_from b at text ≡ no_items b why at
items_from-stops b at text why e = items_from-step b at text ∙ rw e refl

items_from-whole : (b d : Declared) (at : ℕ) (text : List ℕ) (size : ℕ) (ps : List Captured) → front_of b text ≡ Whole size ps d
    → items_from b at text ≡ after_packets (placed_at at ps) (items_from d (at + size) (drop size text))
unfolding items_from
items_from-whole b d at text size ps e =
    let p = front-sized b text size ps d e in
    grind (arith, items_from-step, placed_at, enough, length-drop)

pub items_from-unit : {b c : Declared} {u : List ℕ} {qs : List Captured} → IsUnit b u qs c → (at : ℕ) (rest : List ℕ)
    → items_from b at (u ++ rest) ≡ after_packets (placed_at at qs) (items_from c (at + length u) rest)
items_from-unit {b} {c} {u} {qs} one at rest =
    items_from-whole b c at (u ++ rest) (length u) qs (front_of-unit one rest) ∙ rw (drop_at u rest (length u) refl) refl

-- ---- many units

after-after : (qs ps : List Placed) (i : Items) → after_packets qs (after_packets ps i) ≡ after_packets (qs ++ ps) i
after-after qs ps i = ap (λ (l : List Placed). record { packets = l; declared = i.declared; ending = i.ending }) (sym (append_assoc qs ps i.packets))

pub items_from-units : {b c : Declared} {at : ℕ} {text : List ℕ} {ps : List Placed} → AreUnits b at text ps c → (rest : List ℕ)
    → items_from b at (text ++ rest) ≡ after_packets ps (items_from c (at + length text) rest)
items_from-units no_unit rest = rw add-zero refl
items_from-units {c = c} {at = at} (unit_then {u = u} {more = more} {qs = qs} {ps = ps} one units) rest =
    let place : at + length u + length more ≡ at + length (u ++ more) = simp length-append (omega arith) in
    let split : (u ++ more) ++ rest ≡ u ++ (more ++ rest) = append_assoc u more rest in
    ap (items_from _ at) split
    ∙ items_from-unit one at (more ++ rest)
    ∙ ap (after_packets (placed_at at qs)) (items_from-units units rest)
    ∙ after-after (placed_at at qs) ps (items_from c (at + length u + length more) rest)
    ∙ ap (λ n. after_packets (placed_at at qs ++ ps) (items_from c n rest)) place

-- units after units
pub AreUnits-append : {b c d : Declared} {at : ℕ} {xs ys : List ℕ} {ps qs : List Placed}
    → AreUnits b at xs ps c → AreUnits c (at + length xs) ys qs d → AreUnits b at (xs ++ ys) (ps ++ qs) d
AreUnits-append no_unit later = rw add-zero at later
AreUnits-append {at = at} {ys = ys} {qs = qs'} (unit_then {u = u} {more = more} {qs = qs} {ps = ps} one units) later =
    let place : at + length (u ++ more) ≡ at + length u + length more = simp length-append (omega arith) in
    rw (append_assoc u more ys, append_assoc (placed_at at qs) ps qs') (unit_then one (AreUnits-append units (rw place at later)))

-- nothing of a rest is a unit where it stops
pub no_unit_in : (declared : Declared) (rest : List ℕ) (why : Option Fault) → front_of declared rest ≡ NoUnit why
    → (u more : List ℕ) (qs : List Captured) (d : Declared) → IsUnit declared u qs d → rest ≡ u ++ more → ⊥
no_unit_in declared rest why stops u more qs d one splits = grind (arith, front_of, front_of-unit)

-- a rest without a unit stops
pub stops_for : (declared : Declared) (rest : List ℕ) (front : Front) → front_of declared rest ≡ front
    → ((u more : List ℕ) (qs : List Captured) (d : Declared) → IsUnit declared u qs d → rest ≡ u ++ more → ⊥)
    → (why : Option Fault) × (front_of declared rest ≡ NoUnit why)
stops_for declared rest (NoUnit why) is last = (why, is)
stops_for declared rest (Whole size packets after) is last =
    let f = front_of-is declared rest size packets after is in
    absurd (last (take size rest) (drop size rest) packets after f.unit (sym (take-append-drop size rest)))

-- ---- one

record Same {X : Type 0} (one other following following' : List ℕ) (ps qs : List X) (c d : Declared) : Type 0 where
  bytes : one ≡ other
  rest : following ≡ following'
  packets : ps ≡ qs
  declared : c ≡ d

-- Two first units of the same bytes are equal.
same_unit : {b c d : Declared} {u v : List ℕ} {ps qs : List Captured} → IsUnit b u ps c → IsUnit b v qs d → (x y : List ℕ) → u ++ x ≡ v ++ y
    → Same u v x y ps qs c d
same_unit {b = b} {c = c} {d = d} {u = u} {v = v} {ps = ps} {qs = qs} one other x y same =
    let e : Whole (length u) ps c ≡ Whole (length v) qs d = sym (front_of-unit one x) ∙ ap (front_of b) same ∙ front_of-unit other y in
    let size : length u ≡ length v = cc in
    record {
      bytes = sym (take_at u x (length u) refl) ∙ ap₂ take size same ∙ take_at v y (length v) refl;
      rest = sym (drop_at u x (length u) refl) ∙ ap₂ drop size same ∙ drop_at v y (length v) refl;
      packets = cc;
      declared = cc;
    }

abbrev Last : Declared → List ℕ → Type 0
Last declared rest = (u more : List ℕ) (qs : List Captured) (d : Declared) → IsUnit declared u qs d → rest ≡ u ++ more → ⊥

same_units : {b c d : Declared} {at : ℕ} {us vs : List ℕ} {ps qs : List Placed} → AreUnits b at us ps c → AreUnits b at vs qs d → (x y : List ℕ) → us
    ++ x ≡ vs ++ y → Last c x → Last d y → Same us vs x y ps qs c d
same_units no_unit no_unit x y same last_x last_y = grind arith
same_units no_unit (unit_then {u = v} {more = more} one units) x y same last_x last_y =
    absurd (last_x v (more ++ y) _ _ one (same ∙ append_assoc v more y))
same_units (unit_then {u = u} {more = more} one units) no_unit x y same last_x last_y =
    absurd (last_y u (more ++ x) _ _ one (sym same ∙ append_assoc u more x))
same_units {at = at} (unit_then {c = c} {u = u} {more = more} {qs = qs} {ps = ps} one units)
    (unit_then {c = c'} {u = v} {more = more'} {qs = rs} {ps = ps'} other units') x y same last_x last_y =
    let front : Same u v (more ++ x) (more' ++ y) qs rs c c' = same_unit one other (more ++ x) (more' ++ y)
    (sym (append_assoc u more x) ∙ same ∙ append_assoc v more' y) in
    let later = same_units units (rw (front.declared, front.bytes) units') x y front.rest last_x last_y in
    record {
      bytes = ap₂ (λ (a b : List ℕ). a ++ b) front.bytes later.bytes;
      rest = later.rest;
      packets = ap₂ (λ (a : List Captured) (b : List Placed). placed_at at a ++ b) front.packets later.packets;
      declared = later.declared;
    }

pub one_cut : EachHasOneCut
one_cut text one other = grind (arith, same_units)

-- ---- the items that a cut shows

pub cut_tells : CutTellsItems
cut_tells text c =
    let stop = stops_for c.declared c.rest (front_of c.declared c.rest) refl c.cut.last in
    record {
      why = stop.0;
      stops = stop.1;
      items = ap items c.cut.joined ∙ items_from-units c.cut.units c.rest
          ∙ ap (after_packets c.packets) (items_from-stops c.declared (0 + length c.done) c.rest stop.0 stop.1)
          ∙ ap₂ (λ (l : List Placed) (n : ℕ). record { packets = l; declared = c.declared; ending = ending_by stop.0 n }) (append-nil c.packets)
          (zero-add (length c.done));
    }

-- ---- some

record Units (declared : Declared) (at : ℕ) (text : List ℕ) : Type 0 where
  done : List ℕ
  rest : List ℕ
  packets : List Placed
  after : Declared
  joined : text ≡ done ++ rest
  units : AreUnits declared at done packets after
  last : Last after rest

-- given the units after the first
units_by : (most : ℕ) (declared : Declared) (at : ℕ) (text : List ℕ) (front : Front) → front_of declared text ≡ front → length text ≤ most
    → ((after : Declared) (at' : ℕ) (more : List ℕ) → length more < most → Units after at' more) → Units declared at text
units_by most declared at text (NoUnit why) is enough following = record {
  done = [];
  rest = text;
  packets = [];
  after = declared;
  joined = refl;
  units = no_unit;
  last = no_unit_in declared text why is;
}
units_by most declared at text (Whole size packets after) is enough following =
    let f = front_of-is declared text size packets after is in
    let more = following after (at + length (take size text)) (drop size text) (simp length-drop (omega (arith, f.some, f.there))) in
    record {
      done = take size text ++ more.done;
      rest = more.rest;
      packets = placed_at at packets ++ more.packets;
      after = more.after;
      joined = sym (take-append-drop size text) ∙ ap (λ (l : List ℕ). take size text ++ l) more.joined
          ∙ sym (append_assoc (take size text) more.done more.rest);
      units = unit_then f.unit more.units;
      last = more.last;
    }

units_within : (most : ℕ) (declared : Declared) (at : ℕ) (text : List ℕ) → length text < most → Units declared at text
units_within zero declared at text enough = absurd (omega arith)
units_within (suc most) declared at text enough = grind (arith, units_by, front_of, (units_within most))

pub has_cut : EachHasCut
has_cut text =
    let all = units_within (length text + 1) Nothing 0 text (omega arith) in
    grind arith

-- Units that hold packets and end cleanly read back as these packets.
use Rattle.cap_io.proofs.Common.{arith, append_assoc, append-nil, map-append, AllByRecursion, Captured, Declared, ReadsBack}
use Rattle.std.proofs.Common.{◌≡◌, ℕ, ◌+◌, List, [], ◌∷◌, ◌++◌, length, map, None, refl, sym, ap, ap₂, ◌∙◌}
use Rattle.cap_io.specs.Capture.{Nothing, IsUnit, Placed, placed_at, AreUnits, no_unit, unit_then, NoUnit, front_of, End, items, after_packets}
use Rattle.cap_io.proofs.Cuts.{items_from-units, items_from-stops}

-- what is declared, from a place on
pub record Holds (declared : Declared) (at : ℕ) (text : List ℕ) (ps : List Captured) : Type 0 where
  pub placed : List Placed
  pub after : Declared
  pub units : AreUnits declared at text placed after
  pub packets : map (λ (q : Placed). q.packet) placed ≡ ps
  pub ends : front_of after [] ≡ NoUnit None

packets-placed_at : (at : ℕ) (qs : List Captured) → map (λ (q : Placed). q.packet) (placed_at at qs) ≡ qs
packets-placed_at at [] = refl
packets-placed_at at (q ∷ qs) = ap (λ (l : List Captured). q ∷ l) (packets-placed_at at qs)

pub holds-none : (declared : Declared) (at : ℕ) → front_of declared [] ≡ NoUnit None → Holds declared at [] []
holds-none declared at ends = record { placed = []; after = declared; units = no_unit; packets = refl; ends = ends }

pub holds-unit : {b c : Declared} {u : List ℕ} {qs : List Captured} → IsUnit b u qs c → (at : ℕ) (more : List ℕ) (ps : List Captured)
    → Holds c (at + length u) more ps → Holds b at (u ++ more) (qs ++ ps)
holds-unit {qs = qs} unit at more ps later = record {
  placed = placed_at at qs ++ later.placed;
  after = later.after;
  units = unit_then unit later.units;
  packets =
      map-append (λ (q : Placed). q.packet) (placed_at at qs) later.placed
      ∙ ap₂ (λ (l m : List Captured). l ++ m) (packets-placed_at at qs) later.packets;
  ends = later.ends;
}

pub reads-back : (text : List ℕ) (ps : List Captured) → Holds Nothing 0 text ps → ReadsBack text ps
reads-back text ps holds =
    let all : items text ≡ after_packets holds.placed (record { packets = []; declared = holds.after; ending = End }) =
    ap items (sym (append-nil text))
    ∙ items_from-units holds.units []
    ∙ ap (after_packets holds.placed) (items_from-stops holds.after (0 + length text) [] None holds.ends) in
    grind (arith, append-nil)

-- what is true of each packet after those before it is also true of those after some
pub each-following : (Q : Captured → Type 0) (all : List Captured) → ((earlier : List Captured) (p : Captured) (later : List Captured) → all ≡ earlier
    ++ p ∷ later → Q p)
    → (earlier ps : List Captured) → all ≡ earlier ++ ps → AllByRecursion Q ps
each-following Q all each earlier [] is = tt
each-following Q all each earlier (p ∷ ps) is =
    (each earlier p ps is, each-following Q all each (earlier ++ p ∷ []) ps (is ∙ sym (append_assoc earlier (p ∷ []) ps)))

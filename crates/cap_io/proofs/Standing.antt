-- The position of a source in its capture, from one call to the next.
use Rattle.std.proofs.Common.{◌≡◌, ℕ, ◌+◌, ◌-◌, ◌<◌, ◌⊎◌, inl, inr, Bool, true, false, List, [], ◌∷◌, ◌++◌, length, Option, Some, refl, sym, ◌∙◌, ap, add-zero}
use Rattle.std.proofs.Common.{zero-add, Result, Ok}
use Rattle.cap_io.proofs.Common.{arith, append_assoc, append-nil, length-append, length-drop, Fault, ReadFailed, NoMemory, Declared}
use Rattle.cap_io.specs.Capture.{Nothing, Placed, placed_at, AreUnits, no_unit, items, after_packets, ending_by, FaultAt, front_of, NoUnit, items_from}
use Rattle.cap_io.specs.Source.{SourceView, Phase, Reading, Ended, Failed, source_at, SkipsUnits, FindsPacket, FindsEnd, FindsFault, Advances, Finds}
use Rattle.cap_io.specs.Reading.{FitUnits, no_unit_fits, decisive_length}
use Rattle.cap_io.proofs.Cuts.{AreUnits-append, items_from-units, items_from-stops}
use Rattle.cap_io.proofs.Units.{FitUnits-append, FitUnits-wider, held_length-le, one_unit_fits, one_unit}
use Rattle.cap_io.specs.Position.{IsAt, IsCutShort, MemoryEndsAt, given_in_all}

ended_twice : Reading ≡ Ended → ⊥
ended_twice e = (cc)

failed_twice : (fault : Fault) → Reading ≡ Failed fault → ⊥
failed_twice fault e = (cc)

-- nothing is read yet
pub IsAt-start : (text : List ℕ) (given failures : ℕ) (sure : Option ℕ) → IsAt text [] [] false (source_at text given failures sure)
IsAt-start text given failures sure = record {
  whole = refl;
  units = no_unit;
  place = refl;
  waits = λ e. absurd (cc);
  ended = λ e. absurd (ended_twice e);
  sound = λ fault e. failed_twice fault e;
  fit = no_unit_fits;
  held = omega arith;
}

-- the packet in hand is decided
pub IsAt-decided : (text done : List ℕ) (packets : List Placed) (s : SourceView) (at : IsAt text done packets true s)
    → (s.offset ≡ length done) × IsAt text (done ++ s.block) (packets ++ record { offset = s.offset; packet = (at.waits refl).packet } ∷ []) false s
IsAt-decided text done packets s at =
    let has = at.waits refl in
    let offset : s.offset ≡ length done = omega (arith, at.place, length-append done s.block) in
    let unit : AreUnits s.declared (length done) s.block (placed_at (length done) (has.packet ∷ [])) s.declared = one_unit has.unit in (
      offset,
      record {
        whole = at.whole ∙ sym (append_assoc done s.block s.unread);
        units = rw offset (AreUnits-append at.units (rw zero-add unit));
        place = at.place ∙ ap length (sym (append-nil (done ++ s.block)));
        waits = λ e. absurd (cc);
        ended = λ e. absurd (ended_twice (sym has.phase ∙ e));
        sound = at.sound;
        fit = FitUnits-append at.fit (grind (arith, one_unit_fits, held_length-le));
        held = at.held;
      },
    )

-- what an advance of a source that met no fault finds
pub Advances-sound : (text done : List ℕ) (packets : List Placed) (s s' : SourceView) (r : Result Bool Fault)
    → IsAt text done packets false s → Advances s.phase s r s' → Finds s r s'
Advances-sound text done packets s s' r at advances = by_phase s.phase refl advances
  where
    stays : s.phase ≡ Ended → (r ≡ Ok false) × (s' ≡ s) → Finds s r s'
    stays e same =
        let over = at.ended e in
        rw (same.0, same.1) (record {
          passes = record {
            passed = [];
            splits = over.unread;
            units = no_unit;
            offset = rw over.block (simp (add-zero));
            room = omega arith;
            fit =
                no_unit_fits;
          };
          ends = over.ends;
          unread = over.unread;
          block = over.block;
          packet = over.packet;
          phase = e;
        })

    by_phase : (phase : Phase) → s.phase ≡ phase → Advances phase s r s' → Finds s r s'
    by_phase Reading e advances = advances
    by_phase Ended e advances = stays e advances
    by_phase (Failed fault) e advances = absurd (at.sound fault e)

-- the bytes that a source has skipped are done
passed-units : (text done : List ℕ) (packets : List Placed) (s s' : SourceView) (rest : List ℕ) → IsAt text done packets false s
    → (passes : SkipsUnits s s' rest)
    → AreUnits Nothing 0 (done ++ passes.passed) packets s'.declared
passed-units text done packets s s' rest at passes =
    let place : s.offset + length s.block ≡ length done = at.place ∙ ap length (append-nil done) in
    let units : AreUnits Nothing 0 (done ++ passes.passed) (packets ++ []) s'.declared =
    AreUnits-append at.units (rw (zero-add, ← place) passes.units) in
    rw (append-nil packets) at units

passed-fit : (text done : List ℕ) (packets : List Placed) (s s' : SourceView) (rest : List ℕ) → IsAt text done packets false s → (passes : SkipsUnits s s' rest)
    → FitUnits s'.room Nothing (done ++ passes.passed) s'.declared
passed-fit text done packets s s' rest at passes = FitUnits-append (FitUnits-wider passes.room at.fit) passes.fit

passed-place : (text done : List ℕ) (packets : List Placed) (s s' : SourceView) (rest : List ℕ) → IsAt text done packets false s
    → (passes : SkipsUnits s s' rest)
    → s'.offset ≡ length (done ++ passes.passed)
passed-place text done packets s s' rest at passes = grind (arith, append-nil, length-append)

passed-whole : (text done : List ℕ) (packets : List Placed) (s s' : SourceView) (rest : List ℕ) → IsAt text done packets false s
    → (passes : SkipsUnits s s' rest)
    → text ≡ (done ++ passes.passed) ++ rest
passed-whole text done packets s s' rest at passes =
    at.whole ∙ ap (λ (x : List ℕ). done ++ x) passes.splits ∙ sym (append_assoc done passes.passed rest)

-- the next packet is in hand
pub IsAt-found : (text done : List ℕ) (packets : List Placed) (s s' : SourceView) → IsAt text done packets false s → (finds : FindsPacket s s')
    → IsAt text (done ++ finds.passes.passed) packets true s'
IsAt-found text done packets s s' at finds = record {
  whole = passed-whole text done packets s s' (s'.block ++ s'.unread) at finds.passes;
  units = passed-units text done packets s s' (s'.block ++ s'.unread) at finds.passes;
  place =
      ap (λ n. n + length s'.block) (passed-place text done packets s s' (s'.block ++ s'.unread) at finds.passes)
      ∙ sym (length-append (done ++ finds.passes.passed) s'.block);
  waits = grind arith;
  ended = λ e. absurd (ended_twice (sym finds.phase ∙ e));
  sound = λ fault e. failed_twice fault (sym finds.phase ∙ e);
  fit = passed-fit text done packets s s' (s'.block ++ s'.unread) at finds.passes;
  held = finds.fits;
}

-- the clean end is met: all bytes are done
pub IsAt-closed : (text done : List ℕ) (packets : List Placed) (s s' : SourceView) → IsAt text done packets false s → (finds : FindsEnd s s')
    → IsAt text (done ++ finds.passes.passed) packets false s'
IsAt-closed text done packets s s' at finds = record {
  whole = passed-whole text done packets s s' [] at finds.passes ∙ ap (λ (x : List ℕ). (done ++ finds.passes.passed) ++ x) (sym finds.unread);
  units = passed-units text done packets s s' [] at finds.passes;
  place =
      rw finds.block (add-zero s'.offset ∙ passed-place text done packets s s' [] at finds.passes ∙ ap length (sym (append-nil (done ++ finds.passes.passed))));
  waits = λ e. absurd (cc);
  ended = grind arith;
  sound = grind arith;
  fit = passed-fit text done packets s s' [] at finds.passes;
  held = omega (arith, ap length finds.block);
}

-- ---- the items of the complete capture

-- no unit follows complete ones
pub items-stops : (done rest : List ℕ) (packets : List Placed) (declared : Declared) (why : Option Fault) → AreUnits Nothing 0 done packets declared
    → front_of declared rest ≡ NoUnit why → items (done ++ rest) ≡ record { packets = packets; declared = declared; ending = ending_by why (length done) }
items-stops done rest packets declared why units stops =
    items_from-units units rest
    ∙ ap (after_packets packets) (items_from-stops declared (0 + length done) rest why stops)
    ∙ rw (append-nil packets, zero-add) refl

-- complete units, and then more
pub items-begin : (done rest : List ℕ) (packets : List Placed) (declared : Declared) → AreUnits Nothing 0 done packets declared
    → items (done ++ rest) ≡ after_packets packets (items_from declared (length done) rest)
items-begin done rest packets declared units = items_from-units units rest ∙ rw zero-add refl

-- the first packets of the complete capture are those that are done, and the one that waits
pub IsAt-items : (text done : List ℕ) (packets : List Placed) (s : SourceView) (at : IsAt text done packets true s)
    → items text ≡ after_packets (packets ++ record { offset = s.offset; packet = (at.waits refl).packet } ∷ [])
    (items_from s.declared (length (done ++ s.block)) s.unread)
IsAt-items text done packets s at =
    let decided = IsAt-decided text done packets s at in
    grind (arith, items-begin)

-- why there was no unit: the text has a fault there; or it is cut short by a failed read or because
-- memory runs out
pub record FaultyText (text : List ℕ) (packets : List Placed) (s' : SourceView) (fault : Fault) : Type 0 where
  pub items : items text ≡ record { packets = packets; declared = s'.declared; ending = FaultAt fault s'.offset }

pub record CutText (text : List ℕ) (packets : List Placed) (s s' : SourceView) (fault : Fault) : Type 0 where
  pub cut : IsCutShort text fault (record { packets = packets; declared = s'.declared; ending = FaultAt fault s'.offset })
  pub why : ((fault ≡ ReadFailed) × (s'.given + length text < given_in_all s + length cut.done + decisive_length s'.declared cut.rest))
      ⊎ ((fault ≡ NoMemory) × MemoryEndsAt cut.done cut.rest s'.declared)

pub IsAt-fault : (text done : List ℕ) (packets : List Placed) (s s' : SourceView) (fault : Fault) → IsAt text done packets false s → FindsFault s s' fault
    → FaultyText text packets s' fault ⊎ CutText text packets s s' fault
IsAt-fault text done packets s s' fault at finds =
    let passes = finds.broken.passes in
    let rest = finds.broken.rest in
    let units = passed-units text done packets s s' rest at passes in
    let whole = passed-whole text done packets s s' rest at passes in
    let offset = passed-place text done packets s s' rest at passes in
    let cut : IsCutShort text fault (record { packets = packets; declared = s'.declared; ending = FaultAt fault s'.offset }) =
    record { done = done ++ passes.passed; rest = rest; joined = whole; units = units; ending = ap (FaultAt fault) offset } in
    elim finds.broken.why [
      | inl stops ↦ inl (record { items = rw (offset, whole) (items-stops (done ++ passes.passed) rest packets s'.declared (Some fault) units stops) })
      | inr other ↦ inr (record {
        cut = cut;
        why = elim other [
          | inl failed ↦ inl (failed, few failed)
          | inr memory ↦ inr (memory, record { room = s'.room; fit = passed-fit text done packets s s' rest at passes; takes = finds.broken.memory memory })
        ];
      })
    ]
  where
    -- fewer bytes of the remainder were read than decide what is there
    few : fault ≡ ReadFailed → s'.given + length text < given_in_all s + length (done ++ finds.broken.passes.passed) + decisive_length s'.declared
        finds.broken.rest
    few failed =
        let taken = finds.broken.taken in
        let left : length s'.unread ≡ length finds.broken.rest - taken.count = ap length taken.rest ∙ length-drop taken.count finds.broken.rest in
        let long : length text ≡ length (done ++ finds.broken.passes.passed) + length finds.broken.rest =
        ap length (passed-whole text done packets s s' finds.broken.rest at finds.broken.passes) ∙ length-append (done ++ finds.broken.passes.passed)
        finds.broken.rest in
        omega (arith, left, long, taken.there, taken.unfinished failed, finds.broken.counted)

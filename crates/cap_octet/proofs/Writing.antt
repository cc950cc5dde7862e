-- What has been written when a write of several parts stops.
use Rattle.std.proofs.Common.{◌≡◌, ℕ, ◌+◌, ◌<◌, List, ◌++◌, length, take, drop, get_or, Err, ap, sym, ◌∙◌, arith, length-append}
use Rattle.std.proofs.lemmas.List.{append_assoc, take-append-le, take-append-drop, drop_more}
use Rattle.cap_octet.specs.{Device.Stops, Device.WritesAll, declared.device.Stopped.Stopped}
use Rattle.std.{specs.List.flat_map, proofs.Math.Seq.take-append-add, proofs.lemmas.Grind.flat_map-append}

-- a part that stopped after others, and that more would have followed
stops-at : (old mid new done part more : List ℕ) (stopped : Stopped) → mid ≡ old ++ done → stopped.written < length part
    → WritesAll mid part (Err stopped) new → new ≡ old ++ take (length done + stopped.written) (done ++ (part ++ more))
stops-at old mid new done part more stopped first less second =
    grind (arith, append_assoc, take-append-le, take-append-add)

pub stops-part : (old mid new done part more : List ℕ) (stopped : Stopped) → mid ≡ old ++ done
    → stopped.written < length part → WritesAll mid part (Err stopped) new → Stops old (done ++ (part ++ more)) new
stops-part old mid new done part more stopped first less second = (
  length done + stopped.written,
  omega (arith, length-append done (part ++ more), length-append part more),
  stops-at old mid new done part more _ first less second,
)

-- the parts before, at and after a place
pub parts_at : {X : Type 0} (f : X → List ℕ) (parts : List X) (i : ℕ) (d : X) → i < length parts
    → flat_map f parts ≡ flat_map f (take i parts) ++ (f (get_or parts i d) ++ flat_map f (drop (i + 1) parts))
parts_at f parts i d within =
    ap (flat_map f) (sym (take-append-drop i _))
    ∙ flat_map-append f _ _
    ∙ ap (λ l. flat_map f (take i parts) ++ flat_map f l) (drop_more _ i d within)

-- a part that stopped after the ones before it
pub parts-stop : {X : Type 0} (f : X → List ℕ) (parts : List X) (i : ℕ) (d : X) (old mid new : List ℕ) (stopped : Stopped)
    → i < length parts → mid ≡ old ++ flat_map f (take i parts)
    → stopped.written < length (f (get_or parts i d)) → WritesAll mid (f (get_or parts i d)) (Err stopped) new → Stops old (flat_map f parts) new
parts-stop f parts i d old mid new stopped within first less second =
    rw (parts_at f _ i d within) (stops-part old mid new _ _ _
    _ first less second)

-- the same, with how many bytes there are up to where it stopped
pub parts-stop-at : {X : Type 0} (f : X → List ℕ) (parts : List X) (i : ℕ) (d : X) (before : ℕ) (old mid new : List ℕ) (stopped : Stopped)
    → i < length parts → before ≡ length (flat_map f (take i parts)) → mid ≡ old ++ flat_map f (take i parts)
    → stopped.written < length (f (get_or parts i d)) → WritesAll mid (f (get_or parts i d)) (Err stopped) new
    → new ≡ old ++ take (before + stopped.written) (flat_map f parts)
parts-stop-at f parts i d before old mid new stopped within before_is first less second =
    rw (parts_at f _ i d within, before_is)
    (stops-at old mid new _ _ _ _ first less second)

-- Two reads after each other are one longer read, and two writes one longer write.
use Rattle.std.proofs.Common.{◌≡◌, ℕ, ◌+◌, ◌-◌, ◌<◌, ◌≤◌, Bool, true, false, if◌then◌else◌, List, ◌++◌, length, take, drop, sym, ◌∙◌, ap, arith, subst, Option}
use Rattle.std.proofs.Common.{None, Some}
use Rattle.cap_octet.proofs.Common.{length-take}
use Rattle.std.proofs.lemmas.List.{drop-drop, drop_at, take_at, append-nil, append_assoc, take-take, take_all, drop-append-le, take-append-drop, length-drop}
use Rattle.cap_octet.specs.Device.{Takes, TakesSome, TakesFull}
use borrow.Rule.Slice.PartMut.{put_mid, mid_of}
use Rattle.std.proofs.Math.{Seq.take-add, ListN.drop_of_length-le}
use Rattle.std.specs.Io.{BufRead.DropsConsumable, KnownBytes.Consumes, KnownBytes.prepend_known}

-- the bytes after the first c ones of the buffer, after the first c were read
following : (u b : List ℕ) (c : ℕ) → c ≤ length u → drop c (take c u ++ drop c b) ≡ drop c b
following u b c h = drop_at _ _ c (length-take c u ∙ omega arith)

front : (u b : List ℕ) (c : ℕ) → c ≤ length u → take c (take c u ++ drop c b) ≡ take c u
front u b c h = take_at _ _ c (length-take c u ∙ omega arith)

pub joined : (u b : List ℕ) (c k n : ℕ) → c ≤ length u → length (drop c b) ≤ k
    → put_mid c k (take c u ++ drop c b) (take n (drop c u) ++ drop n (mid_of c k (take c u ++ drop c b))) ≡ take (c + n) u ++ drop (c + n) b
joined u b c k n h l =
    simp (front, following, drop_of_length-le, take_all, drop-drop, take-add, append_assoc, append-nil)

-- what was read into the remainder of a buffer was read into the buffer
pub Takes-following : (u b u1 b1 : List ℕ) (c k n : ℕ) (u2 p : List ℕ) → Takes u b c u1 b1 → Takes u1 (mid_of c k b1) n u2 p
    → c + k ≡ length b → c ≤ length b → Takes u b (c + n) u2 (put_mid c k b1 p)
Takes-following u b u1 b1 c k n u2 p first next e h =
    grind (arith, length-drop, joined, drop-drop)

-- the end of a full read: the buffer is full, or no bytes were read
pub Takes-nothing : (u b u1 b1 : List ℕ) (c k n : ℕ) (u2 p : List ℕ) → Takes u b c u1 b1 → TakesSome u1 (mid_of c k b1) n u2 p
    → c + k ≡ length b → 0 < k → n ≡ 0 → length b1 ≡ length b → TakesFull u b c u2 (put_mid c k b1 p)
Takes-nothing u b u1 b1 c k n u2 p first next e pos zero same =
    let again = Takes-following u b u1 b1 c k n u2 p first next.taken e (omega arith) in
    let c0 : c + n ≡ c = omega arith in
    let mid : length (mid_of c k b1) ≡ k = length-take k _ ∙ (simp length-drop (omega arith)) in
    let ended = next.at_end zero (omega arith) in
    let q = ap length first.rest ∙ length-drop c u in
    let q0 = ap length ended in
    record {
      taken = let P : ℕ → Type 0 = λ m. Takes u b m u2 (put_mid c k b1 p) in subst P c0 again;
      full = omega arith;
    }

-- one write after another
pub written-again : (w b w1 w2 : List ℕ) (c n k : ℕ) → w1 ≡ w ++ take c b → w2 ≡ w1 ++ take n (take k (drop c b)) → n ≤ k → w2 ≡ w ++ take (c + n) b
written-again w b w1 w2 c n k first next le =
    next ∙ (rw (first, take-take, take-add) (simp append_assoc))

-- A read that takes bytes from a reader's own buffer takes them from what remains of it; if the
-- device's buffer has no room, nothing is known.
pub held-consumed : (without : Bool) (held : List ℕ) (known after : Option (List ℕ)) (n : ℕ) → n ≤ length held
    → DropsConsumable (if without then None else prepend_known held known) after (Some (length held)) n
    → Consumes (if without then None else prepend_known held known) after (take n held)
held-consumed true held known after n within drops = tt
held-consumed false held None after n within drops = tt
held-consumed false held (Some xs) after n within drops =
    let parts =
    sym (append_assoc _ _ xs) ∙ ap (λ x. x ++ xs) (take-append-drop n held) in
    rw drops (rw drop-append-le (sym parts))

-- what was given is no longer unread
pub told-again : (t0 : ℕ) (u b : List ℕ) (g g' n : ℕ) (u' b' : List ℕ) → TakesSome u b n u' b' → g' ≡ g + n → g + length u ≡ t0 → g' + length u' ≡ t0
told-again t0 u b g g' n u' b' came counted before =
    grind (arith, length-drop)

-- The index of the window stays sound when a mark is added, when the oldest is dropped, and when
-- all are renumbered.
use Rattle.std.proofs.Common.{◌≡◌, ◌≢◌, ℕ, zero, suc, ◌+◌, ◌-◌, ◌^◌, ◌<◌, ◌≤◌, inl, inr, List, [], ◌∷◌, ◌++◌, length, get_or, drop, refl, sym, ap, ◌∙◌, arith}
use Rattle.std.proofs.Common.{set, length-append, length-drop, eq-zero-or-pos}
use Rattle.std.proofs.lemmas.List.{get_or-append_right, get_or-set_other, get_or-set_same, length-set, get_or_default}
use Rattle.cap_process.specs.inside.Index.{IsHung, IsIndex, IsPutOnTop, IsSoundIndex, IsWay, Ends, Goes, Agrees, hash_of, mark_at}
use Rattle.cap_process.proofs.Trees.{appended, dropped, raised, relinked}
use Rattle.std.proofs.lemmas.{Nat.and_le_r, Bool.cases_order, Grind.get_or-set_at}
use Rattle.cap_process.specs.{Marks.last, declared.links.Links.Links, declared.mark.Mark.Mark}

-- the newest mark is in no tree yet
pub record IsAwaiting (mask : ℕ) (ms : List Mark) (ls : List Links) (heads : List ℕ) (newest : ℕ) (m : Mark) : Type 0 where
  pub long : length ls ≡ length ms
  pub some : 0 < length ms
  pub there : mark_at ms (length ms - 1) ≡ m
  pub trees : (e : Mark) → IsWay mask ms ls e 0 (length ms - 1) (newest + 1 - get_or heads (hash_of mask e) 0)

awaiting_append : (mask : ℕ) (ms : List Mark) (ls : List Links) (heads : List ℕ) (newest : ℕ) (m : Mark) (l : Links) → IsIndex mask ms ls heads newest
    → IsAwaiting mask (ms ++ m ∷ []) (ls ++ l ∷ []) heads newest m
awaiting_append mask ms ls heads newest m l i =
    let more : length (ms ++ m ∷ []) ≡ length ms + 1 = length-append ms (m ∷ []) in
    let more_links : length (ls ++ l ∷ []) ≡ length ls + 1 = length-append ls (l ∷ []) in
    let place : length (ms ++ m ∷ []) - 1 ≡ length ms = omega arith in
    record {
      long = omega (arith, i.long);
      some = omega arith;
      there = grind (arith, get_or-append_right);
      trees = λ e. rw place (appended m l i.long (omega arith) (i.trees e));
    }

-- the oldest goes, or none
awaiting_keep : (k : ℕ) (mask : ℕ) (ms : List Mark) (ls : List Links) (heads : List ℕ) (newest : ℕ) (m : Mark) → k ≤ 1 → k < length ms
    → IsAwaiting mask ms ls heads newest m → IsAwaiting mask (drop k ms) (drop k ls) heads newest m
awaiting_keep zero mask ms ls heads newest m upper_bound some a = a
awaiting_keep (suc zero) mask (first ∷ ms) [] heads newest m upper_bound some a = grind arith
awaiting_keep (suc zero) mask (first ∷ ms) (l ∷ ls) heads newest m upper_bound some a = record {
  long = omega (arith, a.long);
  some = omega arith;
  there = grind arith;
  trees = λ e. dropped (length ms - 1) (omega arith) (a.trees e);
}
awaiting_keep _ mask _ ls heads newest m upper_bound some a = absurd (omega arith)

hash_fits : (mask : ℕ) (m : Mark) (heads : List ℕ) → length heads ≡ mask + 1 → hash_of mask m < length heads
hash_fits mask m heads wide = grind (arith, and_le_r)

-- no head has a greater number than the newest mark
pub head_small : (heads : List ℕ) (newest h d head : ℕ) → ((h : ℕ) → h < length heads → get_or heads h 0 ≤ newest) → h < length heads
    → head ≡ get_or heads h d → head ≤ newest
head_small heads newest h d head small inside is = grind (arith, get_or_default)

-- the window without its oldest mark, and with one more
awaiting_push : (mask : ℕ) (ms : List Mark) (most : ℕ) (ls : List Links) (link_most : ℕ) (heads : List ℕ) (newest : ℕ) (m : Mark) (l : Links)
    → IsSoundIndex mask ms most ls link_most heads newest → 0 < length (last most (ms ++ m ∷ []))
    → IsAwaiting mask (last most (ms ++ m ∷ [])) (drop (length (ls ++ l ∷ []) - link_most) (ls ++ l ∷ [])) heads newest m
awaiting_push mask ms most ls link_most heads newest m l s some =
    let a = awaiting_append _ ms ls _ _ m l s.index in
    let more : length (ms ++ m ∷ []) ≡ length ms + 1 = length-append ms (m ∷ []) in
    let k = length (ms ++ m ∷ []) - most in
    let left : length (drop k (ms ++ m ∷ [])) ≡ length (ms ++ m ∷ []) - k = length-drop k (ms ++ m ∷ []) in
    let fits = s.fits in
    rw (s.same_capacity, a.long) (awaiting_keep k _ _ _ _ _ _ (omega arith) (omega arith) a)

pub sound_hung : (mask : ℕ) (ms : List Mark) (most : ℕ) (ls : List Links) (link_most : ℕ) (heads : List ℕ) (newest : ℕ) (m : Mark) (l : Links)
    → IsSoundIndex mask ms most ls link_most heads newest → 0 < length (last most (ms ++ m ∷ []))
    → IsHung mask (last most (ms ++ m ∷ [])) (drop (length (ls ++ l ∷ []) - link_most) (ls ++ l ∷ [])) 0
    (length (last most (ms ++ m ∷ [])) - 1) (newest + 1 - get_or heads (hash_of mask m) 0)
sound_hung mask ms most ls link_most heads newest m l s some e agrees =
    let a = awaiting_push _ _ _ _ _ _ _ m l s some in
    let same : hash_of mask m ≡ hash_of mask e = sym (ap (hash_of mask) a.there) ∙ agrees.hash in
    rw same (a.trees e)

-- each number is smaller by the same, down to 0
pub record IsLowered (old new : List ℕ) (less : ℕ) : Type 0 where
  pub long : length new ≡ length old
  pub each : (h : ℕ) → h < length old → get_or new h 0 ≡ get_or old h 0 - less

-- all get numbers that are smaller by one difference
index_lowered : (mask : ℕ) (ms : List Mark) (ls : List Links) (heads heads' : List ℕ) (newest new : ℕ) → length ms ≤ new → new ≤ newest
    → length heads ≡ mask + 1
    → IsLowered heads heads' (newest - new) → IsIndex mask ms ls heads newest → IsIndex mask ms ls heads' new
index_lowered mask ms ls heads heads' newest new upper_bound less wide l i = record {
  long = i.long;
  counted = upper_bound;
  small = grind arith;
  trees = λ e. (let bound = i.small (hash_of mask e) (hash_fits mask e heads wide) in
      let head = l.each (hash_of mask e) (hash_fits mask e heads wide) in
      raised (length ms) _ (i.trees e) (λ lacks. lacks) (λ near. (omega arith, omega arith, omega arith)) (λ far. omega arith));
}

heads_small : (heads : List ℕ) (x newest : ℕ) → ((h : ℕ) → h < length heads → get_or heads h 0 ≤ newest) → x < length heads
    → (h : ℕ) → h < length (set heads x (newest + 1)) → get_or (set heads x (newest + 1)) h 0 ≤ newest + 1
heads_small heads x newest small inside h lt = grind (arith, get_or-set_at, get_or-set_other, length-set)

-- the newest mark is in its tree
index_placed : (mask : ℕ) (ms : List Mark) (ls new : List Links) (heads : List ℕ) (newest : ℕ) (m : Mark) → IsAwaiting mask ms ls heads newest m
    → length heads ≡ mask + 1 → length new ≡ length ms → length ms ≤ newest + 1 → ((h : ℕ) → h < length heads → get_or heads h 0 ≤ newest)
    → IsPutOnTop mask ms ls new (length ms - 1) → IsIndex mask ms new (set heads (hash_of mask m) (newest + 1)) (newest + 1)
index_placed mask ms ls new heads newest m a wide long counted small placed =
    let x = hash_of mask m in
    let inside : x < length heads = hash_fits mask m heads wide in
    let some : 0 < length ms = a.some in
    record {
      long = long;
      counted = counted;
      small = heads_small heads x newest small inside;
      trees = λ e. elim (cases_order (hash_of mask e) x) [
        | inl same ↦ (let there : get_or (set heads x (newest + 1)) x 0 ≡ newest + 1 = get_or-set_same heads x (newest + 1) 0 inside in
            let one : newest + 1 + 1 - (newest + 1) ≡ 1 = omega arith in
            let agrees : Agrees mask 0 e (mark_at ms (length ms - 1)) = record {
              hash = ap (hash_of mask) a.there ∙ sym same;
              bits =
                  λ i lt. absurd (omega arith);
            } in
            rw (same, there, one)
            (Goes {limit = length ms} {d = 1} (omega arith) (omega arith) agrees (λ lacks j low high. absurd (omega arith)) (placed.below e agrees)))
        | inr apart ↦ (let other : hash_of mask e ≢ x = λ same. elim apart [ inl lt ↦ omega arith | inr gt ↦ omega arith ] in
            let bound = small (hash_of mask e) (hash_fits mask e heads wide) in
            let newest_is = ap (hash_of mask) a.there in
            rw (get_or-set_other heads x (hash_of mask e) (newest + 1) 0 other)
            (raised (length ms) _
            (relinked new (a.trees e) (λ j less is. placed.others j (λ le same. other (sym is.hash ∙ same.hash ∙ newest_is))))
            (λ lacks j low high equal. elim (eq-zero-or-pos (length ms - 1 - j)) [
              | inl newest_place ↦ (let here : j ≡ length ms - 1 = omega arith in other (sym (ap (hash_of mask) (ap (mark_at ms) (sym here) ∙ equal))
                  ∙ newest_is))
              | inr more ↦ absurd (omega arith)
            ])
            (λ near. (omega arith, omega arith, omega arith)) (λ far. omega arith)))
      ];
    }

-- a window without room
index_without : (mask : ℕ) (ms : List Mark) (ls : List Links) (heads : List ℕ) (newest : ℕ) → length heads ≡ mask + 1 → length ms ≡ 0 → length ls ≡ length ms
    → ((h : ℕ) → h < length heads → get_or heads h 0 ≤ newest) → IsIndex mask ms ls heads newest
index_without mask ms ls heads newest wide none long small = record {
  long = long;
  counted = omega arith;
  small = small;
  trees = λ e. (let bound = small (hash_of mask e) (hash_fits mask e heads wide) in Ends (omega arith) (λ lacks j low high. absurd (omega arith)));
}

-- the fields of a window after a mark was added, when the marks kept their numbers or got smaller
-- ones
pub sound_push : (mask : ℕ) (ms : List Mark) (most : ℕ) (ls : List Links) (link_most : ℕ) (heads heads' : List ℕ) (newest : ℕ) (e : Mark) (l : Links)
    (placed : List Links) (new : ℕ)
    → IsSoundIndex mask ms most ls link_most heads newest → IsLowered (set heads (hash_of mask e) (newest + 1)) heads' (newest + 1 - new)
    → length (last most (ms ++ e ∷ [])) ≤ new → new ≤ newest + 1 → new + 1 < 2 ^ 32 → length placed ≡ length (last most (ms ++ e ∷ []))
    → (0 < length (last most (ms ++ e ∷ []))
    → IsPutOnTop mask (last most (ms ++ e ∷ [])) (drop (length (ls ++ l ∷ []) - link_most) (ls ++ l ∷ [])) placed (length (last most (ms ++ e ∷ [])) - 1))
    → IsSoundIndex mask (last most (ms ++ e ∷ [])) most placed link_most heads' new
sound_push mask ms most ls link_most heads heads' newest e l placed new s lowered upper_bound less room long is_placed =
    let kept = last most (ms ++ e ∷ []) in
    let inside : hash_of mask e < length heads = hash_fits mask e heads s.wide in
    let size = length-set heads (hash_of mask e) (newest + 1) in
    let more : length (ms ++ e ∷ []) ≡ length ms + 1 = length-append ms (e ∷ []) in
    let left : length kept ≡ length (ms ++ e ∷ []) - (length (ms ++ e ∷ []) - most) = length-drop (length (ms ++ e ∷ []) - most) (ms ++ e ∷ []) in
    let index : IsIndex mask kept placed (set heads (hash_of mask e) (newest + 1)) (newest + 1) = elim (eq-zero-or-pos (length kept)) [
      | inl none ↦ index_without _ _ _ _ _ (size ∙ s.wide) none long (heads_small heads (hash_of mask e) newest s.index.small inside)
      | inr some ↦ index_placed _ _ _ _ _ _ _ (awaiting_push _ _ _ _ _ _ _ e l s some) s.wide long (omega (arith, upper_bound, less)) s.index.small
          (is_placed some)
    ] in
    record {
      index = index_lowered _ _ _ _ _ _ _ upper_bound less (size ∙ s.wide) lowered index;
      same_capacity = s.same_capacity;
      within = s.within;
      fits = omega arith;
      wide = lowered.long ∙ size ∙ s.wide;
      room = room;
    }

-- a window without marks
pub sound_new : (mask capacity : ℕ) (heads : List ℕ) → capacity + 1 < 2 ^ 32 → length heads ≡ mask + 1 → ((h : ℕ) → h < length heads → get_or heads h 0 ≡ 0)
    → IsSoundIndex mask [] capacity [] capacity heads 0
sound_new mask capacity heads upper_bound wide zeros = record {
  index = index_without _ _ _ _ _ wide refl refl (λ h lt. let zero_head = zeros h lt in omega arith);
  same_capacity = refl;
  within = upper_bound;
  fits = omega arith;
  wide = wide;
  room = omega arith;
}

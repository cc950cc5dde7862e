-- The index stays sound when a mark is added and, in a full window, the oldest is dropped.
use Rattle.std.proofs.Common.{arith, refl, ◌≡◌, ◌∙◌, get_or, set, ◌+◌, ◌-◌, ◌<◌, ◌≤◌, length, take, drop, ◌++◌, List, ℕ}
use Rattle.std.proofs.lemmas.List.{get_or_default, take-append-le, take_all}
use Rattle.cap_process.proofs.Indexes.{IsLowered, head_small, sound_hung, sound_push}
use Rattle.cap_process.specs.{inside.Index.hash_of, declared.links.Links.Links}
use Rattle.cap_process.proofs.window.Window.push.Goals as goal

pub invariant_of-self : goal.invariant_of-self
invariant_of-self g c =
    let w = c.self.inside in
    let hash : c.hash_of-hash.result ≡ hash_of w.mask c.args.mark = c.hash_of-hash.ensures.value in
    let inside : c.hash_of-hash.result < length w.heads.items = omega (arith, c.self.invariant.wide) in
    let head : c.index.result.now ≡ get_or w.heads.items (hash_of w.mask c.args.mark) 0 = c.index.ensures ∙ get_or_default _ _ _ 0 inside ∙ rw hash refl in
    let numbered : List ℕ = set w.heads.items (hash_of w.mask c.args.mark) (w.newest + 1) in
    let written : c.deref_mut.result.now ≡ numbered = c.deref_mut.ensures.value ∙ rw hash refl in
    let long : length c.renumber-self-inside.new.heads ≡ w.heads.len = grind arith in
    let lowered : IsLowered numbered c.renumber-self-inside.new.heads (w.newest + 1 - c.renumber-self-inside.result) = grind arith in
    let heads : List ℕ = c.renumber-self-inside.new.heads in
    let rest : List ℕ = drop (length heads) (set w.heads.items c.hash_of-hash.result (w.newest + 1)) in
    let whole : take w.heads.len (heads ++ rest) ≡ heads =
    grind (arith, take-append-le, take_all) in
    let kept : length c.push_back.new.self.items ≤ c.renumber-self-inside.result = grind arith in
    let step : ℕ = w.newest + 1 - c.index.result.now in
    let l : Links = record { zeros = step; ones = step } in
    let newest : ℕ = w.newest + 1 - get_or w.heads.items (hash_of w.mask c.args.mark) 0 in
    let l' : Links = record { zeros = newest; ones = newest } in
    rw (whole, c.place_newest.ensures.capacity, c.push_back-2.ensures.items, c.push_back.ensures.items)
    (sound_push _ _ _ _ _ _ _ _ c.args.mark l _ _ c.self.invariant lowered
    (rw c.push_back.ensures.items at kept) c.renumber-self-inside.ensures.bounds.1 c.renumber-self-inside.ensures.room
    (grind arith)
    (λ some. let placed = rw (c.push_back.ensures.items, c.push_back-2.ensures.items) at c.place_newest.ensures.placed in
    placed some w.mask
    (rw head (sound_hung _ _ _ _ _ _ _ c.args.mark l' c.self.invariant some))))

pub place_newest-requires-clause-hung : goal.place_newest-requires-clause-hung
place_newest-requires-clause-hung g c = λ some.
    let w = c.self.inside in
    let hash : c.hash_of-hash.result ≡ hash_of w.mask c.args.mark = c.hash_of-hash.ensures.value in
    let inside : c.hash_of-hash.result < length w.heads.items = omega (arith, c.self.invariant.wide) in
    let head : c.index.result.now ≡ get_or w.heads.items (hash_of w.mask c.args.mark) 0 = c.index.ensures ∙ get_or_default _ _ _ 0 inside ∙ rw hash refl in
    let newest : ℕ = w.newest + 1 - get_or w.heads.items (hash_of w.mask c.args.mark) 0 in
    let l' : Links = record { zeros = newest; ones = newest } in
    rw (c.push_back.ensures.items, c.push_back-2.ensures.items, head) (
      w.mask,
      sound_hung _ _ _ _ _ _ _ c.args.mark l' c.self.invariant (rw c.push_back.ensures.items at some),
    )

pub overflow_sub-step : goal.overflow_sub-step
overflow_sub-step g c =
    let small : c.index.result.now ≤ c.self.inside.newest =
    head_small _ _ _ _ _ c.self.invariant.index.small (omega (arith, c.self.invariant.wide)) c.index.ensures in
    omega (arith, small)

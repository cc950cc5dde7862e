-- The path of a search for a mark, when marks are added or dropped and links change.
use Rattle.std.proofs.Common.{◌≡◌, ◌≢◌, ℕ, suc, ◌+◌, ◌-◌, ◌^◌, ◌<◌, ◌≤◌, ◌⊎◌, inl, inr, Bool, true, false, not, List, [], ◌∷◌, ◌++◌, length, sym, ◌∙◌, arith}
use Rattle.std.proofs.Common.{min, set, length-append}
use Rattle.cap_process.specs.inside.Index.{IsWay, Ends, Goes, Agrees, Lacks, IsHung, IsOnTop, IsPutOnTop, IsSameOutside, mark_bit, link_by_bit, links_at}
use Rattle.cap_process.specs.inside.Index.{mark_at}
use Rattle.cap_process.specs.declared.{links.Links.Links, mark.Mark.Mark}
use Rattle.std.proofs.lemmas.{Bool.cases_order, List.get_or_append_left, List.get_or-set_other, List.get_or-set_same}

below_or : (a b : ℕ) → (a < b) ⊎ (b ≤ a)
below_or a b = grind (arith, cases_order)

pub agrees_itself : {mask depth : ℕ} (m : Mark) → Agrees mask depth m m
agrees_itself m = grind arith

agrees_above : {mask depth : ℕ} {e m : Mark} → Agrees mask (depth + 1) e m → Agrees mask depth e m
agrees_above a = grind arith

agrees_on : {mask depth : ℕ} {e m n : Mark} → Agrees mask depth e m → Agrees mask depth m n → Agrees mask depth e n
agrees_on a b = grind arith

agrees_back : {mask depth : ℕ} {e m : Mark} → Agrees mask depth e m → Agrees mask depth m e
agrees_back a = grind arith

agrees_more : {mask depth : ℕ} {e m : Mark} → Agrees mask depth e m → mark_bit m depth ≡ mark_bit e depth → Agrees mask (depth + 1) e m
agrees_more {depth = depth} a bit = grind (arith, below_or)

-- the first mark of a way
pub record HasTop (mask : ℕ) (ms : List Mark) (ls : List Links) (e : Mark) (depth limit top : ℕ) : Type 0 where
  pub agrees : Agrees mask depth e (mark_at ms top)
  pub none : Lacks ms e limit → Lacks ms e (top + 1)
  pub below : IsWay mask ms ls e (depth + 1) top (link_by_bit (links_at ls top) (mark_bit e depth))

module _ {mask : ℕ} {ms : List Mark} {ls : List Links} {e : Mark} where
  pub least : {depth limit d : ℕ} → IsWay mask ms ls e depth limit d → 1 ≤ d
  least h0 = grind arith

  -- at the end of a path all marks were searched
  pub ended : {depth limit d : ℕ} → IsWay mask ms ls e depth limit d → limit < d → Lacks ms e limit → Lacks ms e 0
  ended h0 far = grind arith

  -- from a later mark, if e isn't among those between
  pub raised : {depth limit d : ℕ} (limit' d' : ℕ) → IsWay mask ms ls e depth limit d → (Lacks ms e limit' → Lacks ms e limit)
      → (d ≤ limit → (limit' - d' ≡ limit - d) × (d' ≤ limit') × (1 ≤ d')) → (limit < d → limit' < d') → IsWay mask ms ls e depth limit' d'
  raised limit' d' (Ends past none) up near far = Ends (far past) (λ lacks. none (up lacks))
  raised limit' d' (Goes within step agrees none below) up near far =
      let same = near within in
      Goes same.1 same.2 (rw same.0 agrees) (rw same.0 (λ lacks. none (up lacks))) (rw same.0 below)

  pub top_of : {depth limit d : ℕ} → IsWay mask ms ls e depth limit d → d ≤ limit → HasTop mask ms ls e depth limit (limit - d)
  top_of (Ends past none) within = absurd (omega arith)
  top_of (Goes within step agrees none below) _ = grind arith

  -- e isn't at the top
  pub past_top : {depth limit top : ℕ} → HasTop mask ms ls e depth limit top → mark_at ms top ≢ e → Lacks ms e limit → Lacks ms e top
  past_top {top = top} t other lacks j low high = grind (arith, below_or)

  -- links of marks that agree with e alone matter
  pub relinked : {depth limit d : ℕ} (ls' : List Links) → IsWay mask ms ls e depth limit d
      → ((j : ℕ) → j < limit → Agrees mask depth e (mark_at ms j) → links_at ls' j ≡ links_at ls j) → IsWay mask ms ls' e depth limit d
  relinked ls' (Ends past none) same = Ends past none
  relinked ls' (Goes within step agrees none below) same =
      Goes within step agrees none (rw (same _ (omega arith) agrees) (relinked ls' below (λ j less is. same j (omega arith) (agrees_above is))))

-- one mark more
lacks_appended : {e : Mark} {limit from : ℕ} (ms : List Mark) (m : Mark) → limit ≤ length ms → (Lacks ms e limit → Lacks ms e from)
    → Lacks (ms ++ m ∷ []) e limit → Lacks (ms ++ m ∷ []) e from
lacks_appended {limit = limit} ms m upper_bound none lacks j low high = grind (arith, below_or, length-append, get_or_append_left)

pub appended : {mask : ℕ} {ms : List Mark} {ls : List Links} {e : Mark} {depth limit d : ℕ} (m : Mark) (l : Links) → length ls ≡ length ms → limit ≤ length ms
    → IsWay mask ms ls e depth limit d → IsWay mask (ms ++ m ∷ []) (ls ++ l ∷ []) e depth limit d
appended m l long upper_bound (Ends past none) = Ends past (lacks_appended _ m upper_bound none)
appended {ms = ms} {ls = ls} {limit = limit} {d = d} m l long upper_bound (Goes within step agrees none below) =
    let mark = get_or_append_left ms (m ∷ []) (record { length = 0; digest = [] }) (limit - d) (omega arith) in
    let link = get_or_append_left ls (l ∷ []) (record { zeros = 0; ones = 0 }) (limit - d) (omega arith) in
    Goes within step (rw mark agrees) (lacks_appended _ m upper_bound none) (rw link (appended m l long (omega arith) below))

-- the oldest mark goes
lacks_dropped : {e : Mark} {limit from : ℕ} (ms : List Mark) (m : Mark) (less k : ℕ) → limit ≡ less + 1 → from ≤ k + 1
    → (Lacks (m ∷ ms) e limit → Lacks (m ∷ ms) e from) → Lacks ms e less → Lacks ms e k
lacks_dropped {e = e} {limit = limit} ms m less k one le none lacks j low high = none up (suc j) (omega arith) (omega arith)
  where
    up : Lacks (m ∷ ms) e limit
    up h0 above within = grind arith

pub dropped : {mask : ℕ} {m : Mark} {ms : List Mark} {l : Links} {ls : List Links} {e : Mark} {depth limit d : ℕ} (less : ℕ) → limit ≡ less + 1
    → IsWay mask (m ∷ ms) (l ∷ ls) e depth limit d → IsWay mask ms ls e depth less d
dropped {m = m} less one (Ends past none) = Ends (omega arith) (lacks_dropped _ m less 0 one (omega arith) none)
dropped {m = m} {limit = limit} {d = d} less one (Goes within step agrees none below) = elim (below_or less d) [
  | inl first ↦ Ends first (lacks_dropped _ m less 0 one (omega arith) none)
  | inr more ↦ (let same : limit - d ≡ suc (less - d) = omega arith in
      Goes more step (rw same at agrees) (lacks_dropped _ m less (less - d + 1) one (omega arith) none) (rw same at (dropped (less - d) (omega arith) below)))
]

-- ---- the newest mark is placed

-- The mark at `place` gets to the top of the tree of its bits, whose top before is d places below
-- it. Once it has its links, and so those below, all are placed.
pub record IsPlacing (mask : ℕ) (ms : List Mark) (start now : List Links) (newest depth place d : ℕ) : Type 0 where
  pub tree : IsHung mask ms now depth place d
  pub finish : (done : List Links) → IsSameOutside mask ms now done depth place → IsOnTop mask ms done depth place → IsPutOnTop mask ms start done newest

set_other : (ls : List Links) (place j : ℕ) (l : Links) → j ≢ place → links_at (set ls place l) j ≡ links_at ls j
set_other ls place j l other = grind (arith, get_or-set_other)

set_same : (ls : List Links) (place : ℕ) (l : Links) → place < length ls → links_at (set ls place l) place ≡ l
set_same ls place l within = grind (arith, get_or-set_same)

pub step_at : {mask : ℕ} {ms : List Mark} {start now : List Links} {newest depth place d : ℕ} → IsPlacing mask ms start now newest depth place d → 1 ≤ d
step_at {ms = ms} {place = place} p = least (p.tree (mark_at ms place) (agrees_itself (mark_at ms place)))

module _ {mask : ℕ} {ms : List Mark} {start now : List Links} {newest depth place d : ℕ} (p : IsPlacing mask ms start now newest depth place d)
    (l : Links) where
  outside_set : IsSameOutside mask ms now (set now place l) depth place
  outside_set j never = grind (arith, set_other, agrees_itself)

  -- there is none below
  pub placing_end : place < d → place < length now → l.zeros ≡ d → l.ones ≡ d → IsPutOnTop mask ms start (set now place l) newest
  placing_end past within zeros ones = p.finish (set now place l) outside_set
      (λ e agrees. Ends (grind (arith, set_same)) (ended (p.tree e agrees) past))

  -- the tree of one bit below the top becomes one below the mark that takes its place, if the top is none of it
  moved : {e : Mark} (done : List Links) (d' : ℕ) → HasTop mask ms now e depth place (place - d) → d ≤ place → place + 1 < 2 ^ 32
      → ((j : ℕ) → j < place - d → Agrees mask (depth + 1) e (mark_at ms j) → links_at done j ≡ links_at now j)
      → (Lacks ms e place → mark_at ms (place - d) ≢ e)
      → d' ≡ min (link_by_bit (links_at now (place - d)) (mark_bit e depth) + d) (2 ^ 32 - 1) → IsWay mask ms done e (depth + 1) place d'
  moved done d' t within upper_bound links other reach =
      let step = step_at p in
      raised place d' (relinked done t.below links) (λ lacks. past_top t (other lacks) lacks) (λ near. (omega arith, omega arith, omega arith))
      (λ far. omega arith)

  -- the mark that is taken the place of is equal
  pub placing_equal : d ≤ place → place < length now → place < length ms → place + 1 < 2 ^ 32 → mark_at ms place ≡ mark_at ms (place - d)
      → ((bit : Bool) → link_by_bit l bit ≡ min (link_by_bit (links_at now (place - d)) bit + d) (2 ^ 32 - 1)) → IsPutOnTop mask ms start
      (set now place l) newest
  placing_equal within inside there upper_bound equal reach =
      let step = step_at p in
      p.finish (set now place l) outside_set
      (grind (arith, set_same, moved, top_of, set_other))

  -- the mark that is taken the place of goes down by one bit
  pub placing_next : (bit : Bool) → d ≤ place → place < length now → place + 1 < 2 ^ 32 → bit ≡ mark_bit (mark_at ms (place - d)) depth → link_by_bit l bit ≡ d
      → link_by_bit l (not bit) ≡ min (link_by_bit (links_at now (place - d)) (not bit) + d) (2 ^ 32 - 1)
      → IsPlacing mask ms start (set now place l) newest (depth + 1) (place - d) (link_by_bit (links_at now (place - d)) bit)
  placing_next bit within inside upper_bound is_bit to other =
      let step = step_at p in
      let top_agrees = (top_of (p.tree (mark_at ms place) (agrees_itself (mark_at ms place))) within).agrees in
      record {
        tree = λ e agrees. (let same : bit ≡ mark_bit e depth = is_bit ∙ agrees.bits depth (omega arith) in
            rw same (relinked (set now place l) (top_of (p.tree e (agrees_on (agrees_above agrees) (agrees_back top_agrees))) within).below
            (λ j less is. set_other now place j l (λ at. omega arith))));
        finish = λ done same below.
            (let here : links_at done place ≡ l = same place (λ le is. omega arith) ∙ set_same now place l inside in
            p.finish done (λ j never. same j (λ le is. never (omega arith) (agrees_on top_agrees (agrees_above is))) ∙ outside_set j never)
            (λ e agrees. elim (side (mark_bit e depth) bit) [
              | inl e_bit ↦ (let t = top_of (p.tree e agrees) within in
                  let more = agrees_more t.agrees (sym is_bit ∙ sym e_bit) in
                  rw (here, e_bit, to) (Goes within step more t.none (below e more)))
              | inr e_other ↦ grind (arith, top_of, moved, set_other)
            ]));
      }
    where
      side : (a b : Bool) → (a ≡ b) ⊎ (a ≡ not b)
      side a b = grind arith

      not_both : (b : Bool) → b ≡ not b → ⊥
      not_both true e = cc
      not_both false e = cc

pub after_links : (old new : Links) (d : ℕ) → new.zeros ≡ min (old.zeros + d) (2 ^ 32 - 1) → new.ones ≡ min (old.ones + d) (2 ^ 32 - 1)
    → (bit : Bool) → link_by_bit new bit ≡ min (link_by_bit old bit + d) (2 ^ 32 - 1)
after_links old new d zeros ones bit = grind arith

-- Addresses on either side, of which all words but the last are the same: a tree for each side reads
-- as one after the other, and has no more tests.
use Rattle.flt_gen.proofs.Ascending.{if_case}
use Rattle.flt_gen.proofs.Common.{◌≡◌, ℕ, suc, ◌+◌, ◌-◌, ◌*◌, ◌/◌, ◌%◌, ◌^◌, ◌<◌, ◌≤◌, List, [], ◌∷◌, length, max, Bool, true, false, Option, Some, None, refl}
use Rattle.flt_gen.proofs.Common.{sym, ap, ap₂, ◌∙◌, subst, arith, ◌==◌, ◌&&◌, nat_le, nat_tests, and_parts, Direction, Link, Source, Destination, And, Or}
use Rattle.flt_gen.proofs.Common.{Word, Width, Offset, Elementary, Field, MatchResult, No, reading_of, with, Formula, Outcome, either, all_of, reads}
use Rattle.flt_gen.proofs.Common.{needed_tests, drop, zero, is_at, compares, under_mask, field_at, elementary_reads, slice_get}
use Rattle.flt_gen.proofs.Counted.{Bare, bare_within, bare_all, bare_one, bare_some, bare_both, bare_either}
use Rattle.flt_gen.proofs.Deciding.{Shapes, fields_of, shape_of, some_fields, rows, rows_rest, shapes_rest, sizes, sizes_rest, read_all, needed_read, read_put}
use Rattle.flt_gen.proofs.Deciding.{decision_good, Likes, shapes_of, sizes_put}
use Rattle.flt_gen.proofs.Firsts.{Known, known_either, by_first, first_more}
use Rattle.flt_gen.proofs.{Exclusive.or_no, Needed.fewer}
use Rattle.std.specs.{List.insert}
use Rattle.std.proofs.{Math.Nat.div-div-eq-div-mul, lemmas.List.length-map}
use Rattle.flt_words.specs.declared.token.Side.{Side}
use Rattle.flt_ast.specs.declared.qualifiers.Direction.TheVariants as direction
use Rattle.flt_gen.specs.declared.{cases.Bound.TheVariants.Exactly, cases.Case.Case, cases.Case.TheVariants.Mac, cases.Case.TheVariants.Ip6}
use Rattle.flt_gen.specs.inside.Group.{fewest_either}
use Rattle.flt_gen.specs.inside.Cases.{same_words, case_tests, mac_place, word_test, test_at, lowest, keeps, is_whole, all_keep, same_word, decision, few_of}
use Rattle.flt_gen.specs.inside.Cases.{MOST_DECISIONS, is_address, are_either, on_side, all_on_side, either_formula, list_formula}

-- ---- where one is no, none is rejected

seen_by : (o : Option ℕ) (f g : ℕ → Bool) → Known (reading_of (with o (λ x. Some (f x)))) → Known (reading_of (with o (λ x. Some (g x))))
seen_by None f g (true, e) = cc
seen_by None f g (false, e) = cc
seen_by (Some x) f g k = (g x, refl)

-- the same tests, but the last ones are of the same field
abbrev Alike_last : Elementary → Elementary → Type 0
Alike_last (Field t) (Field u) = (t.offset ≡ u.offset) × (t.width ≡ u.width)
Alike_last _ _ = ⊥

abbrev Almost : List Elementary → List Elementary → Type 0
Almost (t ∷ []) (u ∷ []) = Alike_last t u
Almost (t ∷ x ∷ xs) (u ∷ y ∷ ys) = (t ≡ u) × Almost (x ∷ xs) (y ∷ ys)
Almost _ _ = ⊥

-- no test has a mask
abbrev Whole : List Elementary → Type 0
Whole [] = Unit {0}
Whole (Field t ∷ ts) = (t.mask ≡ None) × Whole ts
Whole _ = ⊥

-- numbers that have their first words in common
upper_word : (a b k : ℕ) → a / 2 ^ 32 ≡ b / 2 ^ 32 → a / (2 ^ 32 * k) ≡ b / (2 ^ 32 * k)
upper_word a b k e = sym (div-div-eq-div-mul a (2 ^ 32) k) ∙ ap (λ x. x / k) e ∙ div-div-eq-div-mul b (2 ^ 32) k

abbrev either_side : Direction
either_side = direction.Both Or

abbrev side : Link → Side → Case → List Elementary
side link s c = case_tests link (direction.One s) c

macs_almost : (link : Link) (s : Side) (a b : ℕ) → a / 2 ^ 16 ≡ b / 2 ^ 16 → Almost (side link s (Mac a)) (side link s (Mac b))
macs_almost link s a b e = (ap (λ v. is_at (mac_place (direction.One s)) Word (v % 2 ^ 32)) e, (refl, refl))

-- so it is with addresses that are looked for together, both ways
almost : (link : Link) (s : Side) (a b : Case) → are_either either_side a ≡ true → same_words either_side a b ≡ true → Almost (side link s a) (side link s b)
    × Almost (side link s b) (side link s a) × Whole (side link s a)
almost link s a b i e = grind (arith, nat_tests, macs_almost, upper_word)

module _ (link : Link) (s : Side) (p : List ℕ) (n : ℕ) where
  abbrev told : List Elementary → MatchResult
  told ts = reads link (all_of ts) p n

  seen : (r q : List Elementary) → Almost r q → Known (told r) → Known (told q)
  seen (t ∷ []) (u ∷ []) h k = last t u h k
    where
      last : (t u : Elementary) → Alike_last t u → Known (elementary_reads t p) → Known (elementary_reads u p)
      last (Field t) (Field u) h k = subst (λ o. Known (reading_of (with o (λ x. Some (compares u.comparison (under_mask u.mask x) u.value)))))
          (ap₂ (λ o w. field_at o w p) h.0 h.1) (seen_by (field_at t.offset t.width p) _ _ k)
      last _ _ h k = absurd h
  seen (t ∷ x ∷ xs) (u ∷ y ∷ ys) h k = grind (arith, seen (x ∷ xs) (y ∷ ys) h.1)
  seen _ _ h k = absurd h

  all_seen : (k : Case) (cs : List Case) → are_either either_side k ≡ true → Likes either_side k cs → Known (told (side link s k))
      → Known (read_all link p n (rows (side link s) 0 cs))
  all_seen k [] i h e = (false, refl)
  all_seen k (c ∷ cs) i h e = known_either (seen _ _ (almost link s k c i h.0).0 e) (all_seen k cs i h.1 e)

  -- where a case is no, one like it and others are seen
  like_seen : (k c : Case) → are_either either_side k ≡ true → same_words either_side k c ≡ true → told (side link s c) ≡ No → Known (told (side link s k))
  like_seen k c i e refused = seen _ _ (almost link s k c i e).1 (false, refused)

-- ---- how cases read, and how many tests they have, on either side or not

abbrev pub one_formula : Bool → Link → Direction → Case → Formula
one_formula true link d c = Formula.Either (all_of (side link Source c)) (all_of (side link Destination c))
one_formula false link d c = all_of (case_tests link d c)

abbrev pub list_read : Bool → Link → Direction → Case → List Case → List ℕ → ℕ → MatchResult
list_read true link d c cs p n =
    by_first (read_all link p n (rows (side link Source) 0 cs)) (reads link (all_of (side link Source c)) p n)
    (reads link (all_of (side link Destination c)) p n) (read_all link p n (rows (side link Destination) 0 cs))
list_read false link d c cs p n = read_all link p n (rows (case_tests link d) 0 cs)

abbrev pub list_size : Bool → Link → Direction → List Case → ℕ
list_size true link d cs = sizes (rows (side link Source) 0 cs) + sizes (rows (side link Destination) 0 cs)
list_size false link d cs = sizes (rows (case_tests link d) 0 cs)

abbrev pub one_size : Bool → Link → Direction → Case → ℕ
one_size true link d c = length (side link Source c) + length (side link Destination c)
one_size false link d c = length (case_tests link d c)

pub none_size : (b : Bool) (link : Link) (d : Direction) → list_size b link d [] ≡ 0
none_size b link d = grind arith

pub size_put : (b : Bool) (link : Link) (d : Direction) (c : Case) (i : ℕ) (cs : List Case) → list_size b link d (insert cs i c)
    ≡ one_size b link d c + list_size b link d cs
size_put b link d c i cs = grind (arith, sizes_put)

pub list_alone : (b : Bool) (link : Link) (d : Direction) (c : Case) (p : List ℕ) (n : ℕ) → list_read b link d c (c ∷ []) p n ≡ reads link
    (one_formula b link d c) p n
list_alone b link d c p n = grind (arith, or_no)

pub list_more : (b : Bool) (link : Link) (d : Direction) (kind first c : Case) (i : ℕ) (cs : List Case) (p : List ℕ) (n : ℕ)
    → are_either d kind ≡ b → same_words d kind c ≡ true → same_words d kind first ≡ true → Likes d kind cs → list_read b link d c (insert cs i c) p n
    ≡ either (reads link (one_formula b link d c) p n) (list_read b link d first cs p n)
list_more false link d kind first c i cs p n are e f h =
    read_put link p n 0 (case_tests link d) (fields_of link d kind) c i cs (shapes_of link d d kind (c ∷ []) (e, tt)).0 (shapes_of link d d kind cs h)
list_more true link (direction.Both Or) kind first c i cs p n are e f h =
    let put : (s : Side) → read_all link p n (rows (side link s) 0 (insert cs i c)) ≡ either (reads link (all_of (side link s c)) p n)
    (read_all link p n (rows (side link s) 0 cs)) = λ s. read_put link p n 0 (side link s) (fields_of link (direction.One s) kind) c i cs
    (shapes_of link either_side (direction.One s) kind (c ∷ []) (e, tt)).0 (shapes_of link either_side (direction.One s) kind cs h) in
    let one : (s : Side) → reads link (all_of (side link s c)) p n ≡ No → Known (reads link (all_of (side link s first)) p n) =
    λ s refused. seen link s p n _ _ (almost link s kind first are f).0 (like_seen link s p n kind c are e refused) in
    ap₂ (λ x y. by_first x (reads link (all_of (side link Source c)) p n) (reads link (all_of (side link Destination c)) p n) y) (put Source) (put Destination)
    ∙ first_more _ _ _ _ _ _ (λ refused. (all_seen link Source p n kind cs are h (like_seen link Source p n kind c are e refused), one Source refused))
    (one Destination)
list_more true link (direction.Both And) kind first c i cs p n are e f h = (let none = (and_parts (is_address kind) false are).1 in cc)
list_more true link (direction.One s) kind first c i cs p n are e f h = (let none = (and_parts (is_address kind) false are).1 in cc)

pub like_either : (d : Direction) (a b : Case) → same_words d a b ≡ true → are_either d b ≡ are_either d a
like_either d a b e = grind arith

-- ---- the tree of a side

kept_lowest : (o : Option Elementary) (v : ℕ) → keeps (Exactly v) o ≡ true → lowest o ≡ v
kept_lowest o v e = grind (arith, nat_tests)

kept_by : (by : Case → List Elementary) (w v : ℕ) (k : Case) (cs : List Case)
    → ((c : Case) → same_words either_side k c ≡ true → keeps (Exactly v) (word_test by w c) ≡ true) → Likes either_side k cs
    → all_keep by w (Exactly v) cs ≡ true
kept_by by w v k [] h l = refl
kept_by by w v k (c ∷ cs) h l = ap₂ (λ x y. x && y) (h c l.0) (kept_by by w v k cs h l.1)

-- a word that all have in common is one test
common_bare : (by : Case → List Elementary) (few j w v m : ℕ) (k : Case) (cs : List Case)
    → ((c : Case) → same_words either_side k c ≡ true → keeps (Exactly v) (word_test by w c) ≡ true) → Likes either_side k cs → few < length cs
    → Bare (decision few j by (w + 1) cs) m → Bare (decision few (suc j) by w cs) (1 + m)
unfolding decision
common_bare by few j w v m k [] h l many more = absurd (omega arith)
common_bare by few j w v m k (c ∷ cs) h l many more =
    let t = word_test by w c in
    let kept : all_keep by w (Exactly (lowest t)) (c ∷ cs) ≡ true =
    ap (λ x. all_keep by w (Exactly x) (c ∷ cs)) (kept_lowest t v (h c l.0)) ∙ kept_by by w v k (c ∷ cs) h l in
    if_case (λ (f : Formula). Bare f (1 + m)) (nat_le (length (c ∷ cs)) few) _ _ (λ e. absurd (let no : length (c ∷ cs) ≤ few = grind
    (arith, nat_tests) in omega arith))
    (λ e. if_case (λ (f : Formula). Bare f (1 + m)) (all_keep by w (Exactly (lowest t)) (c ∷ cs)) _ _ (λ a. same t (test_at by (w + 1) (c ∷ cs) 0)) (λ a. cc))
  where
    same : (t u : Option Elementary) → Bare (same_word t u (decision few j by (w + 1) (c ∷ cs))) (1 + m)
    same t u = grind (arith, bare_some, bare_within, bare_both, bare_one)

-- one word of each
single_sizes : (f : Offset × Width) (rs : List (List Elementary)) → Shapes (f ∷ []) rs → sizes rs ≡ length rs
single_sizes f [] h = refl
single_sizes f ((Field t ∷ []) ∷ rs) h = let more = single_sizes f rs h.1 in omega arith
single_sizes f ((Field t ∷ u ∷ us) ∷ rs) h = absurd (h.0).4
single_sizes f (_ ∷ rs) h = absurd h.0

-- n cases with a last word, and with so many in front of it
abbrev words_of : ℕ → ℕ → ℕ
words_of zero n = n
words_of (suc m) n = n + words_of m n

almost_at : (r q : List Elementary) (w : ℕ) → Almost r q → suc w < length r → slice_get q w ≡ slice_get r w
almost_at (t ∷ []) (u ∷ []) w h l = absurd (omega arith)
almost_at (t ∷ x ∷ xs) (u ∷ y ∷ ys) zero h l = ap Some (sym h.0)
almost_at (t ∷ x ∷ xs) (u ∷ y ∷ ys) (suc w) h l = almost_at (x ∷ xs) (y ∷ ys) w h.1 (omega arith)
almost_at _ _ w h l = absurd h

whole_kept : (r : List Elementary) (w : ℕ) → Whole r → w < length r → keeps (Exactly (lowest (slice_get r w))) (slice_get r w) ≡ true
whole_kept [] w h l = absurd (omega arith)
whole_kept (Field t ∷ ts) zero h l = ap₂ (λ m b. is_whole m && b) h.0 (let same : (t.value == t.value) ≡ true = grind (arith, nat_tests) in same)
whole_kept (Field t ∷ ts) (suc w) h l = whole_kept ts w h.1 (omega arith)
whole_kept (_ ∷ ts) w h l = absurd h

-- a tree of cases that have all words but the last in common, of which m are left
module _ (link : Link) (s : Side) (few : ℕ) (k : Case) (cs : List Case) (i : are_either either_side k ≡ true) (h : Likes either_side k cs)
    (many : few < length cs) where
  abbrev by : Case → List Elementary
  by = side link s

  tree : (m w j : ℕ) (fs : List (Offset × Width)) → Shapes fs (rows by w cs) → length fs ≡ suc m → suc m + w ≡ length (by k) → m ≤ j
      → Bare (decision few j by w cs) (m + (length cs + (length cs - max 1 few))) × (sizes (rows by w cs) ≡ words_of m (length cs))
  tree zero w j (f ∷ []) g long at l =
      let rows_long = length-map cs (λ (c : Case). drop w (by c)) in
      let size = single_sizes f (rows by w cs) g in
      (bare_within _ (omega arith) ((decision_good link by few j w (f ∷ []) cs g).1 (omega arith) (omega arith)), omega arith)
  tree (suc m) w (suc j) (f ∷ fs) g long at l =
      let next = rows_rest by w cs in
      let more = tree m (w + 1) j fs (subst (Shapes fs) (sym next) (shapes_rest f fs (rows by w cs) g)) (omega arith) (omega arith) (omega arith) in
      let rows_long = length-map cs (λ (c : Case). drop w (by c)) in (
        bare_within _ (omega arith)
            (common_bare by few j w (lowest (slice_get (by k) w)) _ k cs (λ c e.
            let a = almost link s k c i e in
            ap (keeps (Exactly (lowest (slice_get (by k) w)))) (almost_at (by k) (by c) w a.0 (omega arith))
            ∙ whole_kept (by k) w a.2 (omega arith)) h many more.0),
        omega (arith, more.1, ap sizes next, sizes_rest f fs (rows by w cs) g),
      )
  tree _ w _ _ g long at l = absurd (omega arith)

-- ---- both trees

few_fits : (c : Case) (n : ℕ) → is_address c ≡ true → fewest_either c ≤ n → (2 ≤ few_of c n) × (few_of c n < n)
few_fits c n i l = grind (arith, nat_tests)

-- of m words in front of the last
both_bare : (link : Link) (m few : ℕ) (kind first : Case) (cs : List Case) → are_either either_side kind ≡ true → Likes either_side kind cs
    → ((s : Side) → (length (fields_of link (direction.One s) kind) ≡ suc m) × (length (side link s kind) ≡ suc m) × (length (side link s first) ≡ suc m))
    → few < length cs → m ≤ 64
    → 2 * (m + (length cs + (length cs - max 1 few))) + 2 * suc m + 1 ≤ 2 * words_of m (length cs) + (length cs - 1)
    → Bare (either_formula link few first cs) (list_size true link either_side cs + (length cs - 1))
both_bare link m few kind first cs i h long many l fits =
    let one : (s : Side) → Bare (on_side link s first) (suc m) = λ s. let e = (long s).2 in let f = fewer (side link s first) in
    bare_all (needed_tests (side link s first)) (suc m) (omega arith) (omega arith) in
    let source = at Source in
    let destination = at Destination in
    bare_within _ (omega (arith, source.1, destination.1))
    (bare_either (bare_both source.0 (bare_either (one Source) (bare_either (one Destination) (bare_one (Outcome true))))) destination.0)
  where
    at : (s : Side) → Bare (all_on_side link few s cs) (m + (length cs + (length cs - max 1 few))) × (sizes (rows (side link s) 0 cs)
        ≡ words_of m (length cs))
    at s = tree link s few kind cs i h many m 0 MOST_DECISIONS (fields_of link (direction.One s) kind)
        (shapes_of link either_side (direction.One s) kind cs h) (long s).0 (let e = (long s).1 in omega arith) l

either_bare : (link : Link) (kind first : Case) (cs : List Case) → are_either either_side kind ≡ true → same_words either_side kind first ≡ true
    → Likes either_side kind cs → fewest_either first ≤ length cs → Bare (either_formula link (few_of first (length cs)) first cs)
    (list_size true link either_side cs + (length cs - 1))
either_bare link (Mac a) (Mac b) cs i e h many =
    let few = few_fits (Mac b) (length cs) refl many in
    both_bare link 1 _ (Mac a) (Mac b) cs i h (λ s. (refl, refl, refl)) few.1 (omega arith) (omega arith)
either_bare link (Ip6 m a) (Ip6 l b) cs i e h many =
    let few = few_fits (Ip6 l b) (length cs) refl many in
    both_bare link 3 _ (Ip6 m a) (Ip6 l b) cs i h (λ s. (refl, refl, refl)) few.1 (omega arith) (omega arith)
either_bare link _ _ cs i e h many = cc

pub list_good : (b : Bool) (link : Link) (d : Direction) (kind first : Case) (cs : List Case) → are_either d kind ≡ b → same_words d kind first ≡ true
    → Likes d kind cs → 0 < length cs → (b ≡ true → fewest_either first ≤ length cs) → Bare (list_formula b link d first cs) (list_size b link d cs +
    (length cs - 1))
    × ((p : List ℕ) (n : ℕ) → reads link (list_formula b link d first cs) p n ≡ list_read b link d first cs p n)
list_good false link d kind first cs are f h some many =
    let long = length-map cs (case_tests link d) in
    let good = decision_good link (case_tests link d) (few_of first (length cs)) MOST_DECISIONS 0 (fields_of link d kind) cs (shapes_of link d d kind cs h) in
    (bare_within _ (omega arith) (good.1 (some_fields link d kind) (omega arith)), good.0)
list_good true link (direction.Both Or) kind first cs are f h some many = (
  either_bare link kind first cs are f h (many refl),
  λ p n.
      let tree : (s : Side) → reads link (all_on_side link (few_of first (length cs)) s cs) p n ≡ read_all link p n (rows (side link s) 0 cs) =
      λ s. (decision_good link (side link s) (few_of first (length cs)) MOST_DECISIONS 0 (fields_of link (direction.One s) kind) cs
      (shapes_of link either_side (direction.One s) kind cs h)).0 p n in
      let one : (s : Side) → reads link (on_side link s first) p n ≡ reads link (all_of (side link s first)) p n =
      λ s. needed_read link p n (fields_of link (direction.One s) first) (side link s first) (shape_of link (direction.One s) first) in
      ap₂ (λ x y. by_first x (reads link (on_side link Source first) p n) (reads link (on_side link Destination first) p n) y) (tree Source) (tree Destination)
      ∙ ap₂ (λ x y. by_first (read_all link p n (rows (side link Source) 0 cs)) x y (read_all link p n (rows (side link Destination) 0 cs))) (one Source)
      (one Destination),
)
list_good true link (direction.Both And) kind first cs are f h some many = (let none = (and_parts (is_address kind) false are).1 in cc)
list_good true link (direction.One s) kind first cs are f h some many = (let none = (and_parts (is_address kind) false are).1 in cc)

-- Formulas that look for several numbers: their code, unfolded once, how they read, and how many
-- tests and loads they have.
use Rattle.flt_gen.proofs.Ascending.{if_case, is_in, is_within, Apart, Searchable, Reached, Ready, searchable_apart, apart_take, apart_drop, apart_without}
use Rattle.flt_gen.proofs.Ascending.{length_without, within_without, lower_half, upper_half, first_taken, ends_few, none_below}
use Rattle.flt_gen.proofs.Common.{◌≡◌, ℕ, zero, suc, ◌+◌, ◌-◌, ◌*◌, ◌/◌, ◌%◌, ◌^◌, ◌<◌, ◌≤◌, List, [], ◌∷◌, length, take, drop, Bool, true, false, Option, Some}
use Rattle.flt_gen.proofs.Common.{None, refl, ap, ap₂, sym, ◌∙◌, subst, arith, max, nat_le, nat_lt, ◌==◌, not, ◌||◌, if◌then◌else◌, take_rest, length-drop}
use Rattle.flt_gen.proofs.Common.{length-take, nat_tests, or-false, Insn, Interval, Sides, Offset, FieldPlace, MatchResult, Rejected, reading_of, with}
use Rattle.flt_gen.proofs.Common.{compares, field_at, under_mask, elementary_reads, Formula, Split, both, either, reads, Link, Direction, Source, Destination}
use Rattle.flt_gen.proofs.Common.{And, Or, Comparison, Equal, Less, AtMost, AtLeast, Block, emit_after, emit_test, emit_comparison, emit_field, emit_mask}
use Rattle.flt_gen.proofs.Common.{at_top, Constant, Numbers, field_test, are_few, low_of, within_formula, sought_formula, first_ends, sought_tests, tests}
use Rattle.flt_gen.proofs.Common.{loads, test_loads, place_loads, mask_loads, nodes, words, Single, Outcome}
use Rattle.flt_gen.proofs.Counted.{Bare, bare_within, bare_some, place_few, mask_few}
use Rattle.flt_gen.proofs.Firsts.{exact, or_yes, by_first}
use Rattle.flt_gen.proofs.{Exclusive.or_no, Runs.one_number}
use Rattle.flt_gen.specs.inside.Search.{held_if, chain_of, search, MOST_HALVINGS, few_formula, many_formula, are_at_index, sides_at_index, at_index}
use Rattle.flt_gen.specs.inside.Search.{index_of, never, always}
use Rattle.std.proofs.Math.Nat.{mod-eq_of_lt}

-- ---- the code

if_is : {A : Type 0} (b c : Bool) (x y : A) → b ≡ c → (if b then x else y) ≡ (if c then x else y)
if_is b c x y e = ap (λ d. if d then x else y) e

pub search_none : (held : Option FieldPlace) (link : Link) (few : ℕ) (f : FieldPlace) (k : ℕ) (from : Bool) (is : List Interval) (hit miss : ℕ) (c : List Insn)
    → k ≡ 0
    → emit_after held link (search few f k from is) hit miss c ≡ emit_after held link (chain_of f from is) hit miss c
unfolding search
search_none held link few f k from is hit miss c e = grind arith

few_is : (few : ℕ) (f : FieldPlace) (k : ℕ) (from : Bool) (is : List Interval) → are_few few is ≡ true → search few f k from is ≡ chain_of f from is
unfolding search
few_is few f k from is e = grind (arith, if_is)

pub search_few : (held : Option FieldPlace) (link : Link) (few : ℕ) (f : FieldPlace) (k : ℕ) (from : Bool) (is : List Interval) (hit miss : ℕ) (c : List Insn)
    → are_few few is ≡ true → emit_after held link (search few f k from is) hit miss c ≡ emit_after held link (chain_of f from is) hit miss c
search_few held link few f k from is hit miss c e = ap (λ (x : Formula). emit_after held link x hit miss c) (few_is few f k from is e)

-- by both parts
abbrev pub halved : Option FieldPlace → Link → ℕ → FieldPlace → ℕ → Bool → List Interval → List Interval → ℕ → ℕ → List Insn → Block
halved held link few f k from low high hit miss c =
    let no = emit_after (held_if true f) link (search few f k true high) hit miss c in
    let yes = emit_after (held_if true f) link (search few f k from low) hit miss no.code in
    emit_test held (field_test f Less (low_of high)) yes.entry no.entry yes.code

pub search_put : (held : Option FieldPlace) (link : Link) (few : ℕ) (f : FieldPlace) (halvings : ℕ) (from : Bool) (is : List Interval) (hit miss : ℕ)
    (c : List Insn)
    → 0 < halvings → are_few few is ≡ false → emit_after held link (search few f halvings from is) hit miss c ≡ halved held link few f (halvings - 1) from
    (take (length is / 2) is) (take (length is - length is / 2) (drop (length is / 2) is)) hit miss c
unfolding search
search_put held link few f zero from is hit miss c some many = absurd (omega arith)
search_put held link few f (suc k) from is hit miss c some many =
    let same : k ≡ suc k - 1 = omega arith in
    ap (λ (x : Formula). emit_after held link x hit miss c) (if_is _ false _ _ many)
    ∙ ap (λ j. halved held link few f j from (take (length is / 2) is) (drop (length is / 2) is) hit miss c) same
    ∙ ap (λ (zs : List Interval). halved held link few f (suc k - 1) from (take (length is / 2) is) zs hit miss c) (sym (take_rest is (length is / 2)))

-- of a search that isn't halved, and of one that is
pub ruleset search_steps = (search_none, search_few, search_put)

-- a field that A holds isn't loaded
pub loaded_if : (b : Bool) (f : FieldPlace) (comparison : Comparison) (v hit miss : ℕ) (c : List Insn)
    → emit_test (held_if b f) (field_test f comparison v) hit miss c
    ≡ (let d = emit_comparison comparison Constant v hit miss c in at_top (if b then d else emit_field f.offset f.width (emit_mask f.mask d)))
loaded_if b f comparison v hit miss c = grind (arith, nat_tests)

-- ---- the reading

-- what is read of a field that is there
abbrev pub read_by : Option ℕ → (ℕ → Bool) → MatchResult
read_by o f = reading_of (with o (λ x. Some (f x)))

are_many : (few : ℕ) (is : List Interval) → are_few few is ≡ false → 2 ≤ length is
are_many few is e = grind arith

less_is : (a b : ℕ) → nat_lt a b ≡ not (nat_le b a)
less_is a b = grind (arith, nat_tests)

above_first : (x : ℕ) (i : Interval) (is : List Interval) → i.low ≤ x → (is_in x i || is_within x is) ≡ (nat_le x i.high || is_within x is)
above_first x i is l = grind (arith, nat_tests)

module _ (link : Link) (p : List ℕ) (n : ℕ) (f : FieldPlace) where
  -- where the field is a number
  module _ (x : ℕ) (is_there : field_at f.offset f.width p ≡ Some x) where
    abbrev u : ℕ
    u = under_mask f.mask x

    told : (comparison : Comparison) (v : ℕ) → elementary_reads (field_test f comparison v) p ≡ exact (compares comparison u v)
    told comparison v = ap (λ o. reading_of (with o (λ y. Some (compares comparison (under_mask f.mask y) v)))) is_there

    split_told : (comparison : Comparison) (v : ℕ) (a b : Formula) (inside : Bool)
        → (compares comparison u v ≡ true → reads link a p n ≡ exact inside) → (compares comparison u v ≡ false → reads link b p n ≡ exact inside)
        → reads link (Split (field_test f comparison v) a b) p n ≡ exact inside
    split_told comparison v a b inside hit miss = grind arith

    chain_told : (from : Bool) (a : ℕ) (is : List Interval) → Apart a is → (from ≡ true → low_of is ≤ u)
        → reads link (chain_of f from is) p n ≡ exact (is_within u is)
    chain_told from a [] up l = refl
    chain_told from a (i ∷ is) up l =
        let rest = chain_told false (i.high + 1) is up.2 (λ e. cc) in
        let order = up.1 in
        let inside = is_in u i || is_within u is in
        let upper : i.low ≤ u → reads link (Split (field_test f AtMost i.high) always (chain_of f false is)) p n ≡ exact inside =
        λ m. split_told AtMost i.high always (chain_of f false is) inside
        (λ e. let e : nat_le u i.high ≡ true = e in sym (ap exact (above_first u i is m ∙ ap (λ b. b || is_within u is) e)))
        (λ e. let e : nat_le u i.high ≡ false = e in rest ∙ sym (ap exact (above_first u i is m ∙ ap (λ b. b || is_within u is) e))) in
        if_case (λ (g : Formula). reads link g p n ≡ exact inside) (i.low == i.high) _ _
        (λ e. let same : i.low ≡ i.high = grind (arith, nat_tests) in
        let one = one_number u i.low i.high same in
        split_told Equal i.low always (chain_of f false is) inside (λ t. sym (ap (λ b. exact (b || is_within u is)) (sym one ∙ t)))
        (λ t. rest ∙ sym (ap (λ b. exact (b || is_within u is)) (sym one ∙ t))))
        (λ e. if_case (λ (g : Formula). reads link g p n ≡ exact inside) from _ _ (λ t. upper (l t))
        (λ t. split_told AtLeast i.low (Split (field_test f AtMost i.high) always (chain_of f false is)) never inside
        (λ t. let m : i.low ≤ u = grind (arith, nat_tests) in upper m)
        (λ t. let m : u < i.low = grind (arith, nat_tests) in sym (ap exact (none_below u i.low (i ∷ is) m (omega arith, up.1, up.2))))))

    search_told : (few k : ℕ) (from : Bool) (a : ℕ) (is : List Interval) → Apart a is → (from ≡ true → low_of is ≤ u)
        → reads link (search few f k from is) p n ≡ exact (is_within u is)
    unfolding search
    search_told few zero from a is up l = chain_told from a is up l
    search_told few (suc k) from a is up l =
        let half = length is / 2 in
        if_case (λ (g : Formula). reads link g p n ≡ exact (is_within u is)) (are_few few is) _ _ (λ e. chain_told from a is up l)
        (λ e. let two = are_many few is e in
        let some : 0 < half = omega arith in
        let less : half < length is = omega arith in
        split_told Less (low_of (drop half is)) (search few f k from (take half is)) (search few f k true (drop half is)) (is_within u is)
        (λ t. let m : u < low_of (drop half is) = grind (arith, nat_tests) in
        search_told few k from a (take half is) (apart_take a half is up) (λ g. subst (λ z. z ≤ u) (sym (first_taken half is some)) (l g))
        ∙ sym (ap exact (lower_half u a half is up less m)))
        (λ t. let m : low_of (drop half is) ≤ u = grind (arith, nat_tests) in
        search_told few k true a (drop half is) (apart_drop a half is up) (λ g. m) ∙ sym (ap exact (upper_half u a half is up less m))))

  -- where it isn't captured
  module _ (is_none : field_at f.offset f.width p ≡ None) where
    search_lost : (few k : ℕ) (is : List Interval) → Searchable is → reads link (search few f k false is) p n ≡ Rejected
    unfolding search
    search_lost few k is some = grind arith

  search_reads : (few : ℕ) (is : List Interval) → Searchable is → reads link (search few f MOST_HALVINGS false is) p n ≡ read_by (field_at f.offset f.width p)
      (λ x. is_within (under_mask f.mask x) is)
  search_reads few is some = grind (arith, search_lost, search_told, searchable_apart)

-- those that are looked for together: not both sides at once
abbrev pub Merged : Direction → Type 0
Merged (Direction.Both And) = ⊥
Merged _ = Unit {0}

-- several, of which those of the first one are f, on the sides that a direction asks for
abbrev pub sides_read : Direction → Option ℕ → Option ℕ → (ℕ → Bool) → (ℕ → Bool) → MatchResult
sides_read (Direction.One Source) s d f a = read_by s a
sides_read (Direction.One Destination) s d f a = read_by d a
sides_read (Direction.Both Or) s d f a = by_first (read_by s a) (read_by s f) (read_by d f) (read_by d a)
sides_read (Direction.Both And) s d f a = both (read_by s f) (read_by d f)

-- the number in X and that in the instruction are the place
counted : (index k : ℕ) → index ≤ k → k < 2 ^ 32 → (index + (k - index)) % 2 ^ 32 ≡ k
counted index k l m = (let e : index + (k - index) ≡ k = omega arith in ap (λ z. z % 2 ^ 32) e) ∙ mod-eq_of_lt m

-- the source, if it is captured, is of the first member, of all, and of the others
few_told : (b c o : Bool) (d : Option ℕ) (f a : ℕ → Bool) → (b ≡ true → c ≡ true) → (b ≡ false → o ≡ c)
    → either (exact b) (either (read_by d a) (exact o)) ≡ by_first (exact c) (exact b) (read_by d f) (read_by d a)
few_told b c o d f a all rest = grind (arith, or_yes, or_no)

module _ (link : Link) (p : List ℕ) (n : ℕ) (at : Sides) (numbers : Numbers) (r : Ready link at numbers) where
  abbrev place : Offset → FieldPlace
  place offset = record { offset = offset; width = at.width; mask = numbers.mask }

  abbrev of_first : ℕ → Bool
  of_first x = is_within (under_mask numbers.mask x) (numbers.first ∷ [])

  abbrev of_all : ℕ → Bool
  of_all x = is_within (under_mask numbers.mask x) numbers.all

  abbrev source : Option ℕ
  source = field_at at.source at.width p

  abbrev destination : Option ℕ
  destination = field_at at.destination at.width p

  all_read : (few : ℕ) (offset : Offset) → reads link (within_formula few numbers.mask numbers.all offset at.width) p n
      ≡ read_by (field_at offset at.width p) of_all
  all_read few offset = search_reads link p n (place offset) few numbers.all r.all

  first_read : (few : ℕ) (offset : Offset) → reads link (within_formula few numbers.mask (numbers.first ∷ []) offset at.width) p n ≡ read_by
      (field_at offset at.width p) of_first
  first_read few offset = search_reads link p n (place offset) few (numbers.first ∷ []) (omega arith, r.order, tt)

  abbrev either_side : MatchResult
  either_side = by_first (read_by source of_all) (read_by source of_first) (read_by destination of_first) (read_by destination of_all)

  few_read : (few : ℕ) → reads link (few_formula few at numbers) p n ≡ either_side
  few_read few = ap₂ (λ x y. either x (either y others)) (first_read few at.source) (all_read few at.destination) ∙ by source refl
    where
      others : MatchResult
      others = reads link (within_formula few numbers.mask numbers.others at.source at.width) p n

      by : (s : Option ℕ) → source ≡ s → either (read_by s of_first) (either (read_by destination of_all) others) ≡ by_first (read_by s of_all)
          (read_by s of_first) (read_by destination of_first) (read_by destination of_all)
      by None e = refl
      by (Some x) e =
          let y = under_mask numbers.mask x in
          let up = subst (Apart 0) (sym r.others_are) (apart_without 0 numbers.first numbers.all (searchable_apart numbers.all r.all)) in
          let out = search_told link p n (place at.source) x e few MOST_HALVINGS false 0 numbers.others up (λ g. cc) in
          ap (λ z. either (exact (of_first x)) (either (read_by destination of_all) z)) out
          ∙ few_told (of_first x) (of_all x) (is_within y numbers.others) destination of_first of_all
          (λ t. r.first_in p x e (sym (or-false (is_in y numbers.first)) ∙ t))
          (λ t. ap (is_within y) r.others_are ∙ within_without y numbers.first numbers.all (sym (or-false (is_in y numbers.first)) ∙ t))

  many_read : reads link (many_formula (sides_at_index link at) numbers) p n ≡ either_side
  many_read = grind (arith, counted, all_read, first_read, nat_tests, or_yes)

  pub sought_read : (few : ℕ) (d : Direction) → Merged d → reads link (sought_formula few link d at numbers) p n
      ≡ sides_read d source destination of_first of_all
  sought_read few d m = grind (arith, all_read, many_read, few_read)

-- ---- the counts

-- a formula without comparisons, with at most so many loads, if A holds this field or none, and tests
record Cheap (held : Option FieldPlace) (g : Formula) (l t : ℕ) : Type 0 where
  nodes_fit : nodes g ≤ 0
  words_fit : words g ≤ 0
  loads_fit : loads held g ≤ l
  tests_fit : tests g ≤ t

-- an interval has one test, and each further one a test whether it may be that; the first one has
-- one more where it isn't known to be no lower, and more than one number
abbrev first_more : Bool → List Interval → ℕ
first_more true is = 0
first_more false is = first_ends is

first_of_half : (from : Bool) (h : ℕ) (is : List Interval) → 0 < h → first_more from (take h is) ≡ first_more from is
first_of_half from h is l = grind arith

rest_few : (is : List Interval) → 2 * length is - 1 + first_more false is ≤ 2 * length is
rest_few is = grind (arith, ends_few)

cheap_as : {held : Option FieldPlace} {g : Formula} {l t : ℕ} (u : ℕ) → t ≤ u → Cheap held g l t → Cheap held g l u
cheap_as u m h = omega arith

module _ (f : FieldPlace) where
  -- a test of the field takes so many loads at most, by the field that A holds; none if it holds this one
  abbrev Takes : Option FieldPlace → ℕ → Type 0
  Takes held l = (comparison : Comparison) (v : ℕ) → test_loads held (field_test f comparison v) ≤ l

  none_taken : Takes (Some f) 0
  none_taken comparison v = grind (arith, nat_tests)

  all_taken : Takes None (place_loads f.offset + mask_loads f.mask)
  all_taken comparison v = omega arith

  cheap_none : {held : Option FieldPlace} {l t : ℕ} (b : Bool) → Cheap held (Single (Outcome b)) l t
  cheap_none b = omega arith

  cheap_split : {held : Option FieldPlace} {l s t : ℕ} {a b : Formula} (comparison : Comparison) (v : ℕ) → Takes held l → Cheap (Some f) a 0 s
      → Cheap (Some f) b 0 t → Cheap held (Split (field_test f comparison v) a b) l (1 + (s + t))
  cheap_split comparison v few h k = let one = few comparison v in omega arith

  chain_cheap : (held : Option FieldPlace) (l : ℕ) → Takes held l → (from : Bool) (is : List Interval)
      → Cheap held (chain_of f from is) l (2 * length is - 1 + first_more from is)
  chain_cheap held l few from [] = cheap_none false
  chain_cheap held l few from (i ∷ is) = grind (arith, rest_few, cheap_as, chain_cheap (Some f) 0 none_taken false is, none_taken, cheap_split, cheap_none)

  search_cheap : (m k : ℕ) (held : Option FieldPlace) (l : ℕ) → Takes held l → (from : Bool) (is : List Interval)
      → Cheap held (search m f k from is) l (2 * length is - 1 + first_more from is)
  unfolding search
  search_cheap m zero held l few from is = chain_cheap held l few from is
  search_cheap m (suc k) held l few from is =
      let half = length is / 2 in
      let a = length-drop half is in
      let t = length-take half is in
      if_case (λ (g : Formula). Cheap held g l (2 * length is - 1 + first_more from is)) (are_few m is) _ _ (λ e. chain_cheap held l few from is)
      (λ e. let two = are_many m is e in
      let first = first_of_half from half is (omega arith) in
      cheap_as _ (omega arith) (cheap_split Less (low_of (drop half is)) few (search_cheap m k (Some f) 0 none_taken from (take half is))
      (search_cheap m k (Some f) 0 none_taken true (drop half is))))

-- the loads of a side: of a mask and the length of a header there is only one
lean : (index : ℕ) (mask : Option ℕ) (a b : Offset) → Reached index mask a b → (place_loads a + mask_loads mask ≤ 2)
    × (place_loads b + mask_loads mask ≤ 2) × (place_loads (at_index index a) + mask_loads mask ≤ 3) × (place_loads (at_index index b) + mask_loads mask ≤ 3)
lean index mask a b h = grind (arith, mask_few)

some_searched : (is : List Interval) → Searchable is → 1 ≤ length is
some_searched is h = grind arith

module _ (link : Link) (at : Sides) (numbers : Numbers) (r : Ready link at numbers) where
  within_cheap : (few : ℕ) (is : List Interval) (offset : Offset) → let x = within_formula few numbers.mask is offset at.width in
      Cheap None x (place_loads offset + mask_loads numbers.mask) (2 * length is - 1 + first_ends is)
  within_cheap few is offset =
      let f : FieldPlace = record { offset = offset; width = at.width; mask = numbers.mask } in
      search_cheap f few MOST_HALVINGS None _ (all_taken f) false is

  abbrev twice : ℕ
  twice = 2 * max 1 (length numbers.all) + max (first_ends numbers.all) (first_ends (numbers.first ∷ []))

  some : 1 ≤ length numbers.all
  some = some_searched numbers.all r.all

  few_bare : (m : ℕ) → Bare (few_formula m at numbers) (twice + 1)
  few_bare m =
      let few = lean (index_of link at) numbers.mask at.source at.destination r.reached in
      let a = few.0 in
      let d = few.1 in
      let one = within_cheap m (numbers.first ∷ []) at.source in
      let all = within_cheap m numbers.all at.destination in
      let others = within_cheap m numbers.others at.source in
      let less : length numbers.others ≤ length numbers.all = subst (λ (is : List Interval). length is ≤ length numbers.all) (sym r.others_are)
      (length_without numbers.first numbers.all) in
      let e = ends_few (numbers.first ∷ []) in
      let g = ends_few numbers.all in
      let rest = rest_few numbers.others in
      let some = some in
      omega arith

  many_bare : Bare (many_formula (sides_at_index link at) numbers) (twice + 3)
  many_bare =
      let few = lean (index_of link at) numbers.mask at.source at.destination r.reached in
      let a = few.2 in
      let d = few.3 in
      let one = within_cheap 0 (numbers.first ∷ []) (at_index (index_of link at) at.source) in
      let all = within_cheap 0 numbers.all (at_index (index_of link at) at.source) in
      let second = within_cheap 0 numbers.all (at_index (index_of link at) at.destination) in
      let asked = place_few (at_index (index_of link at) at.destination) in
      let e = ends_few (numbers.first ∷ []) in
      let g = ends_few numbers.all in
      let m = some in
      omega arith

  side_bare : (m : ℕ) (offset : Offset) → place_loads offset + mask_loads numbers.mask ≤ 2
      → Bare (within_formula m numbers.mask numbers.all offset at.width) (max 1 (length numbers.all) + first_ends numbers.all)
  side_bare m offset few =
      let all = within_cheap m numbers.all offset in
      let some = some in
      omega arith

  pub bare_sought : (few : ℕ) (d : Direction) → Bare (sought_formula few link d at numbers) (sought_tests d numbers)
  bare_sought few (Direction.One Source) = side_bare _ at.source (lean (index_of link at) numbers.mask at.source at.destination r.reached).0
  bare_sought few (Direction.One Destination) = side_bare _ at.destination (lean (index_of link at) numbers.mask at.source at.destination r.reached).1
  bare_sought few (Direction.Both And) = bare_some 1 (omega arith)
  bare_sought few (Direction.Both Or) =
      if_case (λ (g : Formula). Bare g (sought_tests (Direction.Both Or) numbers)) (are_at_index few link at numbers) _ _
      (λ e. bare_within _ (grind (arith, nat_tests)) many_bare) (λ e. bare_within _ (grind (arith, nat_tests)) (few_bare few))

-- Decision trees of cases: they read as one case after the other, and have few tests.
use Rattle.flt_gen.proofs.Common.{◌≡◌, ℕ, zero, suc, ◌+◌, ◌-◌, ◌*◌, ◌^◌, ◌<◌, ◌≤◌, List, [], ◌∷◌, ◌++◌, length, map, max, length-take, take, drop, Bool, true}
use Rattle.flt_gen.proofs.Common.{false, Option, Some, None, refl, sym, ap, ap₂, ◌∙◌, subst, arith, add-one, is_empty, is_idle, capture_test, last_test}
use Rattle.flt_gen.proofs.Common.{needed_tests, ◌==◌, ◌&&◌, nat_lt, nat_le, bit_and, nat_tests, and_parts, pow_pos, and_le_r, Direction, Link, Word, HalfWord}
use Rattle.flt_gen.proofs.Common.{Byte, Width, Offset, Fixed, Equal, Elementary, Field, MatchResult, Yes, No, Rejected, reading_of, with, field_at, under_mask}
use Rattle.flt_gen.proofs.Common.{elementary_reads, network_offset, Formula, both, either, all_of, reads, sides, value_needed, value_formula, kind_test}
use Rattle.flt_gen.specs.inside.Cases.{same_words, case_front, mac_place, ip6_place, case_tests, word_test, lowest, is_whole, keeps, all_keep, chain, test_at}
use Rattle.std.{proofs.Math.Nat.mod-lt, specs.List.list_all, specs.List.insert, specs.Prelude.slice_get}
use Rattle.flt_gen.proofs.{Ascending.if_case, Common.FrameKind, Common.ValueType, Common.Net, Common.Value, Common.Source, Common.Destination}
use Rattle.flt_words.specs.declared.token.{Side.Side, Protocol.Protocol}
use Rattle.flt_gen.proofs.Counted.{Bare, bare_within, bare_all, bare_one, bare_some, bare_both, bare_either, bare_split}
use Rattle.flt_gen.proofs.{Exclusive.both_either, Exclusive.or_no, Exclusive.either_assoc, Exclusive.and_yes, Needed.all_put, Needed.idle_holds, Needed.fewer}
use Rattle.flt_gen.specs.{Formula.choose, Formula.Split, inside.Emitted.equals}
use Rattle.flt_gen.specs.declared.cases.Bound.{Bound, TheVariants.Below, TheVariants.From, TheVariants.Exactly}
use Rattle.flt_gen.specs.declared.cases.Case.{Case, TheVariants.Mac, TheVariants.Ip6, TheVariants.IpProto, TheVariants.Ip6Proto}
use Rattle.flt_gen.specs.{declared.elementary.FieldTest.FieldTest, declared.relation.Relation.Relation, Numbers.accessor_tests, Numbers.width_of}
use Rattle.flt_gen.specs.inside.{Code.accessor_offset, Cases.from_test, Cases.middle, Cases.is_parted, Cases.same_word, Cases.decided, Cases.decision}
use Rattle.std.proofs.lemmas.{List.length-map, List.map-append, List.take-append-drop, List.length-drop, List.length-append, Nat.and-not, Nat.and_comm}
use Rattle.flt_ast.specs.declared.qualifiers.Direction.TheVariants as direction

-- ---- which words cases have

-- where a field isn't captured, the next one isn't
abbrev Later : Offset × Width → List (Offset × Width) → Type 0
Later f [] = Unit {0}
Later f (g ∷ gs) = (p : List ℕ) → field_at f.0 f.1 p ≡ None → field_at g.0 g.1 p ≡ None

-- the word of a field whose mask isn't whole has a fixed place, and the next field comes later
abbrev Masked : Offset × Width → List (Offset × Width) → Option ℕ → Type 0
Masked f fs None = Unit {0}
Masked f fs (Some m) = (m < 2 ^ 32) × (f.1 ≡ Word) × ((k : ℕ) × (f.0 ≡ Fixed k)) × Later f fs

-- tests for equality of these fields
abbrev pub Shape : List (Offset × Width) → List Elementary → Type 0
Shape [] [] = Unit {0}
Shape (f ∷ fs) (Field t ∷ ts) = (t.offset ≡ f.0) × (t.width ≡ f.1) × (t.comparison ≡ Equal) × Masked f fs t.mask × Shape fs ts
Shape _ _ = ⊥

abbrev pub Shapes : List (Offset × Width) → List (List Elementary) → Type 0
Shapes fs [] = Unit {0}
Shapes fs (r ∷ rs) = Shape fs r × Shapes fs rs

-- the fields of a case's words
abbrev pub fields_of : Link → Direction → Case → List (Offset × Width)
fields_of link d (Mac a) = (Fixed (mac_place d), Word) ∷ (Fixed (mac_place d + 4), HalfWord) ∷ []
fields_of link d (Ip6 n a) =
    let at = network_offset link + ip6_place d in
    (Fixed (at + 4 * 0), Word) ∷ (Fixed (at + 4 * 1), Word) ∷ (Fixed (at + 4 * 2), Word) ∷ (Fixed (at + 4 * 3), Word) ∷ []
fields_of link d (IpProto n) = (Fixed (network_offset link + 9), Byte) ∷ []
fields_of link d (Ip6Proto n) = (Fixed (network_offset link + 6), Byte) ∷ []
fields_of link d (Case.Relation r) = (accessor_offset link r.protocol r.index, width_of r.size) ∷ []

pub shape_of : (link : Link) (d : Direction) (c : Case) → Shape (fields_of link d c) (case_tests link d c)
shape_of link d (Mac a) = (refl, refl, refl, tt, (refl, refl, refl, tt, tt))
shape_of link d (Ip6 n a) = grind (arith, nat_tests, pow_pos)
shape_of link d _ = (refl, refl, refl, tt, tt)

pub some_fields : (link : Link) (d : Direction) (c : Case) → 0 < length (fields_of link d c)
some_fields link d c = grind arith

-- relations of one accessor
relations_are : (d : Direction) (a b : Relation) → same_words d (Case.Relation a) (Case.Relation b) ≡ true → (a.protocol ≡ b.protocol) × (a.size
    ≡ b.size) × (a.index ≡ b.index)
relations_are d a b e = grind (arith, nat_tests)

pub some_front : (link : Link) (c : Case) → 0 < length (case_front link c)
some_front link c = grind arith

pub alike : (link : Link) (e d : Direction) (a b : Case) → same_words e a b ≡ true → (fields_of link d b ≡ fields_of link d a)
    × (case_front link b ≡ case_front link a)
alike link e d (Case.Relation a) (Case.Relation b) same =
    let h = relations_are e a b same in (
      ap₂ (λ o w. (o, w) ∷ []) (ap₂ (accessor_offset link) (sym h.0) (sym h.2)) (ap width_of (sym h.1)),
      ap (accessor_tests link) (sym h.0),
    )
alike link e d (Mac a) (Mac b) same = (refl, refl)
alike link e d (Ip6 m a) (Ip6 n b) same = (refl, refl)
alike link e d (IpProto a) (IpProto b) same = (refl, refl)
alike link e d (Ip6Proto a) (Ip6Proto b) same = (refl, refl)
alike link e d _ _ same = cc

-- ---- what is read of words

-- a number doesn't keep a bound
abbrev Past : Bound → ℕ → Type 0
Past (Below n) x = n ≤ x
Past (From n) x = x < n
Past (Exactly n) x = ⊥

-- a test whose numbers keep a bound is no of one that doesn't
miss : (t : FieldTest) (b : Bound) (mask : Option ℕ) (v x : ℕ) → ((m : ℕ) → mask ≡ Some m → (m < 2 ^ 32) × (x < 2 ^ 32))
    → keeps b (Some (Field (record t { mask = mask; value = v }))) ≡ true → Past b x → (under_mask mask x == v) ≡ false
miss t (Below n) None v x small k l = grind (arith, nat_tests)
miss t (Below n) (Some mask) v x small k l =
    let s = small mask refl in let under : v + (2 ^ 32 - 1 - mask) < n = grind (arith, nat_tests) in let whole = and-not 32 mask x s.0 s.1 in
    let swap = and_comm mask x in
    let rest : bit_and (2 ^ 32 - 1 - mask) x ≤ 2 ^ 32 - 1 - mask = (let c = and_comm (2 ^ 32 - 1 - mask) x in let r = and_le_r x (2 ^ 32 - 1 - mask)
    in omega arith) in
    let apart : bit_and x mask ≡ v → ⊥ = λ e. omega arith in
    grind (arith, nat_tests)
miss t (From n) None v x small k l = grind (arith, nat_tests)
miss t (From n) (Some mask) v x small k l = grind (arith, nat_tests, and_comm, and_le_r)
miss t (Exactly n) mask v x small k l = absurd l

-- the first test, if there is one, and the tests after it
abbrev first : List Elementary → Option Elementary
first [] = None
first (t ∷ ts) = Some t

abbrev pub rest : List Elementary → List Elementary
rest [] = []
rest (t ∷ ts) = ts

first_is : (ts : List Elementary) (w : ℕ) → slice_get ts w ≡ first (drop w ts)
first_is [] zero = refl
first_is [] (suc w) = refl
first_is (t ∷ ts) zero = refl
first_is (t ∷ ts) (suc w) = first_is ts w

rest_is : (ts : List Elementary) (w : ℕ) → drop (w + 1) ts ≡ rest (drop w ts)
rest_is ts w = ap (λ k. drop k ts) (add-one w) ∙ next ts w
  where
    next : (ts : List Elementary) (w : ℕ) → drop (suc w) ts ≡ rest (drop w ts)
    next (t ∷ ts) (suc w) = next ts w
    next [] zero = refl
    next _ _ = refl

abbrev pub rows : (Case → List Elementary) → ℕ → List Case → List (List Elementary)
rows by w cs = map (λ (c : Case). drop w (by c)) cs

abbrev all_rows : Bound → List (List Elementary) → Bool
all_rows b rs = list_all (λ r. keeps b (first r)) rs

kept_rows : (by : Case → List Elementary) (w : ℕ) (b : Bound) (cs : List Case) → all_keep by w b cs ≡ all_rows b (rows by w cs)
kept_rows by w b [] = refl
kept_rows by w b (c ∷ cs) = ap₂ (λ o z. keeps b o && z) (first_is (by c) w) (kept_rows by w b cs)

pub rows_rest : (by : Case → List Elementary) (w : ℕ) (cs : List Case) → rows by (w + 1) cs ≡ map rest (rows by w cs)
rows_rest by w [] = refl
rows_rest by w (c ∷ cs) = ap₂ (λ x xs. x ∷ xs) (rest_is (by c) w) (rows_rest by w cs)

pub shapes_rest : (f : Offset × Width) (fs : List (Offset × Width)) (rs : List (List Elementary)) → Shapes (f ∷ fs) rs → Shapes fs (map rest rs)
shapes_rest f fs [] h = tt
shapes_rest f fs ((Field t ∷ ts) ∷ rs) h = ((h.0).4, shapes_rest f fs rs h.1)
shapes_rest f fs (_ ∷ rs) h = absurd h.0

shapes_parts : (fs : List (Offset × Width)) (by : Case → List Elementary) (w at : ℕ) (cs : List Case) → Shapes fs (rows by w cs)
    → Shapes fs (rows by w (take at cs)) × Shapes fs (rows by w (drop at cs))
shapes_parts fs by w zero cs h = (tt, h)
shapes_parts fs by w (suc at) [] h = (tt, tt)
shapes_parts fs by w (suc at) (c ∷ cs) h = let parts = shapes_parts fs by w at cs h.1 in ((h.0, parts.0), parts.1)

rows_parts : (by : Case → List Elementary) (w at : ℕ) (cs : List Case) → rows by w (take at cs) ++ rows by w (drop at cs) ≡ rows by w cs
rows_parts by w at cs = sym (map-append (λ (c : Case). drop w (by c)) (take at cs) (drop at cs)) ∙ ap (rows by w) (take-append-drop at cs)

shape_length : (fs : List (Offset × Width)) (r : List Elementary) → Shape fs r → length r ≡ length fs
shape_length [] [] h = refl
shape_length (f ∷ fs) (Field t ∷ ts) h = ap suc (shape_length fs ts h.4)
shape_length _ _ h = absurd h

-- how many tests rows have
abbrev pub sizes : List (List Elementary) → ℕ
sizes [] = 0
sizes (r ∷ rs) = length r + sizes rs

sizes_append : (rs ss : List (List Elementary)) → sizes (rs ++ ss) ≡ sizes rs + sizes ss
sizes_append [] ss = omega arith
sizes_append (r ∷ rs) ss = let h = sizes_append rs ss in omega arith

pub sizes_rest : (f : Offset × Width) (fs : List (Offset × Width)) (rs : List (List Elementary)) → Shapes (f ∷ fs) rs → sizes rs ≡ length rs + sizes
    (map rest rs)
sizes_rest f fs [] h = omega arith
sizes_rest f fs ((Field t ∷ ts) ∷ rs) h = let more = sizes_rest f fs rs h.1 in omega arith
sizes_rest f fs (_ ∷ rs) h = absurd h.0

module _ (link : Link) (p : List ℕ) (n : ℕ) where
  abbrev told : List Elementary → MatchResult
  told ts = reads link (all_of ts) p n

  abbrev pub read_all : List (List Elementary) → MatchResult
  read_all [] = No
  read_all (r ∷ rs) = either (told r) (read_all rs)

  read_append : (rs ss : List (List Elementary)) → read_all (rs ++ ss) ≡ either (read_all rs) (read_all ss)
  read_append [] ss = refl
  read_append (r ∷ rs) ss = ap (either (told r)) (read_append rs ss) ∙ sym (either_assoc (told r) (read_all rs) (read_all ss))

  -- the test of a field, by its number
  abbrev by_field : Offset × Width → Option ℕ → ℕ → MatchResult
  by_field f mask v = reading_of (with (field_at f.0 f.1 p) (λ x. Some (under_mask mask x == v)))

  word_read : (f : Offset × Width) (t : FieldTest) → t.offset ≡ f.0 → t.width ≡ f.1 → t.comparison ≡ Equal → elementary_reads (Field t) p ≡ by_field f
      t.mask t.value
  word_read f t a b c = grind arith

  test_read : (f : Offset × Width) (fs : List (Offset × Width)) (t : FieldTest) (ts : List Elementary) → Shape (f ∷ fs) (Field t ∷ ts)
      → told (Field t ∷ ts) ≡ both (by_field f t.mask t.value) (told ts)
  test_read f fs t ts h = all_put link p n (Field t) ts ∙ ap (λ r. both r (told ts)) (word_read f t h.0 h.1 h.2)

  small_word : (f : Offset × Width) (fs : List (Offset × Width)) (mask : Option ℕ) (x : ℕ) → Masked f fs mask → field_at f.0 f.1 p ≡ Some x → (m : ℕ)
      → mask ≡ Some m → (m < 2 ^ 32) × (x < 2 ^ 32)
  small_word f fs mask x h e m is = grind (arith, mod-lt)

  missed : (f : Offset × Width) (mask : Option ℕ) (v x : ℕ) (r : MatchResult) → field_at f.0 f.1 p ≡ Some x → (under_mask mask x == v) ≡ false
      → both (by_field f mask v) r ≡ No
  missed f mask v x r e miss = ap (λ o. both (reading_of (with o (λ y. Some (under_mask mask y == v)))) r) e ∙ ap (λ b. both (reading_of (Some b)) r) miss

  none_past : (f : Offset × Width) (fs : List (Offset × Width)) (b : Bound) (x : ℕ) (rs : List (List Elementary)) → Shapes (f ∷ fs) rs
      → all_rows b rs ≡ true → field_at f.0 f.1 p ≡ Some x → Past b x → read_all rs ≡ No
  none_past f fs b x [] h a e l = refl
  none_past f fs b x ((Field t ∷ ts) ∷ rs) h a e l =
      let k = and_parts (keeps b (Some (Field t))) (all_rows b rs) a in
      ap₂ either (test_read f fs t ts h.0 ∙ missed f t.mask t.value x (told ts) e (miss t b t.mask t.value x (small_word f fs t.mask x (h.0).3 e) k.0 l))
      (none_past f fs b x rs h.1 k.1 e l)
  none_past f fs b x (_ ∷ rs) h a e l = absurd h.0

  -- the first word isn't captured
  none_there : (f : Offset × Width) (fs : List (Offset × Width)) (rs : List (List Elementary)) → Shapes (f ∷ fs) rs → 0 < length rs
      → field_at f.0 f.1 p ≡ None → read_all rs ≡ Rejected
  none_there f fs [] h some e = absurd (omega arith)
  none_there f fs ((Field t ∷ ts) ∷ rs) h some e = grind (arith, test_read)
  none_there f fs (_ ∷ rs) h some e = absurd h.0

  -- by a test of the first word that parts those that keep two bounds
  halves_read : (f : Offset × Width) (fs : List (Offset × Width)) (k : ℕ) (lower upper : List (List Elementary)) → Shapes (f ∷ fs) lower
      → Shapes (f ∷ fs) upper → all_rows (Below k) lower ≡ true → all_rows (From k) upper ≡ true → 0 < length lower
      → choose (reading_of (with (field_at f.0 f.1 p) (λ x. Some (nat_le k x)))) (read_all upper) (read_all lower) ≡ either (read_all lower) (read_all upper)
  halves_read f fs k lower upper g h a b some = by (field_at f.0 f.1 p) refl
    where
      half : (x : ℕ) → field_at f.0 f.1 p ≡ Some x → (c : Bool) → nat_le k x ≡ c → choose (reading_of (Some c)) (read_all upper) (read_all lower) ≡
          either (read_all lower) (read_all upper)
      half x e true t = let l : k ≤ x = grind (arith, nat_tests) in ap (λ r. either r (read_all upper)) (sym (none_past f fs (Below k) x lower g a e l))
      half x e false t = let l : x < k = grind (arith, nat_tests) in sym (ap (either (read_all lower)) (none_past f fs (From k) x upper h b e l)
          ∙ or_no (read_all lower))

      by : (o : Option ℕ) → field_at f.0 f.1 p ≡ o → choose (reading_of (with o (λ x. Some (nat_le k x)))) (read_all upper) (read_all lower) ≡ either
          (read_all lower) (read_all upper)
      by None e = sym (ap (λ r. either r (read_all upper)) (none_there f fs lower g some e))
      by (Some x) e = half x e (nat_le k x) refl

  -- all have the same first word
  one_word : (f : Offset × Width) (k : ℕ) (mask : Option ℕ) (v : ℕ) → (is_whole mask && v == k) ≡ true → by_field f mask v ≡ by_field f None k
  one_word f k mask v e = grind (arith, nat_tests)

  same_read : (f : Offset × Width) (fs : List (Offset × Width)) (k : ℕ) (rs : List (List Elementary)) → Shapes (f ∷ fs) rs → all_rows (Exactly k) rs ≡
      true → 0 < length rs → read_all rs ≡ both (by_field f None k) (read_all (map rest rs))
  same_read f fs k [] h a some = absurd (omega arith)
  same_read f fs k ((Field t ∷ ts) ∷ rs) h a some =
      let b = and_parts (is_whole t.mask && t.value == k) (all_rows (Exactly k) rs) a in
      ap (λ r. either r (read_all rs)) (test_read f fs t ts h.0 ∙ ap (λ r. both r (told ts)) (one_word f k t.mask t.value b.0))
      ∙ others rs (λ l. same_read f fs k rs h.1 b.1 l)
    where
      others : (qs : List (List Elementary)) → (0 < length qs → read_all qs ≡ both (by_field f None k) (read_all (map rest qs)))
          → either (both (by_field f None k) (told ts)) (read_all qs) ≡ both (by_field f None k) (either (told ts) (read_all (map rest qs)))
      others [] g = or_no _ ∙ ap (both (by_field f None k)) (sym (or_no (told ts)))
      others (q ∷ qs) g = grind (arith, both_either)
  same_read f fs k (_ ∷ rs) h a some = absurd h.0

  first_told : (f : Offset × Width) (fs : List (Offset × Width)) (t : FieldTest) (ts : List Elementary) (rs : List (List Elementary))
      → Shape (f ∷ fs) (Field t ∷ ts) → all_rows (Exactly t.value) ((Field t ∷ ts) ∷ rs) ≡ true → elementary_reads (Field t) p ≡ by_field f None t.value
  first_told f fs t ts rs h a = grind (arith, word_read, one_word)

  all_over : (rs : List (List Elementary)) → Shapes [] rs → 0 < length rs → read_all rs ≡ Yes
  all_over [] h some = absurd (omega arith)
  all_over ([] ∷ rs) h some = refl
  all_over ((t ∷ ts) ∷ rs) h some = absurd h.0

  -- ---- tests that decide nothing are left out

  idle_yes : (f : Offset × Width) (mask : Option ℕ) (v x : ℕ) → (is_empty mask && v == 0) ≡ true → field_at f.0 f.1 p ≡ Some x → by_field f mask v ≡ Yes
  idle_yes f mask v x e is = ap (λ o. reading_of (with o (λ y. Some (under_mask mask y == v)))) is ∙ ap (λ b. reading_of (Some b)) (idle_holds mask v x e)

  -- an idle test in front of others
  idle_read : (f g : Offset × Width) (gs : List (Offset × Width)) (t u : FieldTest) (us : List Elementary)
      → Shape (f ∷ g ∷ gs) (Field t ∷ Field u ∷ us) → is_idle (Field t) ≡ true → told (Field t ∷ Field u ∷ us) ≡ told (Field u ∷ us)
  idle_read f g gs t u us h e = test_read f (g ∷ gs) t (Field u ∷ us) h ∙ by (field_at f.0 f.1 p) refl
    where
      by : (o : Option ℕ) → field_at f.0 f.1 p ≡ o → both (by_field f t.mask t.value) (told (Field u ∷ us)) ≡ told (Field u ∷ us)
      by o is = grind (arith, test_read, idle_yes)

  last_read : (f : Offset × Width) (t : FieldTest) → Shape (f ∷ []) (Field t ∷ []) → elementary_reads (last_test (Field t)) p ≡ elementary_reads (Field t) p
  last_read f t h =
      if_case (λ u. elementary_reads u p ≡ elementary_reads (Field t) p) (is_idle (Field t)) (capture_test (Field t)) (Field t)
      (λ e. by e (field_at t.offset t.width p) refl) (λ e. refl)
    where
      by : is_idle (Field t) ≡ true → (o : Option ℕ) → field_at t.offset t.width p ≡ o → elementary_reads (capture_test (Field t)) p ≡
          elementary_reads (Field t) p
      by e None is = grind arith
      by e (Some x) is =
          let low : nat_le 0 x ≡ true = grind (arith, nat_tests) in
          ap (λ o. reading_of (with o (λ y. Some (nat_le 0 y)))) is ∙ ap (λ b. reading_of (Some b)) low
          ∙ sym (word_read f t h.0 h.1 h.2 ∙ idle_yes f t.mask t.value x e (ap₂ (λ o w. field_at o w p) (sym h.0) (sym h.1) ∙ is))

  pub needed_read : (fs : List (Offset × Width)) (r : List Elementary) → Shape fs r → told (needed_tests r) ≡ told r
  needed_read [] [] h = refl
  needed_read (f ∷ []) (Field t ∷ []) h = last_read f t h
  needed_read (f ∷ g ∷ gs) (Field t ∷ Field u ∷ us) h =
      let more = needed_read (g ∷ gs) (Field u ∷ us) h.4 in
      if_case (λ xs. told xs ≡ told (Field t ∷ Field u ∷ us)) (is_idle (Field t)) (needed_tests (Field u ∷ us)) (Field t ∷ needed_tests (Field u ∷ us))
      (λ e. more ∙ sym (idle_read f g gs t u us h e)) (λ e. all_put link p n (Field t) (needed_tests (Field u ∷ us))
      ∙ ap (both (elementary_reads (Field t) p)) more)
  needed_read (f ∷ []) (Field t ∷ u ∷ us) h = absurd h.4
  needed_read (f ∷ g ∷ gs) (Field t ∷ _) h = absurd h.4
  needed_read _ _ h = absurd h

  -- a value, by the tests that decide
  sides_same : (d : Direction) (s t u v : List Elementary) → told s ≡ told u → told t ≡ told v → reads link (sides d s t) p n ≡ reads link (sides d u v) p n
  sides_same d s t u v h k = grind arith

  pub value_same : (k : ValueType) (q : Option Protocol) (d : Direction) (v : Value) → reads link (value_needed link k q d v) p n ≡ reads link
      (value_formula link k q d v) p n
  value_same Net q d (Value.Ip6 a m) =
      let ts : Side → List Elementary = λ s. case_tests link (direction.One s) (Ip6 m a) in let same : (s : Side) → told (needed_tests (ts s)) ≡ told (ts s) =
      λ s. needed_read (fields_of link (direction.One s) (Ip6 m a)) (ts s) (shape_of link (direction.One s) (Ip6 m a)) in
      ap (both (elementary_reads (kind_test link FrameKind.Ip6) p)) (sides_same d _ _ _ _ (same Source) (same Destination))
  value_same k q d v = refl

  -- ---- cases in another order

  -- of tests of the same words none is rejected where one is yes
  never_both : (fs : List (Offset × Width)) (r s : List Elementary) → Shape fs r → Shape fs s → told r ≡ Yes → told s ≡ Rejected → ⊥
  never_both [] [] [] h k y j = cc
  never_both [] [] _ h k y j = absurd k
  never_both (f ∷ fs) (Field t ∷ ts) (Field u ∷ us) h k y j = grind (arith, never_both fs ts us h.4 k.4, test_read)
  never_both (f ∷ fs) (Field t ∷ ts) _ h k y j = absurd k
  never_both _ _ _ h k y j = absurd h

  pub read_inserted : (fs : List (Offset × Width)) (r : List Elementary) (rs ss : List (List Elementary)) → Shape fs r → Shapes fs rs
      → read_all (rs ++ r ∷ ss) ≡ either (told r) (read_all (rs ++ ss))
  read_inserted fs r [] ss h k = refl
  read_inserted fs r (q ∷ rs) ss h k = grind (arith, read_inserted fs r rs ss h k.1, never_both)

-- ---- decisions

module _ (link : Link) where
  -- a formula reads as rows do, one after the other, and has few tests: one more for each row, but for the few that are one after the other
  abbrev Good : ℕ → List (Offset × Width) → List (List Elementary) → Formula → Type 0
  Good few fs rs f = ((p : List ℕ) (n : ℕ) → reads link f p n ≡ read_all link p n rs)
      × (0 < length fs → 0 < length rs → Bare f (sizes rs + (length rs - max 1 few)))

  row_bare : (fs : List (Offset × Width)) (r : List Elementary) → Shape fs r → 0 < length fs → Bare (all_of (needed_tests r)) (length r)
  row_bare fs r h some = let e = shape_length fs r h in let few = fewer r in bare_all (needed_tests r) (length r) (omega arith) (omega arith)

  chain_good : (few : ℕ) (by : Case → List Elementary) (w : ℕ) (fs : List (Offset × Width)) (cs : List Case) → Shapes fs (rows by w cs)
      → Good few fs (rows by w cs) (chain by w cs)
  chain_good few by w fs [] h = (λ p n. refl, λ some l. absurd (omega arith))
  chain_good few by w fs (c ∷ []) h = grind (arith, needed_read, or_no, bare_within, row_bare)
  chain_good few by w fs (c ∷ d ∷ cs) h = grind (arith, chain_good few by w fs (d ∷ cs) h.1, needed_read, bare_within, bare_either, row_bare)

  same_good : (few : ℕ) (next : Formula) (fs : List (Offset × Width)) (r : List Elementary) (rs : List (List Elementary)) → Shapes fs (r ∷ rs)
      → all_rows (Exactly (lowest (first r))) (r ∷ rs) ≡ true → ((gs : List (Offset × Width)) → Shapes gs (map rest (r ∷ rs))
      → Good few gs (map rest (r ∷ rs)) next) → Good few fs (r ∷ rs) (same_word (first r) (first (rest r)) next)
  same_good few next fs [] rs h a ok = cc
  same_good few next (f ∷ []) (Field t ∷ []) rs h a ok = (
    λ p n. first_told link p n f [] t [] rs h.0 a ∙ sym (and_yes _) ∙ ap (both (by_field link p n f None t.value))
        (sym (all_over link p n (map rest ((Field t ∷ []) ∷ rs)) (shapes_rest f [] ((Field t ∷ []) ∷ rs) h) (omega arith)))
        ∙ sym (same_read link p n f [] t.value ((Field t ∷ []) ∷ rs) h a (omega arith)),
    λ some l. bare_some _ (omega arith),
  )
  same_good few next (f ∷ fs) (Field t ∷ u ∷ us) rs h a ok =
      let more = ok fs (shapes_rest f fs ((Field t ∷ u ∷ us) ∷ rs) h) in let long = shape_length fs (u ∷ us) (h.0).4 in
      let sum = sizes_rest f fs ((Field t ∷ u ∷ us) ∷ rs) h in let same = length-map rs rest in (
        λ p n. ap₂ both (first_told link p n f fs t (u ∷ us) rs h.0 a) (more.0 p n)
            ∙ sym (same_read link p n f fs t.value ((Field t ∷ u ∷ us) ∷ rs) h a (omega arith)),
        λ some l. bare_within _ (omega arith) (bare_both (bare_one (Field t)) (more.1 (omega arith) (omega arith))),
      )
  same_good few next (f ∷ fs) (Field t ∷ []) rs h a ok = absurd (h.0).4
  same_good few next _ _ rs h a ok = absurd h.0

  parted_good : (few : ℕ) (fs : List (Offset × Width)) (k : ℕ) (r : List Elementary) (lower upper : List (List Elementary)) (low high : Formula)
      → Shapes fs (r ∷ lower) → Shapes fs upper → all_rows (Below k) (r ∷ lower) ≡ true → all_rows (From k) upper ≡ true → Good few fs (r ∷ lower) low
      → Good few fs upper high → 0 < length upper → few < length (r ∷ lower) + length upper → Good few fs (r ∷ lower ++ upper)
      (Split (from_test (first r) k) high low)
  parted_good few fs k [] lower upper low high g h a b l m some many = cc
  parted_good few (f ∷ fs) k (Field t ∷ ts) lower upper low high g h a b l m some many =
      let sum = sizes_append lower upper in let long = length-append lower upper in (
        λ p n. ap₂ (choose _) (m.0 p n) (l.0 p n) ∙ ap₂ (λ o w. choose (reading_of (with (field_at o w p) (λ x. Some (nat_le k x)))) (read_all link p n upper)
            (read_all link p n ((Field t ∷ ts) ∷ lower))) (g.0).0 (g.0).1 ∙ halves_read link p n f fs k ((Field t ∷ ts) ∷ lower) upper g h a b (omega arith)
            ∙ sym (read_append link p n ((Field t ∷ ts) ∷ lower) upper),
        λ words z. bare_within _ (omega arith) (bare_split (m.1 words some) (l.1 words (omega arith))),
      )
  parted_good few _ k _ lower upper low high g h a b l m some many = absurd g.0

  decided_good : (few : ℕ) (by : Case → List Elementary) (next : ℕ → List Case → Formula)
      → ((w : ℕ) (fs : List (Offset × Width)) (cs : List Case) → Shapes fs (rows by w cs) → Good few fs (rows by w cs) (next w cs))
      → (w : ℕ) (fs : List (Offset × Width)) (cs : List Case) → Shapes fs (rows by w cs) → Good few fs (rows by w cs) (decided few next by w cs)
  decided_good few by next ok w fs cs h =
      if_case (Good few fs (rows by w cs)) (nat_le (length cs) few) _ _ (λ e. chain_good few by w fs cs h)
      (λ e. if_case (Good few fs (rows by w cs)) (all_keep by w (Exactly (lowest (test_at by w cs 0))) cs) _ _
      (λ a. same cs h (let t : few < length cs = grind (arith, nat_tests) in omega arith) a)
      (λ a. if_case (Good few fs (rows by w cs)) (is_parted by w cs (middle by w cs)) _ _ (λ b. parts cs (middle by w cs) h (grind (arith, nat_tests))
      b) (λ b. chain_good few by w fs cs h)))
    where
      same : (ds : List Case) → Shapes fs (rows by w ds) → 0 < length ds → all_keep by w (Exactly (lowest (test_at by w ds 0))) ds ≡ true
          → Good few fs (rows by w ds) (same_word (test_at by w ds 0) (test_at by (w + 1) ds 0) (next (w + 1) ds))
      same [] h some a = absurd (omega arith)
      same (d ∷ ds) h some a =
          subst (Good few fs (rows by w (d ∷ ds))) (ap₂ (λ t u. same_word t u (next (w + 1) (d ∷ ds))) (sym (first_is (by d) w))
          (sym (first_is (by d) (w + 1) ∙ ap first (rest_is (by d) w)))) (same_good few (next (w + 1) (d ∷ ds)) fs (drop w (by d)) (rows by w ds) h
          (ap (λ t. all_rows (Exactly (lowest t)) (rows by w (d ∷ ds))) (sym (first_is (by d) w))
          ∙ sym (kept_rows by w (Exactly (lowest (word_test by w d))) (d ∷ ds)) ∙ a)
          (λ gs g. let same = rows_rest by w (d ∷ ds) in subst (λ rs. Good few gs rs (next (w + 1) (d ∷ ds))) same
          (ok (w + 1) gs (d ∷ ds) (subst (Shapes gs) (sym same) g))))

      parts : (ds : List Case) (at : ℕ) → Shapes fs (rows by w ds) → few < length ds → is_parted by w ds at ≡ true → Good few fs (rows by w ds)
          (Split (from_test (test_at by w ds 0) (lowest (test_at by w ds at))) (next w (drop at ds)) (next w (take at ds)))
      parts [] at h many e = grind (arith, nat_tests)
      parts (d ∷ ds) zero h many e = cc
      parts (d ∷ ds) (suc at) h many e =
          let k = lowest (test_at by w (d ∷ ds) (suc at)) in let b = and_parts (nat_lt (suc at) (length (d ∷ ds))) _ (and_parts (nat_lt 0 (suc at)) _ e).1 in
          let c = and_parts (all_keep by w (Below k) (d ∷ take at ds)) (all_keep by w (From k) (drop at ds)) b.1 in
          let shapes = shapes_parts fs by w (suc at) (d ∷ ds) h in let some : suc at < length (d ∷ ds) = (let t = b.0 in grind (arith, nat_tests)) in
          subst (λ rs. Good few fs rs (Split (from_test (word_test by w d) k) (next w (drop at ds)) (next w (d ∷ take at ds))))
          (rows_parts by w (suc at) (d ∷ ds)) (subst (λ t. Good few fs (rows by w (d ∷ take at ds) ++ rows by w (drop at ds))
          (Split (from_test t k) (next w (drop at ds)) (next w (d ∷ take at ds)))) (sym (first_is (by d) w))
          (parted_good few fs k (drop w (by d)) (rows by w (take at ds)) (rows by w (drop at ds)) (next w (d ∷ take at ds)) (next w (drop at ds))
          shapes.0 shapes.1 (sym (kept_rows by w (Below k) (d ∷ take at ds)) ∙ c.0) (sym (kept_rows by w (From k) (drop at ds)) ∙ c.1)
          (ok w fs (d ∷ take at ds) shapes.0) (ok w fs (drop at ds) shapes.1)
          (omega (arith, length-map (drop at ds) (λ (c : Case). drop w (by c)), length-drop at ds)) (omega (
            arith,
            length-map (take at ds) (λ (c : Case). drop w (by c)),
            length-map (drop at ds) (λ (c : Case). drop w (by c)),
            length-drop at ds,
            length-take at ds,
          ))))

  pub decision_good : (by : Case → List Elementary) (few k w : ℕ) (fs : List (Offset × Width)) (cs : List Case) → Shapes fs (rows by w cs)
      → Good few fs (rows by w cs) (decision few k by w cs)
  unfolding decision
  decision_good by few zero w fs cs h = chain_good few by w fs cs h
  decision_good by few (suc k) w fs cs h = decided_good few by (decision few k by) (decision_good by few k) w fs cs h

-- ---- cases that have the words of one

abbrev pub Likes : Direction → Case → List Case → Type 0
Likes e k [] = Unit {0}
Likes e k (c ∷ cs) = (same_words e k c ≡ true) × Likes e k cs

pub shapes_of : (link : Link) (e d : Direction) (k : Case) (cs : List Case) → Likes e k cs → Shapes (fields_of link d k) (rows (case_tests link d) 0 cs)
shapes_of link e d k [] h = tt
shapes_of link e d k (c ∷ cs) h = (subst (λ fs. Shape fs (case_tests link d c)) (alike link e d k c h.0).0 (shape_of link d c), shapes_of link e d k cs h.1)

pub alike_alike : (e : Direction) (a b c : Case) → same_words e a b ≡ true → same_words e b c ≡ true → same_words e a c ≡ true
alike_alike e a b c f g = grind (arith, relations_are, nat_tests)

pub self_relation : (r : Relation) → (equals r.protocol r.protocol && (r.size == r.size && r.index == r.index)) ≡ true
self_relation r = grind (arith, nat_tests)

pub likes_put : (e : Direction) (k c : Case) (i : ℕ) (cs : List Case) → same_words e k c ≡ true → Likes e k cs → Likes e k (insert cs i c)
likes_put e k c zero cs f h = (f, h)
likes_put e k c (suc i) [] f h = (f, tt)
likes_put e k c (suc i) (d ∷ ds) f h = (h.0, likes_put e k c i ds f h.1)

pub sizes_put : (by : Case → List Elementary) (c : Case) (i : ℕ) (cs : List Case) → sizes (rows by 0 (insert cs i c)) ≡ length (by c) + sizes (rows by 0 cs)
sizes_put by c zero cs = refl
sizes_put by c (suc i) [] = refl
sizes_put by c (suc i) (d ∷ ds) = let h = sizes_put by c i ds in omega arith

pub length_put : (c : Case) (i : ℕ) (cs : List Case) → length (insert cs i c) ≡ length cs + 1
length_put c i cs = omega (arith, length-append (take i cs) (c ∷ drop i cs), length-append (take i cs) (drop i cs), ap length (take-append-drop i cs))

pub read_put : (link : Link) (p : List ℕ) (n w : ℕ) (by : Case → List Elementary) (fs : List (Offset × Width)) (c : Case) (i : ℕ) (cs : List Case)
    → Shape fs (drop w (by c)) → Shapes fs (rows by w cs) → read_all link p n (rows by w (insert cs i c)) ≡ either
    (reads link (all_of (drop w (by c))) p n) (read_all link p n (rows by w cs))
read_put link p n w by fs c i cs h k =
    ap (read_all link p n) (map-append (λ (c : Case). drop w (by c)) (take i cs) (c ∷ drop i cs))
    ∙ read_inserted link p n fs (drop w (by c)) (rows by w (take i cs)) (rows by w (drop i cs)) h (shapes_parts fs by w i cs k).0
    ∙ ap (λ rs. either (reads link (all_of (drop w (by c))) p n) (read_all link p n rs)) (rows_parts by w i cs)

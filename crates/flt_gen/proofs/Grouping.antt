-- The formula of a truth in which hosts or ports are looked for together reads as the truth's own, and has no more tests.
use Rattle.flt_words.specs.declared.token.Protocol.TheVariants as protocol
use Rattle.cap_octet.specs.declared.link.Link.TheVariants as link
use Rattle.flt_gen.specs.declared.elementary.FrameKind.TheVariants as kind
use Rattle.flt_ast.specs.declared.qualifiers.Direction.TheVariants as direction
use Rattle.flt_ast.specs.Counts as count
use Rattle.flt_gen.proofs.Ascending.{if_case, Each, each_is, Searchable, Reached, Ready, Ordered, Points, ordered_inserted, points_inserted, length_inserted}
use Rattle.flt_gen.proofs.Common.{◌≡◌, ℕ, ◌+◌, ◌-◌, ◌*◌, ◌<◌, ◌≤◌, max, List, [], ◌∷◌, length, Bool, true, false, Option, Some, None, refl, sym, ap, ap₂, ◌∙◌}
use Rattle.flt_gen.proofs.Common.{subst, arith, ◌==◌, ◌||◌, ◌&&◌, nat_lt, nat_le, if◌then◌else◌, suc-mul, nat_tests, and_parts, or_parts, Protocol, And, Or}
use Rattle.flt_gen.proofs.Common.{ValueType, Direction, CompleteQualifiers, Value, Interval, index_of, Sides, FrameKind, network_offset, not, map, and-false}
use Rattle.flt_gen.proofs.Common.{inl, inr, sought_formula, sought_tests, has_addresses, joined_all, left_out, high_mask, cut, address_places}
use Rattle.flt_gen.proofs.Common.{most_in_turn, port_places}
use Rattle.flt_gen.proofs.Common.{ip_transport, ip6_transport, sought, Entry, TruthTree, check, cast, sized, bare, valued, qualified, compared, denied, joined}
use Rattle.flt_gen.proofs.Common.{is_unfilled, any_primitive, Link, Formula, Both, Either, Except, both, either, negation, Numbers, reads, check_formula}
use Rattle.flt_gen.proofs.Common.{cast_formula, sized_formula, hosts_formula, port_formula, relation_formula, qualified_needed, formula, first_ends, Group}
use Rattle.flt_gen.proofs.Common.{no_group, with_member, same_type, same_protocol, same_direction, goes_with, member_of, group_and, larger_group, is_searched}
use Rattle.flt_gen.proofs.Common.{numbers_of, several_formula, accessor_tests, accessor_test_count, guarded_formula, Elementary, with, value_formula}
use Rattle.flt_gen.proofs.Counted.{Sized, Bare, bare_within, bare_both, bare_either, bare_else, bare_after, bare_check, bare_cast, of_kinds, bare_hosts}
use Rattle.flt_gen.proofs.Together.{Fitting, fitting_small, unmasked_fitting, address_fitting, PortsReady, members_read, members_more, members_alone}
use Rattle.flt_gen.specs.inside.Group.{with_case, shares_words, case_goes_with, larger_with, together_formula, entry_formula, entry_of, leaf_formula, fewest}
use Rattle.flt_gen.proofs.Ascending.{is_in, is_within, within_inserted, within_joined, searchable_joined, ends_few, one_point, joined_few, joined_points}
use Rattle.flt_gen.proofs.Common.{rows_formula, group_formula, or_any, or_group, grouped_formula, MOST_TOGETHER, FEWEST_RANGES, option_map_or, truth_tests}
use Rattle.flt_gen.proofs.{Counted.bare_ports, Counted.bare_one, Once.relation_sizes, Once.guarded_sizes, Once.relation_same, Once.all_read, Once.guarded_read}
use Rattle.flt_gen.proofs.{Together.member_reads, Together.IsMember, Together.member_tests, Together.several_are, Together.member_is, Numbers.indexed_same}
use Rattle.flt_gen.specs.{inside.Group.fewest_either, declared.cases.Case.Case}
use Rattle.flt_gen.proofs.Deciding.{some_front, rows, Likes, likes_put, length_put, alike, alike_alike, self_relation, value_same}
use Rattle.flt_gen.proofs.EitherSide.{one_formula, one_size, list_read, list_size, list_alone, list_more, none_size, size_put, list_good, like_either}
use Rattle.flt_gen.proofs.{Exclusive.or_no, Exclusive.both_either, Exclusive.either_assoc, Search.Merged, Search.bare_sought, Needed.bare_needed}
use Rattle.flt_gen.proofs.Prefixes.{uncut, Idle, idle_sought, cut_in, cut_within, cut_order, cut_apart}
use Rattle.std.{specs.Prelude.◌⊎◌, specs.Prelude.count_by, specs.Prelude.is_none, proofs.lemmas.List.length-map}
use Rattle.flt_gen.specs.inside.Cases.{case_of, same_words, key_of, case_front, insert_case, are_either, list_formula}
use Rattle.cap_octet.specs.declared.link.Link.TheVariants.{Ether}
use Rattle.flt_words.specs.declared.token.Size.{Size}
use Rattle.flt_ast.specs.Counts.{value_tests}

-- an entry reads as the value or comparison that it is, and has no more tests how many tests an entry has
abbrev pub entry_tests : Entry → ℕ
entry_tests (Entry.Value q v) = value_tests q v
entry_tests (Entry.Relation r) = accessor_test_count r.protocol + 1

pub entry_bare : (link : Link) (e : Entry) → Bare (entry_formula link e) (entry_tests e)
entry_bare link (Entry.Value q v) = bare_needed link q.value_type q.protocol q.direction v
entry_bare link (Entry.Relation r) = grind (arith, bare_within, guarded_sizes, bare_one)

-- an entry stands for a truth
pub record IsEntry (link : Link) (a : TruthTree) (e : Entry) : Type 0 where
  pub few : entry_tests e ≤ truth_tests a
  pub same : (p : List ℕ) (n : ℕ) → reads link (entry_formula link e) p n ≡ reads link (formula link a) p n

pub entry_is : (link : Link) (a : TruthTree) → Each (entry_of a) (IsEntry link a)
entry_is link a = grind (arith, value_same, guarded_read, indexed_same)

-- how many tests members have one by one
abbrev entries_tests : List Entry → ℕ
entries_tests [] = 0
entries_tests (e ∷ es) = entry_tests e + entries_tests es

abbrev group_tests : Group → ℕ
group_tests group = entries_tests group.entries

-- a group with members: what its lists are, and how its members, of which all but the first look for ms, read
pub record Held (group : Group) (ms : List Interval) : Type 0 where
  pub order : group.first.low ≤ group.first.high
  pub merged : 2 ≤ length group.entries → Merged group.qualifiers.direction
  pub ascends : Ordered 0 group.all
  pub all_within : (y : ℕ) → is_within y group.all ≡ is_within y (group.first ∷ ms)
  pub all_count : length group.all ≡ length group.entries
  pub points : group.is_plain ≡ true → (group.first.low ≡ group.first.high) × Points group.all
  pub counted : length group.entries * member_tests (has_addresses group.qualifiers.value_type) group.qualifiers.protocol group.qualifiers.direction
      ≤ group_tests group
  pub rows : (link : Link) (p : List ℕ) (n : ℕ) → reads link (rows_formula link group.entries) p n ≡ members_read link p n
      (has_addresses group.qualifiers.value_type) group.qualifiers.protocol group.qualifiers.direction group.first ms

-- a group of cases of this direction, which have the words of one, of which another one stands first
pub record Listed (d : Direction) (group : Group) : Type 0 where
  pub kind : Case
  pub first : Case
  pub is_first : group.case ≡ Some first
  pub first_like : same_words d kind first ≡ true
  pub like : Likes d kind group.cases
  pub some : 0 < length group.cases
  pub all_count : length group.cases ≡ length group.entries
  pub counted : (link : Link) → length (case_front link kind) + list_size (are_either d kind) link d group.cases + length group.cases ≤ 1 + group_tests group
  pub rows_are : (link : Link) (p : List ℕ) (n : ℕ) → reads link (rows_formula link group.entries) p n
      ≡ both (all_read link p n (case_front link kind)) (list_read (are_either d kind) link d first group.cases p n)

-- a group that waits: it has no members, or numbers or cases
pub data Kept (group : Group) : Type 0 where
  nothing : group.entries ≡ [] → group.all ≡ [] → group.cases ≡ [] → group.case ≡ None → Kept group
  numbered : 0 < length group.entries → group.case ≡ None → (ms : List Interval) → Held group ms → Kept group
  listed : 0 < length group.entries → Listed group.qualifiers.direction group → Kept group

pub kept_none : Kept no_group
kept_none = nothing refl refl refl refl

-- several members' formula has no more tests
several_hosts_few : (protocol : Option Protocol) (d : Direction) (n x : ℕ) → 1 + x ≤ n → of_kinds protocol (1 + (n * count.side_tests d 1 + x)) ≤ n *
    count.ip4_tests protocol d
several_hosts_few protocol d n x l = grind arith

several_ports_few : (protocol : Option Protocol) (d : Direction) (n x : ℕ) → 2 ≤ n → 1 + x ≤ n → 1 + count.transport_tests protocol + 1 +
    (n * count.side_tests d 1 + x) + (1 + count.transport_tests protocol + (n * count.side_tests d 1 + x)) ≤ n * count.port_tests protocol d 1
several_ports_few protocol d n x l m = grind arith

-- numbers of a group with members that are one number each, of which there are two at least, or of three others
abbrev Numbered : Numbers → ℕ → Type 0
Numbered numbers n =
    ((max 1 (length numbers.all) + first_ends numbers.all ≤ n) × (first_ends (numbers.first ∷ []) ≡ 0) × (2 ≤ n)) ⊎ ((max 1 (length numbers.all) ≤ n) × (3 ≤ n))

sought_few : (d : Direction) (numbers : Numbers) (n : ℕ) → Numbered numbers n → 2 ≤ n → sought_tests d numbers ≤ n * count.side_tests d 1 + (n - 1)
sought_few d numbers n h two = grind (arith, nat_tests, ends_few)

offset_few : (link : Link) → network_offset link ≤ 16
offset_few link = grind arith

address_reached : (link : Link) (k : FrameKind) (mask : Option ℕ) → let at = address_places link k in Reached (index_of link at) mask at.source at.destination
address_reached link k mask = grind (arith, offset_few)

module _ (link : Link) (q : CompleteQualifiers) (numbers : Numbers) (n : ℕ) (h : Numbered numbers n) (two : 2 ≤ n) where
  sought_bare : (few : ℕ) (at : Sides) → Ready link at numbers → Bare (sought_formula few link q.direction at numbers)
      (n * count.side_tests q.direction 1 + (n - 1))
  sought_bare few at r = bare_within _ (sought_few q.direction numbers n h two) (bare_sought link at numbers r few q.direction)

  abbrev asked : ℕ → Sides → Formula
  asked few at = sought_formula few link q.direction at numbers

  hosts_bare : ((f : FrameKind) → Ready link (address_places link f) numbers) → Bare (hosts_formula link q.protocol
      (asked (most_in_turn q.protocol numbers.first)))
      (n * count.ip4_tests q.protocol q.direction)
  hosts_bare r = bare_within _ (several_hosts_few q.protocol q.direction n (n - 1) (omega arith))
      (bare_hosts link q.protocol (asked _) _ (omega arith) (λ f. bare_after (sought_bare _ _ (r f))))

  ports_bare : PortsReady link numbers → Bare (port_formula link q.protocol (asked 0)) (n * count.port_tests q.protocol q.direction 1)
  ports_bare r = bare_within _ (several_ports_few q.protocol q.direction n (n - 1) two (omega arith))
      (bare_ports link q.protocol (asked 0) _ (sought_bare 0 _ r.0) (sought_bare 0 _ r.1))

  bare_several : (k : Bool) → (k ≡ true → (f : FrameKind) → Ready link (address_places link f) numbers)
      → (k ≡ false → PortsReady link numbers) → Bare (several_formula link q k numbers) (n * member_tests k q.protocol q.direction)
  bare_several true r s = hosts_bare (r refl)
  bare_several false r s = ports_bare (s refl)

-- the numbers of a group
searchable_cut : (last : ℕ) (first : Interval) (is : List Interval) → Idle last first is → Searchable is → Searchable (map (cut last) is)
searchable_cut last first [] h up = absurd up
searchable_cut last first (i ∷ is) h up = cut_apart last 0 first (i ∷ is) h up

ready : (link : Link) (at : Sides) (b : Bool) (group : Group) (ms : List Interval) → Held group ms → 1 ≤ length group.entries
    → Fitting b at → ((mask : Option ℕ) → (b ≡ false → mask ≡ None) → Reached (index_of link at) mask at.source at.destination)
    → Ready link at (sought b group.first group.all)
ready link at b group ms h some fit reached =
    let is = joined_all group.all in let last = left_out b group.first is in let idle = idle_sought b group.first is in
    record {
      order = cut_order last group.first group.first is idle idle.first_aligned h.order;
      all = searchable_cut last group.first is idle (searchable_joined group.all (let c = h.all_count in omega arith) h.ascends);
      others_are = refl;
      first_in = λ p x e inside.
          let small = fitting_small b at group.first is fit p x (inl e) in
          let here : is_in x group.first ≡ true = sym (cut_in last x group.first group.first is idle idle.first_aligned small) ∙ inside in
          cut_within last x group.first is idle small ∙ within_joined x group.all h.ascends ∙ h.all_within x ∙ ap (λ c. c || is_within x ms) here;
      reached = reached (high_mask last) (λ e. ap (λ c. high_mask (left_out c group.first is)) e);
    }

-- the numbers of a group are searched in all places where its members may be
module _ (link : Link) (group : Group) (ms : List Interval) (h : Held group ms) (some : 1 ≤ length group.entries) where
  abbrev k : Bool
  k = has_addresses group.qualifiers.value_type

  abbrev masked : Bool
  masked = k && not group.is_plain

  addresses_ready : (f : FrameKind) → Ready link (address_places link f) (numbers_of group)
  addresses_ready f = ready link (address_places link f) masked group ms h some (address_fitting masked link f) (λ mask _. address_reached link f mask)

  ports_ready : k ≡ false → PortsReady link (numbers_of group)
  ports_ready e =
      let no = ap (λ c. c && not group.is_plain) e in let l = offset_few link in (
        ready link (port_places (ip_transport link)) masked group ms h some (unmasked_fitting masked (port_places (ip_transport link)) no)
            (λ mask f. (f no, refl)),
        ready link (port_places (ip6_transport link)) masked group ms h some (unmasked_fitting masked (port_places (ip6_transport link)) no)
            (λ mask f. (omega arith, omega arith, omega arith, omega arith)),
      )

-- a group of members with numbers is searched by how many they are
by_numbers : (group : Group) → group.case ≡ None → is_searched group ≡ nat_le (if group.is_plain then 2 else FEWEST_RANGES) (length group.entries)
by_numbers group e = ap (λ o. nat_le (fewest o group.qualifiers.direction group.is_plain) (length group.entries)) e

group_bare_several : (link : Link) (group : Group) (ms : List Interval) → Held group ms → nat_le (if group.is_plain then 2 else FEWEST_RANGES)
    (length group.entries) ≡ true → Bare (several_formula link group.qualifiers (has_addresses group.qualifiers.value_type) (numbers_of group))
    (group_tests group)
group_bare_several link group ms h e = by group.is_plain refl e
  where
    n : ℕ
    n = length group.entries

    k : Bool
    k = has_addresses group.qualifiers.value_type

    with_numbers : Numbered (numbers_of group) n → 2 ≤ n → Bare (several_formula link group.qualifiers k (numbers_of group)) (group_tests group)
    with_numbers few two =
        bare_within _ h.counted (bare_several link group.qualifiers (numbers_of group) n few two k
        (λ e f. addresses_ready link group ms h (omega arith) f) (λ e. ports_ready link group ms h (omega arith) e))

    length_cut : (b : Bool) → length (sought b group.first group.all).all ≡ length (joined_all group.all)
    length_cut b = length-map (joined_all group.all) (cut (left_out b group.first (joined_all group.all)))

    by : (b : Bool) → group.is_plain ≡ b → nat_le (if b then 2 else FEWEST_RANGES) n ≡ true
        → Bare (several_formula link group.qualifiers k (numbers_of group)) (group_tests group)
    by true plain e =
        let two : 2 ≤ n = grind (arith, nat_tests) in let c = h.all_count in let pts = h.points plain in
        let few = joined_points group.all (omega arith) pts.1 in let off : (k && not group.is_plain) ≡ false = ap (λ b. k && not b) plain ∙ and-false k in
        let point : first_ends (cut 0 group.first ∷ []) ≡ 0 = one_point (cut 0 group.first) (let e = pts.0 in omega arith) in
        with_numbers (subst (λ b. Numbered (sought b group.first group.all) n) (sym off)
        (inl (subst (λ (is : List Interval). max 1 (length is) + first_ends is ≤ n) (sym (uncut 0 (joined_all group.all) refl)) (omega arith), point, two))) two
    by false plain e =
        let three : 3 ≤ n = grind (arith, nat_tests) in let c = h.all_count in let few = joined_few group.all (omega arith) in
        let same = length_cut (k && not group.is_plain) in
        with_numbers (inr (omega arith, three)) (omega arith)

rows_bare : (link : Link) (es : List Entry) → 0 < length es → Bare (rows_formula link es) (entries_tests es)
rows_bare link [] l = absurd (omega arith)
rows_bare link (e ∷ []) l = bare_within _ (omega arith) (entry_bare link e)
rows_bare link (e ∷ f ∷ es) l = bare_either (entry_bare link e) (rows_bare link (f ∷ es) (omega arith))

-- a group of cases has few tests, and reads as one after the other
listed_is : (link : Link) (group : Group) → Listed group.qualifiers.direction group → is_searched group ≡ true
    → Bare (together_formula link group group.case) (group_tests group) × ((p : List ℕ) (n : ℕ) → reads link (together_formula link group group.case) p n
    ≡ reads link (rows_formula link group.entries) p n)
listed_is link group h searched =
    let d = group.qualifiers.direction in let b = are_either d h.kind in let same = like_either d h.kind h.first h.first_like in
    let front = (alike link d d h.kind h.first h.first_like).1 in
    let put = ap (λ c. guarded_formula (case_front link h.first) (list_formula c link d h.first group.cases)) same in
    let many : b ≡ true → fewest_either h.first ≤ length group.cases = λ e. grind (arith, nat_tests) in
    let good = list_good b link d h.kind h.first group.cases refl h.first_like h.like h.some many in
    let few = h.counted link in let fronts = ap (λ (ts : List Elementary). length ts) front in
    subst (λ (o : Option Case). Bare (together_formula link group o) (group_tests group) × ((p : List ℕ) (n : ℕ)
    → reads link (together_formula link group o) p n ≡ reads link (rows_formula link group.entries) p n)) (sym h.is_first) (
      subst (λ (f : Formula). Bare f (group_tests group)) (sym put) (bare_within _ (omega arith) (guarded_sizes (case_front link h.first) good.0)),
      λ p n. ap (λ (f : Formula). reads link f p n) put ∙ guarded_read link p n (case_front link h.first) _
          ∙ ap₂ (λ ts r. both (all_read link p n ts) r) front (good.1 p n) ∙ sym (h.rows_are link p n),
    )

group_bare : (link : Link) (group : Group) → Kept group → 0 < length group.entries → Bare (group_formula link group) (group_tests group)
group_bare link group k l = if_case (λ (f : Formula). Bare f (group_tests group)) (is_searched group) _ _ (by k) (λ e. rows_bare link group.entries l)
  where
    by : Kept group → is_searched group ≡ true → Bare (together_formula link group group.case) (group_tests group)
    by (nothing none all empty alone) e = absurd (let z = ap length none in omega arith)
    by (numbered l empty ms h) e = subst (λ o. Bare (together_formula link group o) (group_tests group)) (sym empty)
        (group_bare_several link group ms h (sym (by_numbers group empty) ∙ e))
    by (listed l h) e = (listed_is link group h e).0

-- members that are looked for together read as one after the other
searched_two : (group : Group) → nat_le (if group.is_plain then 2 else FEWEST_RANGES) (length group.entries) ≡ true → 2 ≤ length group.entries
searched_two group e = grind (arith, nat_tests)

group_rows : (link : Link) (p : List ℕ) (n : ℕ) (group : Group) → Kept group → reads link (group_formula link group) p n ≡ reads link
    (rows_formula link group.entries) p n
group_rows link p n group k =
    if_case (λ (f : Formula). reads link f p n ≡ reads link (rows_formula link group.entries) p n) (is_searched group) _ _ (by k) (λ e. refl)
  where
    by : Kept group → is_searched group ≡ true → reads link (together_formula link group group.case) p n ≡ reads link (rows_formula link group.entries) p n
    by (nothing none all empty alone) e = absurd (let two = searched_two group (sym (by_numbers group alone) ∙ e) in let z = ap length none in omega arith)
    by (numbered l empty ms h) e =
        let few = sym (by_numbers group empty) ∙ e in
        ap (λ o. reads link (together_formula link group o) p n) empty
        ∙ several_are link p n group.qualifiers (has_addresses group.qualifiers.value_type && not group.is_plain) group.first ms group.all
        (h.merged (searched_two group few)) h.ascends h.all_within (has_addresses group.qualifiers.value_type)
        (λ t. (and_parts (has_addresses group.qualifiers.value_type) (not group.is_plain) t).0)
        (λ t f. addresses_ready link group ms h (omega arith) f) (λ t. ports_ready link group ms h (omega arith) t) ∙ sym (h.rows link p n)
    by (listed l h) e = (listed_is link group h e).1 p n

-- a formula stands for a truth, or else for the group after it
pub record Stands (link : Link) (f : Formula) (a : TruthTree) (group : Group) : Type 0 where
  pub counts : Sized f (count.truth_size a) (count.truth_words a) (count.truth_tests a + group_tests group)
  pub open counts use *
  pub reads_are : (p : List ℕ) (n : ℕ) → reads link f p n ≡ either (reads link (formula link a) p n) (reads link (group_formula link group) p n)

-- a group after a formula that stands for a truth
or_stands : (link : Link) (f : Formula) (a : TruthTree) (group : Group) → Kept group → Sized f (count.truth_size a) (count.truth_words a)
    (count.truth_tests a) → ((p : List ℕ) (n : ℕ) → reads link f p n ≡ reads link (formula link a) p n) → Stands link (or_group link f group) a group
or_stands link f a group k s same = record { counts = sizes group.entries (λ l. group_bare link group k l); reads_are = λ p n. reading p n group.entries refl }
  where
    o : Formula
    o = group_formula link group

    sizes : (es : List Entry) → (0 < length es → Bare o (group_tests group)) → Sized (or_any f o es) (count.truth_size a) (count.truth_words a)
        (count.truth_tests a + group_tests group)
    sizes es b = grind (arith, bare_within, bare_else)

    reading : (p : List ℕ) (n : ℕ) (es : List Entry) → group.entries ≡ es → reads link (or_any f o es) p n ≡ either (reads link (formula link a) p n)
        (reads link o p n)
    reading p n es e = grind (arith, group_rows, or_no)

-- which members go together
protocols_are : (a b : Option Protocol) → same_protocol a b ≡ true → b ≡ a
protocols_are a b e = grind arith

directions_are : (a b : Direction) → same_direction a b ≡ true → (b ≡ a) × Merged a
directions_are a b e = grind arith

alike_types : (a b : ValueType) → same_type a b ≡ true → has_addresses b ≡ has_addresses a
alike_types a b e = grind arith

-- what is known where a value goes with members
record Fits_in (q : CompleteQualifiers) (group : Group) : Type 0 where
  none : is_none group.case ≡ true
  merged : Merged q.direction
  tests_are : member_tests (has_addresses group.qualifiers.value_type) group.qualifiers.protocol group.qualifiers.direction ≡ member_tests
      (has_addresses q.value_type) q.protocol q.direction
  reads_are : (link : Link) (p : List ℕ) (n : ℕ) (m : Interval) (ms : List Interval) → members_read link p n
      (has_addresses group.qualifiers.value_type) group.qualifiers.protocol group.qualifiers.direction m ms ≡ members_read link p n
      (has_addresses q.value_type) q.protocol q.direction m ms

fits_in : (q : CompleteQualifiers) (group : Group) (es : List Entry) → 0 < length es → goes_with q group es ≡ true → Fits_in q group
fits_in q group [] l g = absurd (omega arith)
fits_in q group (e ∷ es) l g =
    let room = nat_lt (length (e ∷ es)) MOST_TOGETHER in let o = group.qualifiers in let a = and_parts (is_none group.case) _ g in
    let b = and_parts (same_type q.value_type o.value_type) (same_protocol q.protocol o.protocol && (same_direction q.direction o.direction && room)) a.1 in
    let c = and_parts (same_protocol q.protocol o.protocol) (same_direction q.direction o.direction && room) b.1 in
    let d = and_parts (same_direction q.direction o.direction) room c.1 in let e = protocols_are q.protocol o.protocol c.0 in
    let f = directions_are q.direction o.direction d.0 in let k = alike_types q.value_type o.value_type b.0 in
    record {
      none = a.0;
      merged = f.1;
      tests_are = ap₂ (member_tests (has_addresses o.value_type)) e f.0 ∙ ap (λ b. member_tests b q.protocol q.direction) k;
      reads_are = λ link p n m ms. ap₂ (λ x y. members_read link p n (has_addresses o.value_type) x y m ms) e f.0
          ∙ ap (λ b. members_read link p n b q.protocol q.direction m ms) k;
    }

-- one more row in front of others
rows_put : (link : Link) (p : List ℕ) (n : ℕ) (e : Entry) (es : List Entry) → reads link (rows_formula link (e ∷ es)) p n ≡ either
    (reads link (entry_formula link e) p n) (reads link (rows_formula link es) p n)
rows_put link p n e es = grind (arith, or_no)

-- one more number before those, ls, of a group without cases
held_put : (q : CompleteQualifiers) (v : Value) (m : Interval) (group : Group) (ls : List Interval) → member_of q.value_type v ≡ Some m
    → Ordered 0 group.all → ((y : ℕ) → is_within y group.all ≡ is_within y ls) → length group.all ≡ length group.entries
    → (group.is_plain ≡ true → Points group.all) → length group.entries * member_tests (has_addresses q.value_type) q.protocol q.direction ≤ group_tests group
    → (0 < length group.entries → Merged q.direction)
    → ((link : Link) (p : List ℕ) (n : ℕ) → either (member_reads link p n (has_addresses q.value_type) q.protocol q.direction m)
    (reads link (rows_formula link group.entries) p n) ≡ members_read link p n (has_addresses q.value_type) q.protocol q.direction m ls)
    → Held (with_member q v m group) ls
held_put q v m group ls w up within many points few merged rows = record {
  order = order;
  merged = λ l. merged (omega arith);
  ascends = ordered_inserted 0 m group.all (omega arith) order up;
  all_within = λ y. within_inserted y m group.all ∙ ap (λ b. is_in y m || b) (within y);
  all_count = length_inserted m group.all ∙ omega arith;
  points = λ plain.
      let t = and_parts (m.low == m.high) group.is_plain plain in let point : m.low ≡ m.high = (let u = t.0 in grind (arith, nat_tests)) in
      (point, points_inserted m group.all point (points t.1));
  counted =
      let one = suc-mul (length group.entries) (member_tests (has_addresses q.value_type) q.protocol q.direction) in
      let more = (its Ether [] 0).1 in omega arith;
  rows = λ link p n. rows_put link p n (Entry.Value q v) group.entries ∙ ap (λ r. either r (reads link (rows_formula link group.entries) p n))
      (value_same link p n q.value_type q.protocol q.direction v ∙ (its link p n).2) ∙ rows link p n;
}
  where
    its : (link : Link) (p : List ℕ) (n : ℕ) → IsMember link p n q.value_type q.protocol q.direction v m
    its link p n = each_is (member_of q.value_type v) (IsMember link p n q.value_type q.protocol q.direction v) m
        (member_is link p n q.value_type q.protocol q.direction v) w

    order : m.low ≤ m.high
    order = (its Ether [] 0).0

kept_with : (q : CompleteQualifiers) (v : Value) (m : Interval) (group : Group) → Kept group → goes_with q group group.entries ≡ true
    → member_of q.value_type v ≡ Some m → Kept (with_member q v m group)
kept_with q v m group (nothing none all empty alone) g w =
    let zero : length group.entries ≡ 0 = ap length none in let no_all : length group.all ≡ 0 = ap length all in
    numbered (omega arith) alone []
    (held_put q v m group [] w (subst (Ordered 0) (sym all) tt) (λ y. ap (is_within y) all) (omega arith) (λ plain. subst Points (sym all) tt)
    (subst (λ k. k * member_tests (has_addresses q.value_type) q.protocol q.direction ≤ group_tests group) (sym zero) (omega arith)) (λ l. absurd (omega arith))
    (λ link p n. ap (λ es. either (member_reads link p n (has_addresses q.value_type) q.protocol q.direction m) (reads link (rows_formula link es) p n)) none
    ∙ or_no _ ∙ sym (members_alone link p n (has_addresses q.value_type) q.protocol q.direction m)))
kept_with q v m group (numbered l empty ms h) g w =
    let f = fits_in q group group.entries l g in
    numbered (omega arith) empty (group.first ∷ ms) (held_put q v m group (group.first ∷ ms) w h.ascends h.all_within h.all_count (λ plain. (h.points plain).1)
    (subst (λ k. length group.entries * k ≤ group_tests group) f.tests_are h.counted) (λ l. f.merged)
    (λ link p n. ap (either (member_reads link p n (has_addresses q.value_type) q.protocol q.direction m))
    (h.rows link p n ∙ f.reads_are link p n group.first ms)
    ∙ sym (members_more link p n (has_addresses q.value_type) q.protocol q.direction m group.first ms f.merged)))
kept_with q v m group (listed l h) g w = absurd (let none = ap is_none (sym h.is_first) ∙ (fits_in q group group.entries l g).none in cc)

-- what has so many tests and this formula is a case
abbrev Cased : Link → Direction → Case → ℕ → Formula → Type 0
Cased link d c tests f = (same_words d c c ≡ true) × (length (case_front link c) + one_size (are_either d c) link d c ≤ tests)
    × ((p : List ℕ) (n : ℕ) → reads link f p n ≡ reads link (guarded_formula (case_front link c) (one_formula (are_either d c) link d c)) p n)

-- a value that is a case
abbrev IsCase : Link → ValueType → Option Protocol → Direction → Value → Case → Type 0
IsCase link k o d v c = Cased link d c (count.typed_tests k o d v) (value_formula link k o d v)

case_is : (link : Link) (k : ValueType) (o : Option Protocol) (d : Direction) (v : Value) → Each (case_of k o d v) (IsCase link k o d v)
case_is link k o d v = grind (arith, nat_tests)

fronts_few : (link : Link) (p : Protocol) → length (accessor_tests link p) + 1 ≤ accessor_test_count p + 1
fronts_few link p = grind arith

-- where a case is put among others
abbrev place : Case → List Case → ℕ
place c cs = count_by (λ d. nat_lt (key_of d) (key_of c)) cs

-- one more case before those of a group without numbers
listed_put : (q : CompleteQualifiers) (e : Entry) (c kind : Case) (group : Group)
    → ((link : Link) → Cased link q.direction c (entry_tests e) (entry_formula link e)) → Likes q.direction kind group.cases
    → same_words q.direction kind c ≡ true → length group.cases ≡ length group.entries → let b = are_either q.direction kind in
    ((link : Link) → list_size b link q.direction group.cases + length group.cases ≤ group_tests group) → ((link : Link) (p : List ℕ) (n : ℕ) →
    let front = all_read link p n (case_front link kind) in
    either (both front (reads link (one_formula b link q.direction c) p n)) (reads link (rows_formula link group.entries) p n)
    ≡ both front (list_read b link q.direction c (insert_case c group.cases) p n)) → Listed q.direction (with_case q e c group)
listed_put q e c kind group its likes like count few rows_are =
    let same = like_either q.direction kind c like in let l = length_put c (place c group.cases) group.cases in
    let front = λ (link : Link). (alike link q.direction q.direction kind c like).1 in
    record {
      kind = kind;
      first = c;
      is_first = refl;
      first_like = like;
      like = likes_put q.direction kind c (place c group.cases) group.cases like likes;
      some = omega arith;
      all_count = omega arith;
      counted = λ link.
          let s = size_put (are_either q.direction kind) link q.direction c (place c group.cases) group.cases in
          let one = subst (λ b. length (case_front link c) + one_size b link q.direction c ≤ entry_tests e) same (its link).1 in
          let old = few link in let fronts = ap (λ (ts : List Elementary). length ts) (front link) in
          omega arith;
      rows_are = λ link p n.
          rows_put link p n e group.entries
          ∙ ap (λ r. either r (reads link (rows_formula link group.entries) p n)) ((its link).2 p n ∙ guarded_read link p n (case_front link c) _
          ∙ ap₂ (λ ts b. both (all_read link p n ts) (reads link (one_formula b link q.direction c) p n)) (front link) same) ∙ rows_are link p n;
    }

-- what is known where a case goes with members
case_fits : (c : Case) (d : Direction) (group : Group) (es : List Entry) → 0 < length es → case_goes_with c d group es ≡ true
    → (shares_words d c group.case ≡ true) × (group.qualifiers.direction ≡ d)
case_fits c d group es l g = grind (arith, directions_are)

kept_with_case : (q : CompleteQualifiers) (e : Entry) (c : Case) (group : Group) → Kept group → case_goes_with c q.direction group group.entries ≡ true
    → ((link : Link) → Cased link q.direction c (entry_tests e) (entry_formula link e)) → Kept (with_case q e c group)
kept_with_case q e c group (nothing none all empty alone) g w =
    let b = are_either q.direction c in
    listed (omega arith) (listed_put q e c c group w (subst (Likes q.direction c) (sym empty) tt) (w Ether).0 (ap length empty ∙ sym (ap length none))
    (λ link. subst (λ cs. list_size b link q.direction cs + length cs ≤ group_tests group) (sym empty) (omega (arith, none_size b link q.direction)))
    (λ link p n.
    let one = both (all_read link p n (case_front link c)) (reads link (one_formula b link q.direction c) p n) in
    ap (λ es. either one (reads link (rows_formula link es) p n)) none ∙ or_no one ∙ ap (both (all_read link p n (case_front link c)))
    (sym (ap (λ cs. list_read b link q.direction c (insert_case c cs) p n) empty ∙ list_alone b link q.direction c p n))))
kept_with_case q e c group (numbered l empty ms h) g w = grind (arith, case_fits)
kept_with_case q e c group (listed l h) g w =
    let fit = case_fits c q.direction group group.entries l g in let j = subst (λ d. Listed d group) fit.1 h in let b = are_either q.direction j.kind in
    let like = alike_alike q.direction j.kind j.first c j.first_like (ap (shares_words q.direction c) (sym j.is_first) ∙ fit.0) in
    let few : (link : Link) → list_size b link q.direction group.cases + length group.cases ≤ group_tests group =
    λ link. (let all = j.counted link in let some = some_front link j.kind in omega arith) in
    listed (omega arith) (listed_put q e c j.kind group w j.like like j.all_count few (λ link p n.
    let one = reads link (one_formula b link q.direction c) p n in
    ap (either (both _ one)) (j.rows_are link p n) ∙ sym (both_either _ one _)
    ∙ ap (both _) (sym (list_more b link q.direction j.kind j.first c (place c group.cases) group.cases p n refl like j.first_like j.like))))

-- what a member and those after it are, and how they read
record Taken (link : Link) (e : Entry) (group more : Group) : Type 0 where
  kept : Kept more
  some : 0 < length more.entries
  tests_fit : group_tests more ≤ entry_tests e + group_tests group
  reads_are : (p : List ℕ) (n : ℕ) → reads link (group_formula link more) p n ≡ either (reads link (entry_formula link e) p n)
      (reads link (group_formula link group) p n)

module _ (link : Link) (group more : Group) (k : Kept group) where
  by_test : (e : Entry) (x : Group) (t : Bool) → (t ≡ true → Kept x) → x.entries ≡ e ∷ group.entries → (if t then Some x else None) ≡ Some more
      → Taken link e group more
  by_test e x false kept is some = cc
  by_test e x true kept is some =
      let tests = ap entries_tests is in let long = ap length is in
      each_is (Some x) (Taken link e group) more (record {
        kept = kept refl;
        some = omega arith;
        tests_fit = omega arith;
        reads_are = λ p n. group_rows link p n x (kept refl) ∙ ap (λ es. reads link (rows_formula link es) p n) is ∙ rows_put link p n e group.entries
            ∙ ap (either _) (sym (group_rows link p n group k));
      }) some

  by_member : (q : CompleteQualifiers) (v : Value) (o : Option Interval) → member_of q.value_type v ≡ o → group_and q v group o ≡ Some more
      → Taken link (Entry.Value q v) group more
  by_member q v None w e = cc
  by_member q v (Some m) w e = by_test (Entry.Value q v) (with_member q v m group) (goes_with q group group.entries) (λ g. kept_with q v m group k g w) refl e

  by_case : (q : CompleteQualifiers) (v : Value) (o : Option Case) → case_of q.value_type q.protocol q.direction v ≡ o → larger_with q v group o ≡
      Some more → Taken link (Entry.Value q v) group more
  by_case q v None w e = by_member q v (member_of q.value_type v) refl e
  by_case q v (Some c) w e =
      let its : (l : Link) → IsCase l q.value_type q.protocol q.direction v c = λ l. each_is (case_of q.value_type q.protocol q.direction v)
      (IsCase l q.value_type q.protocol q.direction v) c (case_is l q.value_type q.protocol q.direction v) w in
      by_test (Entry.Value q v) (with_case q (Entry.Value q v) c group) (case_goes_with c q.direction group group.entries)
      (λ g. kept_with_case q (Entry.Value q v) c group k g (λ l. (
        (its l).0,
        (its l).1,
        λ p n. value_same l p n q.value_type q.protocol q.direction v ∙ (its l).2 p n,
      ))) refl e

  taken : (e : Entry) → larger_group e group ≡ Some more → Taken link e group more
  taken (Entry.Value q v) some = by_case q v (case_of q.value_type q.protocol q.direction v) refl some
  taken (Entry.Relation r) some =
      by_test (Entry.Relation r) (with_case no_group.qualifiers (Entry.Relation r) (Case.Relation r) group)
      (case_goes_with (Case.Relation r) no_group.qualifiers.direction group group.entries)
      (λ g. kept_with_case no_group.qualifiers (Entry.Relation r) (Case.Relation r) group k g (λ l.
      (self_relation r, fronts_few l r.protocol, λ p n. refl))) refl some

sized_sizes : (s : Size) (n : ℕ) → Sized (sized_formula s n) 2 1 1
sized_sizes s n = grind arith

-- an entry, or a truth that is none
leaf_stands : (link : Link) (a : TruthTree) (f : Formula) (group : Group) → Kept group → Sized f (count.truth_size a) (count.truth_words a)
    (count.truth_tests a) → ((p : List ℕ) (n : ℕ) → reads link f p n ≡ reads link (formula link a) p n) → (o : Option Entry) → Each o (IsEntry link a)
    → Stands link (leaf_formula link o f group) a group
leaf_stands link a f group k sizes same None is = or_stands link f a group k sizes same
leaf_stands link a f group k sizes same (Some e) is = by (larger_group e group) refl
  where
    by : (o : Option Group) → larger_group e group ≡ o → Stands link (option_map_or (group_formula link) o (or_group link (entry_formula link e) group)) a group
    by None none = let b = entry_bare link e in let few = is.few in or_stands link (entry_formula link e) a group k (omega arith) is.same
    by (Some more) some =
        let t = taken link group more k e some in let b = group_bare link more t.kept t.some in let few = is.few in let tests = t.tests_fit in
        record { counts = omega arith; reads_are = λ p n. t.reads_are p n ∙ ap (λ r. either r (reads link (group_formula link group) p n)) (is.same p n) }

-- the second one of two truths may join the group after it, or begin another one
module _ (link : Link) (a b : TruthTree) (group : Group) (k : Kept group) (f : Group → Formula) (g : Formula)
    (h : (more : Group) → Kept more → Stands link (f more) a more) (m : Stands link g b group) where
  parted : Stands link (Either (f no_group) g) (joined Or a b) group
  parted = grind (arith, kept_none, bare_within, bare_either, or_no, either_assoc)

  -- both with a group that the second one joins
  joins : (e : Entry) → IsEntry link b e → (old more : Group) → Kept old → larger_group e old ≡ Some more → Stands link (f more) (joined Or a b) old
  joins e is old more kept some =
      let t = taken link old more kept e some in let s = h more t.kept in let few = is.few in let tests = t.tests_fit in
      record {
        counts = omega (arith, s.counts);
        reads_are = λ p n. s.reads_are p n ∙ ap (either (reads link (formula link a) p n))
            (t.reads_are p n ∙ ap (λ r. either r (reads link (group_formula link old) p n)) (is.same p n))
            ∙ sym (either_assoc (reads link (formula link a) p n) (reads link (formula link b) p n) (reads link (group_formula link old) p n));
      }

  or_member : (e : Entry) → IsEntry link b e → (o p : Option Group) → larger_group e group ≡ o → larger_group e no_group ≡ p
      → Stands link (option_map_or f o (option_map_or (λ new. or_group link (f new) group) p (Either (f no_group) g))) (joined Or a b) group
  or_member e is None None none alone = parted
  or_member e is None (Some new) none begun =
      let s = joins e is no_group new kept_none begun in
      or_stands link (f new) (joined Or a b) group k (bare_within _ (omega arith) s.counts) (λ p n. s.reads_are p n ∙ or_no _)
  or_member e is (Some more) p some q = joins e is group more k some

  either_stands : (o : Option Entry) → Each o (IsEntry link b) → Stands link (option_map_or f (with o (λ e. larger_group e group))
      (option_map_or (λ new. or_group link (f new) group) (with o (λ e. larger_group e no_group)) (Either (f no_group) g))) (joined Or a b) group
  either_stands None is = parted
  either_stands (Some e) is = or_member e is (larger_group e group) (larger_group e no_group) refl refl

-- members that are looked for together change neither the reading nor what is counted
pub grouped_stands : (link : Link) (a : TruthTree) (group : Group) → Kept group → any_primitive is_unfilled a ≡ false
    → Stands link (grouped_formula link group a) a group
grouped_stands link (check p) group k u = or_stands link (check_formula link p) (check p) group k (bare_check link p) (λ q n. refl)
grouped_stands link (cast p c) group k u = or_stands link (cast_formula link p c) (cast p c) group k (bare_cast link p c) (λ q n. refl)
grouped_stands link (sized s n) group k u = or_stands link (sized_formula s n) (sized s n) group k (sized_sizes s n) (λ p m. refl)
grouped_stands link (bare v) group k u = cc
grouped_stands link (valued q v) group k u = cc
grouped_stands link (qualified q v) group k u =
    leaf_stands link (qualified q v) (qualified_needed link q v) group k (bare_needed link q.value_type q.protocol q.direction v)
    (λ p n. value_same link p n q.value_type q.protocol q.direction v) (Some (Entry.Value q v)) (entry_is link (qualified q v))
grouped_stands link (compared c l r) group k u =
    leaf_stands link (compared c l r) (relation_formula link c l r) group k (relation_sizes link c l r) (λ p n. relation_same link p n c l r)
    (entry_of (compared c l r)) (entry_is link (compared c l r))
grouped_stands link (denied a) group k u =
    let h = grouped_stands link a no_group kept_none u in
    or_stands link (Except (grouped_formula link no_group a)) (denied a) group k (omega (arith, h.counts)) (λ p n. ap negation (h.reads_are p n ∙ or_no _))
grouped_stands link (joined And a b) group k u =
    let parts = or_parts (any_primitive is_unfilled a) (any_primitive is_unfilled b) u in let h = grouped_stands link a no_group kept_none parts.0 in
    let g = grouped_stands link b no_group kept_none parts.1 in
    or_stands link (Both (grouped_formula link no_group a) (grouped_formula link no_group b)) (joined And a b) group k
    (bare_within _ (omega arith) (bare_both h.counts g.counts)) (λ p n. ap₂ both (h.reads_are p n ∙ or_no _) (g.reads_are p n ∙ or_no _))
grouped_stands link (joined Or a b) group k u =
    either_stands link a b group k (λ more. grouped_formula link more a) (grouped_formula link group b)
    (λ more j. grouped_stands link a more j (or_parts _ _ u).0) (grouped_stands link b group k (or_parts _ _ u).1) (entry_of b) (entry_is link b)

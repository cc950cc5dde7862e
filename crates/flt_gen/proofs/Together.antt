-- Addresses or ports that are looked for together read as one after the other.
use Rattle.flt_gen.proofs.Common.{◌≡◌, ℕ, ◌+◌, ◌*◌, ◌^◌, ◌%◌, ◌<◌, ◌≤◌, List, [], ◌∷◌, map, Bool, true, false, Option, Some, None, refl, ap, ap₂, ◌-◌, ◌∙◌}
use Rattle.flt_gen.proofs.Common.{arith, inl, inr, ◌==◌, ◌||◌, ◌&&◌, nat_le, min, max, bit_and, nat_tests, and_parts, or-false, Protocol, Ip, Tcp, Udp}
use Rattle.flt_gen.proofs.Common.{ValueType, Numbers, Host, Net, Port, PortRange, Source, Destination, And, Or, Direction, CompleteQualifiers, Value}
use Rattle.flt_gen.proofs.Common.{first_bits, HalfWord, Offset, Link, FrameKind, Elementary, Interval, Sides, Transport, MatchResult, Yes, No, field_at}
use Rattle.flt_gen.proofs.Common.{under_mask, kind_test, elementary_reads, Formula, sought_formula, both, either, all_of, sides, reads, address_places}
use Rattle.flt_gen.proofs.Common.{most_in_turn}
use Rattle.flt_gen.proofs.Common.{partial_mask, port_is, port_between, port_places, in_net, hosts_formula, ip_transport, ip6_transport, port_formula}
use Rattle.flt_gen.proofs.Ascending.{if_case, Each, Ordered, within_joined, is_in, is_within, Ready}
use Rattle.flt_gen.proofs.Common.{value_formula, joined_all, left_out, high_mask, cut, sought, has_addresses, net_numbers, member_of, several_formula}
use Rattle.flt_gen.proofs.{Exclusive.or_no, Exclusive.both_either, Search.Merged, Search.read_by, Search.sides_read, Search.sought_read, Firsts.Known}
use Rattle.flt_gen.proofs.{Prefixes.idle_sought, Prefixes.Small, Prefixes.cut_in, Prefixes.cut_within, Prefixes.net_hit, Runs.one_number}
use Rattle.std.{specs.Prelude.◌⊎◌, specs.Prelude.count_ones, proofs.Math.Nat.mod-lt}
use Rattle.flt_ast.specs.Nets.{ip4_mask}
use Rattle.flt_gen.specs.inside.Group.{is_prefix}
use Rattle.flt_ast.specs.Counts as count
use Rattle.flt_gen.specs.declared.elementary.FrameKind.TheVariants as kind

-- the fields of these sides fit the masks that numbers may have
abbrev pub Fitting : Bool → Sides → Type 0
Fitting b at = b ≡ true → (p : List ℕ) (x : ℕ) → (field_at at.source at.width p ≡ Some x) ⊎ (field_at at.destination at.width p ≡ Some x) → x < 2 ^ 32

pub fitting_small : (b : Bool) (at : Sides) (m : Interval) (is : List Interval) → Fitting b at → (p : List ℕ) (x : ℕ)
    → (field_at at.source at.width p ≡ Some x) ⊎ (field_at at.destination at.width p ≡ Some x) → Small (left_out b m is) x
fitting_small true at m is fit p x e = λ l. fit refl p x e
fitting_small false at m is fit p x e = λ l. absurd (omega arith)

pub unmasked_fitting : (b : Bool) (at : Sides) → b ≡ false → Fitting b at
unmasked_fitting b at e = grind arith

pub address_fitting : (b : Bool) (link : Link) (k : FrameKind) → Fitting b (address_places link k)
address_fitting b link k e p x h = grind (arith, mod-lt)

-- numbers that are searched in the ports after both headers
abbrev pub PortsReady : Link → Numbers → Type 0
PortsReady link numbers = Ready link (port_places (ip_transport link)) numbers × Ready link (port_places (ip6_transport link)) numbers

not_both : (b c : Bool) → (b ≡ true → c ≡ true) → c ≡ false → b ≡ false
not_both b c f e = grind arith

-- one member, on the sides that a direction asks for
abbrev plain_reads : Direction → Option ℕ → Option ℕ → (ℕ → Bool) → MatchResult
plain_reads (Direction.One Source) s d f = read_by s f
plain_reads (Direction.One Destination) s d f = read_by d f
plain_reads (Direction.Both Or) s d f = either (read_by s f) (read_by d f)
plain_reads (Direction.Both And) s d f = both (read_by s f) (read_by d f)

-- where one is no, the field is there
known_read : (o : Option ℕ) (f g : ℕ → Bool) → read_by o f ≡ No → Known (read_by o g)
known_read None f g e = cc
known_read (Some x) f g e = (g x, refl)

-- one more in front of those of which k is the first
one_more : (d : Direction) (s t : Option ℕ) (m k o : ℕ → Bool) → Merged d → sides_read d s t m (λ x. m x || (k x || o x)) ≡ either
    (plain_reads d s t m) (sides_read d s t k (λ x. k x || o x))
one_more d s t m k o h = grind (arith, known_read)

one_alone : (d : Direction) (s t : Option ℕ) (m : ℕ → Bool) → sides_read d s t m (λ x. m x || false) ≡ plain_reads d s t m
one_alone d s t m = grind (arith, or-false, or_no)

sides_seen : (d : Direction) (s t : Option ℕ) (f g a b : ℕ → Bool) → ((x : ℕ) → s ≡ Some x → f x ≡ g x) → ((x : ℕ) → t ≡ Some x → f x ≡ g x)
    → ((x : ℕ) → s ≡ Some x → a x ≡ b x) → ((x : ℕ) → t ≡ Some x → a x ≡ b x) → sides_read d s t f a ≡ sides_read d s t g b
sides_seen d s t f g a b i j h k = grind arith

-- how many tests a member, an address or a port, has at least by itself
abbrev pub member_tests : Bool → Option Protocol → Direction → ℕ
member_tests true protocol d = count.ip4_tests protocol d
member_tests false protocol d = count.port_tests protocol d 1

more_tests : (d : Direction) → count.side_tests d 1 ≤ count.side_tests d 2
more_tests d = grind arith

module _ (link : Link) (p : List ℕ) (n : ℕ) where
  abbrev kind_reads : FrameKind → MatchResult
  kind_reads k = elementary_reads (kind_test link k) p

  -- ports: what stands before the sides
  abbrev told : Elementary → MatchResult
  told t = elementary_reads t p

  abbrev whole_reads : Option Elementary → MatchResult
  whole_reads None = Yes
  whole_reads (Some t) = told t

  abbrev transport_reads : Option Protocol → Transport → MatchResult
  transport_reads None header = either (told header.tcp) (told header.udp)
  transport_reads (Some Tcp) header = told header.tcp
  transport_reads (Some Udp) header = told header.udp
  transport_reads (Some _) header = No

  abbrev after_reads : Option Protocol → Transport → MatchResult → MatchResult
  after_reads protocol header r = both (transport_reads protocol header) (both (whole_reads header.no_later_fragment) r)

  -- hosts or ports, by what is read of their sides
  abbrev two_headers : Option Protocol → MatchResult → MatchResult → MatchResult
  two_headers protocol v w =
      either (both (kind_reads kind.Ip) (after_reads protocol (ip_transport link) v)) (both (kind_reads kind.Ip6) (after_reads protocol (ip6_transport link) w))

  abbrev hosts_by : Option Protocol → (Sides → MatchResult) → MatchResult
  hosts_by None x =
      either (both (kind_reads kind.Ip) (x (address_places link kind.Ip)))
      (either (both (kind_reads kind.Arp) (x (address_places link kind.Arp))) (both (kind_reads kind.Rarp) (x (address_places link kind.Rarp))))
  hosts_by (Some Ip) x = both (kind_reads kind.Ip) (x (address_places link kind.Ip))
  hosts_by (Some Protocol.Arp) x = both (kind_reads kind.Arp) (x (address_places link kind.Arp))
  hosts_by (Some Protocol.Rarp) x = both (kind_reads kind.Rarp) (x (address_places link kind.Rarp))
  hosts_by (Some _) x = No

  abbrev ports_by : Option Protocol → (Sides → MatchResult) → MatchResult
  ports_by protocol x = two_headers protocol (x (port_places (ip_transport link))) (x (port_places (ip6_transport link)))

  abbrev pub by_sides : Bool → Option Protocol → (Sides → MatchResult) → MatchResult
  by_sides true protocol x = hosts_by protocol x
  by_sides false protocol x = ports_by protocol x

  sides_join : (k : Bool) (protocol : Option Protocol) (x y : Sides → MatchResult) → by_sides k protocol (λ at. either (x at) (y at)) ≡ either
      (by_sides k protocol x) (by_sides k protocol y)
  sides_join k protocol x y = grind (arith, nat_tests, both_either, or_no)

  -- what is asked of the places
  abbrev told_at : (Sides → Formula) → Sides → MatchResult
  told_at asked at = reads link (asked at) p n

  hosts_are : (protocol : Option Protocol) (asked : Sides → Formula) → reads link (hosts_formula link protocol asked) p n ≡ hosts_by protocol (told_at asked)
  hosts_are protocol asked = grind arith

  hosts_same : (protocol : Option Protocol) (x y : Sides → MatchResult) → ((k : FrameKind) → x (address_places link k) ≡ y (address_places link k))
      → hosts_by protocol x ≡ hosts_by protocol y
  hosts_same None x y e = ap₂ either (ap (both (kind_reads kind.Ip)) (e kind.Ip))
      (ap₂ either (ap (both (kind_reads kind.Arp)) (e kind.Arp)) (ap (both (kind_reads kind.Rarp)) (e kind.Rarp)))
  hosts_same (Some Ip) x y e = ap (both (kind_reads kind.Ip)) (e kind.Ip)
  hosts_same (Some Protocol.Arp) x y e = ap (both (kind_reads kind.Arp)) (e kind.Arp)
  hosts_same (Some Protocol.Rarp) x y e = ap (both (kind_reads kind.Rarp)) (e kind.Rarp)
  hosts_same (Some _) x y e = refl

  -- several, and one
  abbrev source_of : Sides → Option ℕ
  source_of at = field_at at.source at.width p

  abbrev destination_of : Sides → Option ℕ
  destination_of at = field_at at.destination at.width p

  abbrev hit : Interval → ℕ → Bool
  hit i x = is_in x i

  abbrev pub members_read : Bool → Option Protocol → Direction → Interval → List Interval → MatchResult
  members_read k protocol d m ms = by_sides k protocol (λ at. sides_read d (source_of at) (destination_of at) (hit m) (λ x. is_within x (m ∷ ms)))

  abbrev pub member_reads : Bool → Option Protocol → Direction → Interval → MatchResult
  member_reads k protocol d m = by_sides k protocol (λ at. plain_reads d (source_of at) (destination_of at) (hit m))

  pub members_more : (k : Bool) (protocol : Option Protocol) (d : Direction) (m l : Interval) (ms : List Interval) → Merged d
      → members_read k protocol d m (l ∷ ms) ≡ either (member_reads k protocol d m) (members_read k protocol d l ms)
  members_more k protocol d m l ms h =
      ap (by_sides k protocol) (λ i at. one_more d (source_of at) (destination_of at) (hit m) (hit l) (λ x. is_within x ms) h i)
      ∙ sides_join k protocol (λ at. plain_reads d (source_of at) (destination_of at) (hit m))
      (λ at. sides_read d (source_of at) (destination_of at) (hit l) (λ x. is_within x (l ∷ ms)))

  pub members_alone : (k : Bool) (protocol : Option Protocol) (d : Direction) (m : Interval) → members_read k protocol d m [] ≡ member_reads k protocol d m
  members_alone k protocol d m = ap (by_sides k protocol) (λ i at. one_alone d (source_of at) (destination_of at) (hit m) i)

  module _ (q : CompleteQualifiers) (b : Bool) (m : Interval) (ms all : List Interval) (h : Merged q.direction) (o : Ordered 0 all)
      (w : (y : ℕ) → is_within y all ≡ is_within y (m ∷ ms)) where
    -- the formula of several
    abbrev asked : ℕ → Sides → Formula
    asked few at = sought_formula few link q.direction at (sought b m all)

    sides_are : (few : ℕ) (at : Sides) → Fitting b at → Ready link at (sought b m all) → told_at (asked few) at
        ≡ sides_read q.direction (source_of at) (destination_of at)
        (hit m) (λ x. is_within x (m ∷ ms))
    sides_are few at fit ready =
        let last = left_out b m (joined_all all) in let idle = idle_sought b m (joined_all all) in let u : ℕ → ℕ = λ x. under_mask (high_mask last) x in
        let small : (x : ℕ) → (source_of at ≡ Some x) ⊎ (destination_of at ≡ Some x) → Small last x = fitting_small b at m (joined_all all) fit p in
        let one : (x : ℕ) → Small last x → is_within (u x) (cut last m ∷ []) ≡ hit m x =
        λ x l. or-false (is_in (u x) (cut last m)) ∙ cut_in last x m m (joined_all all) idle idle.first_aligned l in
        let some : (x : ℕ) → Small last x → is_within (u x) (map (cut last) (joined_all all)) ≡ is_within x (m ∷ ms) =
        λ x l. cut_within last x m (joined_all all) idle l ∙ within_joined x all o ∙ w x in
        sought_read link p n at (sought b m all) ready few q.direction h
        ∙ sides_seen q.direction (source_of at) (destination_of at) _ _ _ _ (λ x e. one x (small x (inl e)))
        (λ x e. one x (small x (inr e))) (λ x e. some x (small x (inl e))) (λ x e. some x (small x (inr e)))

    several_hosts : ((k : FrameKind) → Ready link (address_places link k) (sought b m all)) → reads link (hosts_formula link q.protocol
        (asked (most_in_turn q.protocol (sought b m all).first))) p n ≡ members_read true q.protocol q.direction m ms
    several_hosts r = hosts_are q.protocol (asked _) ∙ hosts_same q.protocol _ _ (λ k. sides_are _ (address_places link k) (address_fitting b link k) (r k))

    -- ports have no mask
    several_ports : b ≡ false → PortsReady link (sought b m all) → reads link (port_formula link q.protocol (asked 0)) p n
        ≡ members_read false q.protocol q.direction m ms
    several_ports e r = grind (arith, sides_are, unmasked_fitting)

    pub several_are : (k : Bool) → (b ≡ true → k ≡ true) → (k ≡ true → (f : FrameKind)
        → Ready link (address_places link f) (sought b m all)) → (k ≡ false → PortsReady link (sought b m all))
        → reads link (several_formula link q k (sought b m all)) p n ≡ members_read k q.protocol q.direction m ms
    several_are true f r s = several_hosts (r refl)
    several_are false f r s = several_ports (not_both b _ f refl) (s refl)

  address_row : (protocol : Option Protocol) (d : Direction) (mask : Option ℕ) (a : ℕ) (f : ℕ → Bool)
      → ((x : ℕ) → x < 2 ^ 32 → (under_mask mask x == a) ≡ f x) → reads link (hosts_formula link protocol (in_net d mask a)) p n ≡ hosts_by protocol
      (λ at. plain_reads d (source_of at) (destination_of at) f)
  address_row protocol d mask a f e = grind (arith, hosts_are, hosts_same, address_fitting)

  both_ends : (o : Option ℕ) (a b : ℕ) → both (read_by o (λ x. nat_le a x)) (read_by o (λ x. nat_le x b)) ≡ read_by o (λ x. nat_le a x && nat_le x b)
  both_ends o a b = grind arith

  port_row : (protocol : Option Protocol) (d : Direction) (tests : Offset → List Elementary) (f : ℕ → Bool)
      → ((at : Offset) → reads link (all_of (tests at)) p n ≡ read_by (field_at at HalfWord p) f)
      → reads link (port_formula link protocol (λ at. sides d (tests at.source) (tests at.destination))) p n ≡ ports_by protocol
      (λ at. plain_reads d (source_of at) (destination_of at) f)
  port_row protocol d tests f e = grind arith

  -- a value that looks for these numbers: their order, its tests, of which there are no fewer, and how it reads
  abbrev pub IsMember : ValueType → Option Protocol → Direction → Value → Interval → Type 0
  IsMember k protocol d v m = (m.low ≤ m.high) × (member_tests (has_addresses k) protocol d ≤ count.typed_tests k protocol d v)
      × (reads link (value_formula link k protocol d v) p n ≡ member_reads (has_addresses k) protocol d m)

  abbrev IsNet : Option Protocol → Direction → ℕ → ℕ → Interval → Type 0
  IsNet protocol d mask a m = (m.low ≤ m.high) × (count.ip4_tests protocol d ≤ count.ip4_tests protocol d)
      × (reads link (hosts_formula link protocol (in_net d (partial_mask mask) a)) p n ≡ member_reads true protocol d m)

  prefix_hit : (mask b a x : ℕ) → mask ≡ first_bits 32 b → bit_and a mask ≡ a → x < 2 ^ 32 → (under_mask (partial_mask mask) x == a) ≡ is_in x
      (record { low = a; high = a + (2 ^ 32 - 1 - mask) })
  prefix_hit mask b a x e = grind (arith, net_hit)

  net_row : (protocol : Option Protocol) (d : Direction) (mask a : ℕ) → Each (net_numbers (record { address = a; mask = mask })) (IsNet protocol d mask a)
  net_row protocol d mask a =
      if_case (λ o. Each o (IsNet protocol d mask a)) (is_prefix mask && bit_and a mask == a) _ _ (λ t.
      let h = and_parts (is_prefix mask) (bit_and a mask == a) t in
      let first : mask ≡ first_bits 32 (count_ones mask) = (let u = h.0 in let v : mask + 2 ^ (32 - count_ones mask) ≡ 2 ^ 32 = grind
      (arith, nat_tests) in omega arith) in
      let under : bit_and a mask ≡ a = (let u = h.1 in grind (arith, nat_tests)) in
      (omega arith, omega arith, address_row protocol d (partial_mask mask) a _ (λ x s. prefix_hit mask (count_ones mask) a x first under s))) (λ t. tt)

  pub member_is : (k : ValueType) (protocol : Option Protocol) (d : Direction) (v : Value) → Each (member_of k v) (IsMember k protocol d v)
  member_is Host protocol d (Value.Dotted x z) = grind (arith, address_row, one_number)
  member_is Net protocol d (Value.Number x z) = net_row protocol d (ip4_mask 1 z) (x % 256 * 2 ^ 24)
  member_is Net protocol d (Value.Dotted x z) = net_row protocol d (ip4_mask x.parts z) x.address
  member_is Port protocol d (Value.Number x z) = (
    omega arith,
    omega arith,
    port_row protocol d (port_is x) _ (λ at. ap (read_by (field_at at HalfWord p)) (λ i y. one_number y x x refl i)),
  )
  member_is PortRange protocol d (Value.Range a b) = (
    omega arith,
    (let more = more_tests d in omega arith),
    port_row protocol d (port_between (min a b) (max a b)) _ (λ at. both_ends (field_at at HalfWord p) (min a b) (max a b)),
  )
  member_is _ protocol d _ = tt

-- The counts of the table's formulas are at most those of the tree.
use Rattle.flt_gen.proofs.Common.{◌≡◌, ℕ, ◌+◌, ◌-◌, ◌*◌, ◌≤◌, max, List, [], ◌∷◌, length, Option, Some, None, arith, Protocol, Source, Destination, And, Or}
use Rattle.flt_gen.proofs.Common.{ValueType, Host, Net, Port, PortRange, Proto, Direction, Value, Link, FrameKind, Elementary, Sides, ip_transport}
use Rattle.flt_gen.proofs.Common.{ip6_transport, Formula, Single, Both, Either, Split, all_of, sides, after, FieldTest, Offset, loads, field_loads, place_loads}
use Rattle.flt_gen.proofs.Common.{mask_loads, left_by, FieldPlace, in_net, port_places, any_proto, mac_tests, check_formula, cast_formula, proto_formula}
use Rattle.flt_gen.proofs.Common.{hosts_of_kind, hosts_formula, ip6_formula, ether_host, port_formula, value_formula, tests, nodes, words}
use Rattle.flt_words.specs.declared.token.Cast.{Cast}
use Rattle.flt_ast.specs.Counts as count

-- a formula with at most s nodes of arithmetic and w words of memory, whose code is as long as that
-- of n tests at most, and no longer if each of its branches is three instructions
pub record Sized (f : Formula) (s w n : ℕ) : Type 0 where
  pub nodes_fit : nodes f ≤ s
  pub words_fit : words f ≤ w
  pub short_fit : loads None f + tests f ≤ 4 * n
  pub light_fit : loads None f + 3 * tests f ≤ 6 * n

-- one without comparisons
abbrev pub Bare : Formula → ℕ → Type 0
Bare f n = Sized f 0 0 n

pub bare_within : {f : Formula} {s w m : ℕ} (n : ℕ) → m ≤ n → Sized f s w m → Sized f s w n
bare_within n l h = omega arith

-- a field is loaded by two instructions at most, and masked by one
pub place_few : (o : Offset) → place_loads o ≤ 2
place_few o = grind arith

pub mask_few : (o : Option ℕ) → mask_loads o ≤ 1
mask_few o = grind arith

field_few : (t : FieldTest) → field_loads t ≤ 3
field_few t = let a = place_few t.offset in let b = mask_few t.mask in omega arith

pub bare_one : (t : Elementary) → Bare (Single t) 1
bare_one t = grind (arith, field_few)

-- a test of which there may be more
pub bare_some : {t : Elementary} (n : ℕ) → 1 ≤ n → Bare (Single t) n
bare_some {t = t} n l = bare_within n l (bare_one t)

pub bare_both : {a b : Formula} {s w m r v n : ℕ} → Sized a s w m → Sized b r v n → Sized (Both a b) (s + r) (max w v) (m + n)
bare_both h k = omega arith

pub bare_either : {a b : Formula} {s w m r v n : ℕ} → Sized a s w m → Sized b r v n → Sized (Either a b) (s + r) (max w v) (m + n)
bare_either h k = omega arith

-- with fewer nodes and words in bounds
pub sized_as : {f : Formula} {s w n : ℕ} (r v m : ℕ) → s ≤ r → w ≤ v → n ≤ m → Sized f s w n → Sized f r v m
sized_as r v m a b c h = omega arith

-- one without comparisons after another
pub bare_else : {a b : Formula} {s w m n : ℕ} → Sized a s w m → Bare b n → Sized (Either a b) s w (m + n)
bare_else h k = sized_as _ _ _ (omega arith) (omega arith) (omega arith) (bare_either h k)

-- a field that A holds isn't loaded
less_loads : (held : Option FieldPlace) (f : Formula) → loads held f ≤ loads None f
less_loads held (Split t a b) = grind arith
less_loads held _ = omega arith

pub bare_split : {t : Elementary} {a b : Formula} {m n : ℕ} → Bare a m → Bare b n → Bare (Split t a b) (1 + (m + n))
bare_split {t = t} {a = a} {b = b} h k = omega (arith, bare_one t, less_loads (left_by t) a, less_loads (left_by t) b)

pub bare_after : {t : Elementary} {a : Formula} {s w n : ℕ} → Sized a s w n → Sized (after t a) s w (1 + n)
bare_after {t = t} h = sized_as _ _ _ (omega arith) (omega arith) (omega arith) (bare_both (bare_one t) h)

bare_pair : {t u : Elementary} → Bare (Both (Single t) (Single u)) 2
bare_pair {t = t} {u = u} = bare_after (bare_one u)

pub bare_all : (ts : List Elementary) (n : ℕ) → length ts ≤ n → 1 ≤ n → Bare (all_of ts) n
bare_all [] n l some = bare_some n some
bare_all (t ∷ []) n l some = bare_some n some
bare_all (t ∷ u ∷ ts) n l some = bare_within n (omega arith) (bare_after (bare_all (u ∷ ts) (n - 1) (omega arith) (omega arith)))

pub bare_sides : (d : Direction) (s t : List Elementary) (n : ℕ) → length s ≤ n → length t ≤ n → 1 ≤ n → Bare (sides d s t) (count.side_tests d n)
bare_sides (Direction.One Source) s t n l m some = bare_all s n l some
bare_sides (Direction.One Destination) s t n l m some = bare_all t n m some
bare_sides (Direction.Both Or) s t n l m some = bare_either (bare_all s n l some) (bare_all t n m some)
bare_sides (Direction.Both And) s t n l m some = bare_both (bare_all s n l some) (bare_all t n m some)

-- protocols and Ethernet addresses
bare_proto : (link : Link) (n : ℕ) → Bare (any_proto link n) 4
bare_proto link n = bare_either bare_pair bare_pair

pub bare_check : (link : Link) (p : Protocol) → Bare (check_formula link p) (count.check_tests p)
bare_check link p = grind (arith, bare_proto, bare_pair, bare_one)

bare_ether : (link : Link) (d : Direction) (a : ℕ) → Bare (ether_host link d a) (count.ether_tests d)
bare_ether link d a = bare_after (bare_sides d (mac_tests 6 a) (mac_tests 0 a) 2 (omega arith) (omega arith) (omega arith))

pub bare_cast : (link : Link) (p : Option Protocol) (c : Cast) → Bare (cast_formula link p c) (count.cast_tests c)
bare_cast link p c = grind (arith, bare_ether, bare_some, bare_pair)

bare_proto_value : (link : Link) (p : Option Protocol) (n : ℕ) → Bare (proto_formula link p n) (count.proto_tests p)
bare_proto_value link p n = grind (arith, bare_proto, bare_pair, bare_some)

-- hosts of one kind, or of one of three
abbrev pub of_kinds : Option Protocol → ℕ → ℕ
of_kinds None n = n + n + n
of_kinds (Some p) n = n

pub bare_hosts : (link : Link) (p : Option Protocol) (asked : Sides → Formula) (n : ℕ) → 1 ≤ n → ((k : FrameKind) → Bare (hosts_of_kind link k asked) n)
    → Bare (hosts_formula link p asked) (of_kinds p n)
bare_hosts link None asked n some each = bare_within _ (omega arith) (bare_either (each FrameKind.Ip) (bare_either (each FrameKind.Arp) (each FrameKind.Rarp)))
bare_hosts link (Some Protocol.Ip) asked n some each = each FrameKind.Ip
bare_hosts link (Some Protocol.Arp) asked n some each = each FrameKind.Arp
bare_hosts link (Some Protocol.Rarp) asked n some each = each FrameKind.Rarp
bare_hosts link (Some _) asked n some each = bare_some _ some

ip4_are : (p : Option Protocol) (d : Direction) → of_kinds p (1 + count.side_tests d 1) ≡ count.ip4_tests p d
ip4_are p d = grind arith

bare_net : (link : Link) (p : Option Protocol) (d : Direction) (mask : Option ℕ) (a : ℕ) → Bare (hosts_formula link p (in_net d mask a)) (count.ip4_tests p d)
bare_net link p d mask a =
    let e = ip4_are p d in
    bare_within _ (omega arith) (bare_hosts link p (in_net d mask a) _ (omega arith)
    (λ k. bare_after (bare_sides d _ _ 1 (omega arith) (omega arith) (omega arith))))

bare_ip6 : (link : Link) (d : Direction) (prefix : Option ℕ) (a : ℕ) → Bare (ip6_formula link d prefix a) (count.ip6_test_count d)
bare_ip6 link d prefix a = bare_after (bare_sides d _ _ 4 (omega arith) (omega arith) (omega arith))

pub bare_ports : (link : Link) (p : Option Protocol) (asked : Sides → Formula) (n : ℕ) → Bare (asked (port_places (ip_transport link))) n
    → Bare (asked (port_places (ip6_transport link))) n → Bare (port_formula link p asked)
    (1 + count.transport_tests p + 1 + n + (1 + count.transport_tests p + n))
bare_ports link p asked n ip ip6 = grind (arith, bare_within, bare_either, bare_after, bare_both, bare_one, bare_some)

-- values
pub bare_value : (link : Link) (k : ValueType) (p : Option Protocol) (d : Direction) (v : Value) → Bare (value_formula link k p d v) (count.typed_tests k p d v)
bare_value link Host p d (Value.Dotted a m) = bare_net link p d None a.address
bare_value link Host p d (Value.Ip6 a n) = bare_ip6 link d None a
bare_value link Host p d (Value.Mac a) = bare_ether link d a
bare_value link Net p d (Value.Number n m) = bare_net link p d _ _
bare_value link Net p d (Value.Dotted a m) = bare_net link p d _ _
bare_value link Net p d (Value.Ip6 a n) = bare_ip6 link d n a
bare_value link Port p d (Value.Number n m) = grind (arith, bare_ports, bare_sides)
bare_value link PortRange p d (Value.Range a b) = grind (arith, bare_ports, bare_sides)
bare_value link Proto p d (Value.Number n m) = bare_proto_value link p n
bare_value link _ None d _ = bare_some _ (omega arith)
bare_value link _ _ d _ = bare_some _ (omega arith)

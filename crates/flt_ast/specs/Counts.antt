-- The counts of an expression, as sums over its tree. Each test of a primitive's formula counts
-- one, and so does each node of arithmetic; `ether proto`, which is one test, counts two.
use Rattle.std.specs.Prelude.{ℕ, ◌+◌, ◌*◌, max, Option, Some, None}
use Rattle.flt_words.specs.declared.token.Cast.{Cast}
use Rattle.flt_words.specs.declared.token.{Protocol.Protocol, Side.TheVariants.Destination, ValueType.ValueType}
use Rattle.flt_words.specs.declared.token.ValueType.TheVariants.{Host, Net, Port, PortRange, Proto}
use Rattle.flt_ast.specs.Tree.{NumberTree, literal, len, load, negated, applied, TruthTree, check, cast, sized, qualified, compared, denied, joined, Expression, empty, truth}
use Rattle.flt_ast.specs.declared.{node.Node.Node, qualifiers.CompleteQualifiers.CompleteQualifiers}
use Rattle.flt_ast.specs.declared.{qualifiers.Direction.Direction, value.Value.Value}

-- n tests for the source, for the destination, or for each of them
abbrev pub side_tests : Direction → ℕ → ℕ
side_tests (Direction.One s) n = n
side_tests (Direction.Both j) n = n + n

-- the tests of a protocol number: for IPv4 or IPv6 one of the version and one of the number;
-- without a protocol, both
abbrev pub proto_tests : Option Protocol → ℕ
proto_tests None = (1 + 1) + (1 + 1)
proto_tests (Some p) = 1 + 1

-- the tests of a protocol by itself: `tcp` and `udp` mean `proto 6` and `proto 17`, `icmp` means
-- `ip proto 1`, `icmp6` means `ip6 proto 58`
abbrev pub check_tests : Protocol → ℕ
check_tests Protocol.Tcp = proto_tests None
check_tests Protocol.Udp = proto_tests None
check_tests Protocol.Icmp = proto_tests (Some Protocol.Ip)
check_tests Protocol.Icmp6 = proto_tests (Some Protocol.Ip6)
check_tests _ = 1

-- the tests of a MAC address: one of the link being Ethernet, and for each side one of four bytes
-- and one of two
abbrev pub ether_tests : Direction → ℕ
ether_tests d = 1 + side_tests d 2

-- the tests of `broadcast`, which is a destination MAC address, and of `multicast`: one of the
-- protocol, and one of a bit or byte
abbrev pub cast_tests : Cast → ℕ
cast_tests Cast.Broadcast = ether_tests (Direction.One Destination)
cast_tests Cast.Multicast = 1 + 1

-- the tests of an IPv4 address; without a protocol it may be one of IPv4, ARP or RARP
abbrev pub ip4_tests : Option Protocol → Direction → ℕ
ip4_tests None d = (1 + side_tests d 1) + (1 + side_tests d 1) + (1 + side_tests d 1)
ip4_tests (Some p) d = 1 + side_tests d 1

-- the tests of an IPv6 address: one of the protocol, and four words for each side
abbrev pub ip6_test_count : Direction → ℕ
ip6_test_count d = 1 + side_tests d 4

-- the tests of the transport protocol: TCP, UDP, or both if none is named
abbrev pub transport_tests : Option Protocol → ℕ
transport_tests None = 2
transport_tests (Some p) = 1

-- the tests of ports, with n tests per side: over IPv4, unless the packet is a later fragment, and
-- over IPv6
abbrev pub port_tests : Option Protocol → Direction → ℕ → ℕ
port_tests p d n =
    (1 + transport_tests p + 1 + side_tests d n) + (1 + transport_tests p + side_tests d n)

-- the tests of an address or a network, by its kind
abbrev pub address_tests : Option Protocol → Direction → Value → ℕ
address_tests p d (Value.Mac a) = ether_tests d
address_tests p d (Value.Ip6 a n) = ip6_test_count d
address_tests p d _ = ip4_tests p d

-- the tests of a value with these qualifiers
abbrev pub typed_tests : ValueType → Option Protocol → Direction → Value → ℕ
typed_tests Host p d v = address_tests p d v
typed_tests Net p d v = address_tests p d v
typed_tests Port p d v = port_tests p d 1
typed_tests PortRange p d v = port_tests p d 2
typed_tests Proto p d v = proto_tests p

-- the tests of a value with all its qualifiers
abbrev pub value_tests : CompleteQualifiers → Value → ℕ
value_tests q v = typed_tests q.value_type q.protocol q.direction v

-- the tests of an accessor: one of its protocol; or, for a protocol above IPv4, of IPv4, of its
-- number, and that the packet isn't a later fragment
abbrev pub accessor_test_count : Protocol → ℕ
accessor_test_count Protocol.Tcp = 1 + 1 + 1
accessor_test_count Protocol.Udp = 1 + 1 + 1
accessor_test_count Protocol.Icmp = 1 + 1 + 1
accessor_test_count _ = 1

-- the tests of all accessors of a number
abbrev pub number_tests : NumberTree → ℕ
number_tests (load p s a) = number_tests a + accessor_test_count p
number_tests (negated a) = number_tests a
number_tests (applied o a b) = number_tests a + number_tests b
number_tests _ = 0

-- the tests of a truth's formula: none for a value that lacks qualifiers; for a comparison those of
-- its accessors, and one
abbrev pub truth_tests : TruthTree → ℕ
truth_tests (check p) = check_tests p
truth_tests (cast p c) = cast_tests c
truth_tests (sized s n) = 1
truth_tests (qualified q v) = value_tests q v
truth_tests (compared c a b) = number_tests a + number_tests b + 1
truth_tests (denied a) = truth_tests a
truth_tests (joined j a b) = truth_tests a + truth_tests b
truth_tests _ = 0

-- the nodes of a number's arithmetic
abbrev pub number_size : NumberTree → ℕ
number_size (load p s a) = number_size a + 1
number_size (negated a) = number_size a + 1
number_size (applied o a b) = number_size a + number_size b + 1
number_size _ = 1

-- the nodes of a truth's arithmetic; `less` and `greater` compare the length with a number
abbrev pub truth_size : TruthTree → ℕ
truth_size (sized s n) = 2
truth_size (compared c a b) = number_size a + number_size b
truth_size (denied a) = truth_size a
truth_size (joined j a b) = truth_size a + truth_size b
truth_size _ = 0

-- the most words of memory that a number needs: each holds a left side while the right side is
-- computed
abbrev pub number_words : NumberTree → ℕ
number_words (load p s a) = number_words a
number_words (negated a) = number_words a
number_words (applied o a b) = max (number_words a) (1 + number_words b)
number_words _ = 0

-- the most words of memory that a truth needs
abbrev pub truth_words : TruthTree → ℕ
truth_words (sized s n) = max (number_words len) (1 + number_words (literal n))
truth_words (compared c a b) = max (number_words a) (1 + number_words b)
truth_words (denied a) = truth_words a
truth_words (joined j a b) = max (truth_words a) (truth_words b)
truth_words _ = 0

-- the tests of the formulas of an expression's primitives, by this count
abbrev pub tests_of : Expression → ℕ
tests_of empty = 0
tests_of (truth a) = truth_tests a

-- the nodes of an expression's arithmetic
abbrev pub nodes_of : Expression → ℕ
nodes_of empty = 0
nodes_of (truth a) = truth_size a

-- the most words of memory that an expression's program needs
abbrev pub words_of : Expression → ℕ
words_of empty = 0
words_of (truth a) = truth_words a

-- the most instructions of an expression's program: two returns, and 6 for each test and node
abbrev pub bound_of : Expression → ℕ
bound_of e = 2 + 6 * (tests_of e + nodes_of e)

-- the tests that a node itself adds to those of its tree
abbrev pub node_tests : Node → ℕ
node_tests (Node.Check p) = check_tests p
node_tests (Node.Cast p c) = cast_tests c
node_tests (Node.Sized s n) = 1
node_tests (Node.Qualified q v) = value_tests q v
node_tests (Node.Compare c) = 1
node_tests (Node.Load p s) = accessor_test_count p
node_tests _ = 0

-- the nodes of arithmetic that a node itself adds to those of its tree
abbrev pub node_size : Node → ℕ
node_size (Node.Sized s n) = 2
node_size (Node.Literal n) = 1
node_size Node.Len = 1
node_size (Node.Named n) = 1
node_size (Node.Load p s) = 1
node_size Node.Negate = 1
node_size (Node.Apply o) = 1
node_size _ = 0

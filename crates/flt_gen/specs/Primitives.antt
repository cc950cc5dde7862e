-- The table of primitives: each is a formula of elementary tests.
use Rattle.std.specs.Prelude.{ℕ, ◌+◌, ◌-◌, ◌*◌, ◌/◌, ◌%◌, ◌^◌, ◌==◌, if◌then◌else◌, min, max, false, List, [], ◌∷◌, Option, Some, None}
use Rattle.flt_gen.specs.Elementary.{with, is_at, compares_at, compares_under, has_type, kind_test, first_fragment, has_ip_proto, has_ip6_proto}
use Rattle.cap_octet.specs.Assigned.{IPPROTO_ICMP, IPPROTO_TCP, IPPROTO_UDP, IPPROTO_ICMPV6}
use Rattle.cap_octet.specs.{Link.network_offset, declared.link.Link.Link}
use Rattle.flt_bpf.specs.declared.operation.Width.TheVariants.{Word, HalfWord, Byte}
use Rattle.flt_words.specs.declared.token.{Cast.Cast, Cast.TheVariants.Broadcast, Cast.TheVariants.Multicast, Size.Size}
use Rattle.flt_words.specs.declared.token.Comparison.TheVariants.{NotEqual, AtMost, AtLeast, Equal}
use Rattle.flt_words.specs.declared.token.{Protocol.Protocol, Side.TheVariants.Destination, ValueType.ValueType}
use Rattle.flt_words.specs.declared.token.ValueType.TheVariants.{Host, Net, Port, PortRange, Proto}
use Rattle.flt_ast.specs.{Nets.first_bits, Nets.ip4_net, declared.value.Ip4Net.Ip4Net, declared.value.Value.Value}
use Rattle.flt_ast.specs.Tree.{literal, len}
use Rattle.flt_ast.specs.declared.qualifiers.{CompleteQualifiers.CompleteQualifiers, Direction.Direction}
use Rattle.flt_gen.specs.Formula.{Formula, Single, Compare, Both, Either, all_of, sides}
use Rattle.flt_gen.specs.declared.elementary.{Elementary.Elementary, Elementary.TheVariants.Outcome, Sides.Sides}
use Rattle.flt_gen.specs.declared.{elementary.FrameKind.FrameKind, port.Transport.Transport}
use Rattle.flt_gen.specs.declared.elementary.FrameKind.TheVariants.{Ethernet, Ip, Ip6, Arp, Rarp}
use Rattle.flt_gen.specs.declared.elementary.Offset.{Offset, TheVariants.Fixed, TheVariants.AfterHeader}

-- a test, and then a formula
abbrev pub after : Elementary → Formula → Formula
after t f = Both (Single t) f

-- protocols

-- IPv4 with this protocol
abbrev pub ip_proto : Link → ℕ → Formula
ip_proto link n = after (kind_test link Ip) (Single (has_ip_proto link n))

-- IPv6 with this next header; extension headers aren't looked past
abbrev pub ip6_proto : Link → ℕ → Formula
ip6_proto link n = after (kind_test link Ip6) (Single (has_ip6_proto link n))

-- IPv4 with this protocol, or IPv6 with this next header
abbrev pub any_proto : Link → ℕ → Formula
any_proto link n = Either (ip_proto link n) (ip6_proto link n)

-- only a protocol's keyword
abbrev pub check_formula : Link → Protocol → Formula
check_formula link Protocol.Ether = Single (kind_test link Ethernet)
check_formula link Protocol.Ip = Single (kind_test link Ip)
check_formula link Protocol.Ip6 = Single (kind_test link Ip6)
check_formula link Protocol.Arp = Single (kind_test link Arp)
check_formula link Protocol.Rarp = Single (kind_test link Rarp)
check_formula link Protocol.Tcp = any_proto link IPPROTO_TCP
check_formula link Protocol.Udp = any_proto link IPPROTO_UDP
check_formula link Protocol.Icmp = ip_proto link IPPROTO_ICMP
check_formula link Protocol.Icmp6 = ip6_proto link IPPROTO_ICMPV6

-- `proto N`, after a protocol or none
abbrev pub proto_formula : Link → Option Protocol → ℕ → Formula
proto_formula link (Some Protocol.Ip) n = ip_proto link n
proto_formula link (Some Protocol.Ip6) n = ip6_proto link n
proto_formula link (Some Protocol.Ether) n = Single (has_type link n)
proto_formula link None n = any_proto link n
proto_formula link (Some _) n = Single (Outcome false)

-- Ethernet addresses

-- the six bytes from a place on are a MAC address
abbrev pub mac_tests : ℕ → ℕ → List Elementary
mac_tests at address =
    is_at at Word (address / 2 ^ 16 % 2 ^ 32) ∷ is_at (at + 4) HalfWord (address % 2 ^ 16) ∷ []

-- `ether host`: the source is at byte 6, the destination at byte 0
abbrev pub ether_host : Link → Direction → ℕ → Formula
ether_host link direction address =
    after (kind_test link Ethernet) (sides direction (mac_tests 6 address) (mac_tests 0 address))

-- the destination is a group of stations: the lowest bit of its first byte is set
abbrev pub is_group_address : Elementary
is_group_address = compares_under (Some 1) (Fixed 0) Byte NotEqual 0

-- `broadcast` and `multicast`, after a protocol or none
abbrev pub cast_formula : Link → Option Protocol → Cast → Formula
cast_formula link None Broadcast = ether_host link (Direction.One Destination) 0xffff_ffff_ffff
cast_formula link (Some Protocol.Ether) Broadcast =
    ether_host link (Direction.One Destination) 0xffff_ffff_ffff
cast_formula link (Some _) Broadcast = Single (Outcome false)
cast_formula link (Some Protocol.Ip) Multicast =
    all_of
    (kind_test link Ip ∷ compares_at (Fixed (network_offset link + 16)) Byte AtLeast 224 ∷ [])
cast_formula link (Some Protocol.Ip6) Multicast =
    all_of (kind_test link Ip6 ∷ is_at (network_offset link + 24) Byte 255 ∷ [])
cast_formula link None Multicast = all_of (kind_test link Ethernet ∷ is_group_address ∷ [])
cast_formula link (Some Protocol.Ether) Multicast =
    all_of (kind_test link Ethernet ∷ is_group_address ∷ [])
cast_formula link (Some _) Multicast = Single (Outcome false)

-- IPv4 addresses and networks

-- the mask of a word, or none if all of its bits count
abbrev pub partial_mask : ℕ → Option ℕ
partial_mask mask = if mask == 2 ^ 32 - 1 then None else Some mask

-- the word at a place is an address, as far as the mask goes
abbrev pub address_test : Option ℕ → ℕ → Offset → Elementary
address_test mask address offset = compares_under mask offset Word Equal address

-- how many bytes past the start of a header of IPv4, or else of ARP or RARP, the IPv4 address of
-- the source stands
abbrev pub source_offset : FrameKind → ℕ
source_offset Ip = 12
source_offset _ = 14

-- how many bytes past the start of a header of IPv4, or else of ARP or RARP, the IPv4 address of
-- the destination stands
abbrev pub destination_offset : FrameKind → ℕ
destination_offset Ip = 16
destination_offset _ = 24

-- where both IPv4 addresses of a header of IPv4, ARP or RARP stand
abbrev pub address_places : Link → FrameKind → Sides
address_places link kind = record {
  width = Word;
  source = Fixed (network_offset link + source_offset kind);
  destination = Fixed (network_offset link + destination_offset kind);
}

-- the address of a source or a destination, as a direction asks for them, is in a network
abbrev pub in_net : Direction → Option ℕ → ℕ → Sides → Formula
in_net direction mask address at =
    sides direction (address_test mask address at.source ∷ [])
    (address_test mask address at.destination ∷ [])

-- in a header of a kind, what is asked of the places of its addresses
abbrev pub hosts_of_kind : Link → FrameKind → (Sides → Formula) → Formula
hosts_of_kind link kind asked = after (kind_test link kind) (asked (address_places link kind))

-- the same in the headers that a protocol, or none, allows
abbrev pub hosts_formula : Link → Option Protocol → (Sides → Formula) → Formula
hosts_formula link (Some Protocol.Ip) asked = hosts_of_kind link Ip asked
hosts_formula link (Some Protocol.Arp) asked = hosts_of_kind link Arp asked
hosts_formula link (Some Protocol.Rarp) asked = hosts_of_kind link Rarp asked
hosts_formula link None asked =
    Either (hosts_of_kind link Ip asked)
    (Either (hosts_of_kind link Arp asked) (hosts_of_kind link Rarp asked))
hosts_formula link (Some _) asked = Single (Outcome false)

-- IPv6 addresses and networks: four words

-- one of the four words (0 to 3) of the IPv6 address at a place is that of an address, as far as
-- the prefix goes
abbrev pub ip6_test : Option ℕ → ℕ → ℕ → ℕ → Elementary
ip6_test prefix address at word =
    address_test (with prefix (λ bits. partial_mask (first_bits 32 (bits - 32 * word))))
    (address / 2 ^ (96 - 32 * word) % 2 ^ 32) (Fixed (at + 4 * word))

-- all four words of the IPv6 address at a place are those of an address, as far as the prefix goes
abbrev pub ip6_tests : Option ℕ → ℕ → ℕ → List Elementary
ip6_tests prefix address at =
    ip6_test prefix address at 0 ∷ ip6_test prefix address at 1 ∷ ip6_test prefix address at 2
    ∷ ip6_test prefix address at 3 ∷ []

-- `host` and `net` of IPv6, whose addresses are at bytes 8 and 24 of the header
abbrev pub ip6_formula : Link → Direction → Option ℕ → ℕ → Formula
ip6_formula link direction prefix address =
    after (kind_test link Ip6) (sides direction (ip6_tests prefix address (network_offset link + 8))
    (ip6_tests prefix address (network_offset link + 24)))

-- ports

-- the port at a place is this one
abbrev pub port_is : ℕ → Offset → List Elementary
port_is n offset = compares_at offset HalfWord Equal n ∷ []

-- the port at a place is in a range
abbrev pub port_between : ℕ → ℕ → Offset → List Elementary
port_between a b offset =
    compares_at offset HalfWord AtLeast a ∷ compares_at offset HalfWord AtMost b ∷ []

-- where both ports after a header stand
abbrev pub port_places : Transport → Sides
port_places header =
    record { width = HalfWord; source = header.source; destination = header.destination }

-- the port of a source or a destination, as a direction asks for them, is this one
abbrev pub is_port : Direction → ℕ → Sides → Formula
is_port direction n at = sides direction (port_is n at.source) (port_is n at.destination)

-- it is in a range
abbrev pub in_range : Direction → ℕ → ℕ → Sides → Formula
in_range direction a b at =
    sides direction (port_between a b at.source) (port_between a b at.destination)

-- the test of TCP, that of UDP, or either, and then a formula
abbrev pub transport : Option Protocol → Elementary → Elementary → Formula → Formula
transport (Some Protocol.Tcp) tcp udp f = after tcp f
transport (Some Protocol.Udp) tcp udp f = after udp f
transport None tcp udp f = Both (Either (Single tcp) (Single udp)) f
transport (Some _) tcp udp f = Single (Outcome false)

-- a test, if there is one, and then a formula
abbrev pub following : Option Elementary → Formula → Formula
following None f = f
following (Some t) f = after t f

-- after a header that names the protocol that is asked for, and isn't a later fragment's, what is
-- asked of the places of its ports
abbrev pub transport_ports : Transport → Option Protocol → (Sides → Formula) → Formula
transport_ports header protocol asked =
    transport protocol header.tcp header.udp
    (following header.no_later_fragment (asked (port_places header)))

-- what follows an IPv4 header, which has no fixed length; no later fragment has ports
abbrev pub ip_transport : Link → Transport
ip_transport link = record {
  tcp = has_ip_proto link IPPROTO_TCP;
  udp = has_ip_proto link IPPROTO_UDP;
  no_later_fragment = Some (first_fragment link);
  source = AfterHeader (network_offset link) (network_offset link);
  destination = AfterHeader (network_offset link) (network_offset link + 2);
}

-- what follows an IPv6 header, which has 40 bytes
abbrev pub ip6_transport : Link → Transport
ip6_transport link = record {
  tcp = has_ip6_proto link IPPROTO_TCP;
  udp = has_ip6_proto link IPPROTO_UDP;
  no_later_fragment = None;
  source = Fixed (network_offset link + 40);
  destination = Fixed (network_offset link + 42);
}

-- `port` and `portrange`: the ports of TCP and UDP over IPv4 or IPv6; for SCTP no port is read
abbrev pub port_formula : Link → Option Protocol → (Sides → Formula) → Formula
port_formula link protocol asked =
    Either (after (kind_test link Ip) (transport_ports (ip_transport link) protocol asked))
    (after (kind_test link Ip6) (transport_ports (ip6_transport link) protocol asked))

-- Values with their qualifiers. What doesn't fit was refused before: most of that isn't one here
-- and above, and of the rest nothing depends on what it is (a host of fewer parts, a port's mask).

-- the hosts of the network of IPv4 that a value means; no, if it means none
abbrev pub ip4_formula : Link → Option Protocol → Direction → Option Ip4Net → Formula
ip4_formula link protocol direction (Some net) =
    hosts_formula link protocol (in_net direction (partial_mask net.mask) net.address)
ip4_formula link protocol direction None = Single (Outcome false)

-- `net` with a network of IPv4 or IPv6
abbrev pub net_value_formula : Link → Option Protocol → Direction → Value → Formula
net_value_formula link protocol direction (Value.Ip6 address prefix) =
    ip6_formula link direction prefix address
net_value_formula link protocol direction v = ip4_formula link protocol direction (ip4_net v)

-- a value with these qualifiers: the ends of a range may stand in either order
abbrev pub value_formula : Link → ValueType → Option Protocol → Direction → Value → Formula
value_formula link Host protocol direction (Value.Dotted dotted mask) =
    hosts_formula link protocol (in_net direction None dotted.address)
value_formula link Host protocol direction (Value.Ip6 address prefix) =
    ip6_formula link direction None address
value_formula link Host protocol direction (Value.Mac address) = ether_host link direction address
value_formula link Net protocol direction v = net_value_formula link protocol direction v
value_formula link Port protocol direction (Value.Number n mask) =
    port_formula link protocol (is_port direction n)
value_formula link PortRange protocol direction (Value.Range a b) =
    port_formula link protocol (in_range direction (min a b) (max a b))
value_formula link Proto protocol direction (Value.Number n mask) = proto_formula link protocol n
value_formula link _ protocol direction _ = Single (Outcome false)

-- a value with all its qualifiers
abbrev pub qualified_formula : Link → CompleteQualifiers → Value → Formula
qualified_formula link q v = value_formula link q.value_type q.protocol q.direction v

-- the original length is at most, or at least, a number: `less N` is `len <= N` (pcap-filter(7))
abbrev pub sized_formula : Size → ℕ → Formula
sized_formula Size.Less n = Compare AtMost len (literal n)
sized_formula Size.Greater n = Compare AtLeast len (literal n)

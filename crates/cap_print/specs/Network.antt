-- The network header in a line; it begins at offset `l` of the captured bytes `p`.
use Rattle.std.specs.Prelude.{ℕ, ◌+◌, ◌*◌, ◌%◌, nat_lt, nat_le, ◌==◌, ◌&&◌, ◌||◌, not, Bool, false, if◌then◌else◌, List, ◌++◌, length, slice_index, decimal, Option, Some, None, codes}
use Rattle.cap_octet.specs.Assigned.{IPPROTO_ICMP, IPPROTO_TCP, IPPROTO_UDP, IPPROTO_ICMPV6}
use Rattle.cap_octet.specs.NetworkHeader.{link_header_length, network_header}
use Rattle.cap_octet.specs.declared.network.NetworkHeader.{NetworkHeader}
use Rattle.cap_octet.specs.declared.network.NetworkHeader.TheVariants.{Known, OtherType, OtherVersion, OtherLink, Short}
use Rattle.cap_octet.specs.declared.network.NetworkKind.TheVariants.{Ipv4, Ipv6, Arp, Rarp}
use Rattle.cap_print.specs.Addresses.{network_u16, ipv4_text, ipv6_text, port_text}
use Rattle.cap_print.specs.Hexadecimal.{hex_four}
use Rattle.cap_print.specs.declared.network.{Ip.Ip, Ip.TheVariants.V4, Ip.TheVariants.V6, IpLayout.IpLayout}

-- the offsets of protocol and addresses in an IP header, and the length of an address (RFC 791,
-- section 3.1; RFC 8200, section 3)
abbrev pub layout_of : Ip → IpLayout
layout_of V4 = record { protocol = 9; addresses = 12; address_length = 4 }
layout_of V6 = record { protocol = 6; addresses = 8; address_length = 16 }

-- the end of the addresses of an IP header
abbrev pub addresses_end : Ip → ℕ → ℕ
addresses_end ip l = l + (layout_of ip).addresses + 2 * (layout_of ip).address_length

-- the ICMP protocol of this version of IP
abbrev pub icmp : Ip → ℕ
icmp V4 = IPPROTO_ICMP
icmp V6 = IPPROTO_ICMPV6

-- the name in a line of the ICMP of this version of IP
abbrev pub icmp_name : Ip → List ℕ
icmp_name V4 = codes "ICMP"
icmp_name V6 = codes "ICMP6"

-- the name of a protocol, or its number if it has none
unfoldable pub protocol_text : Ip → ℕ → List ℕ
protocol_text ip n =
    if n == IPPROTO_TCP then codes "TCP"
    else if n == IPPROTO_UDP then codes "UDP"
    else if n == icmp ip then icmp_name ip
    else codes "proto " ++ decimal n

-- the address of this version at a place
abbrev pub address_text : Ip → List ℕ → ℕ → List ℕ
address_text V4 p at = ipv4_text p at
address_text V6 p at = ipv6_text p at

-- the address at a place, and its port, if there is one
abbrev pub address_with_port : Ip → List ℕ → ℕ → Option ℕ → List ℕ
address_with_port ip p at port = address_text ip p at ++ port_text port

-- `A > B: `, each address with its port, if there are ports
unfoldable pub ip_endpoints : Ip → ℕ → List ℕ → Option ℕ × Option ℕ → List ℕ
ip_endpoints ip l p ports =
    address_with_port ip p (l + (layout_of ip).addresses) ports.0
    ++ (codes " > "
    ++ (address_with_port ip p (l + (layout_of ip).addresses + (layout_of ip).address_length)
    ports.1 ++ codes ": "))

-- whether this is a later fragment of IPv4, whose offset isn't 0
abbrev pub is_later_fragment : Ip → ℕ → List ℕ → Bool
is_later_fragment V4 l p = not (network_u16 p (l + 6) % 8192 == 0)
is_later_fragment V6 l p = false

-- the end of the header: an IPv4 header states its length, an IPv6 header has 40 bytes
abbrev pub header_end : Ip → ℕ → List ℕ → ℕ
header_end V4 l p = 4 * (slice_index p l % 16) + l
header_end V6 l p = addresses_end V6 l

-- whether a protocol is TCP or UDP, whose headers begin with two ports
abbrev pub has_ports : ℕ → Bool
has_ports n = (n == IPPROTO_TCP) || (n == IPPROTO_UDP)

-- the two ports at an offset, if this protocol has ports and they are captured
abbrev pub ports_at : ℕ → ℕ → List ℕ → Option ℕ × Option ℕ
ports_at n at p =
    if has_ports n && nat_le (at + 4) (length p)
    then (Some (network_u16 p at), Some (network_u16 p (at + 2))) else (None, None)

-- an IP header in a line, after its name
unfoldable pub ip_part : Ip → ℕ → List ℕ → List ℕ
ip_part ip l p =
    if nat_lt (length p) (addresses_end ip l) then codes "[short]"
    else if is_later_fragment ip l p then ip_endpoints ip l p (None, None) ++ codes "fragment"
    else ip_endpoints ip l p
    (ports_at (slice_index p (l + (layout_of ip).protocol)) (header_end ip l p) p)
    ++ protocol_text ip (slice_index p (l + (layout_of ip).protocol))

-- an ARP or RARP header in a line, after its name
unfoldable pub arp_part : ℕ → List ℕ → List ℕ
arp_part l p =
    if nat_lt (length p) (l + 28) then codes " [short]"
    else codes " op "
    ++ (decimal (network_u16 p (l + 6))
    ++ (codes " " ++ (ipv4_text p (l + 14) ++ (codes " > " ++ ipv4_text p (l + 24)))))

-- an EtherType in a line, as `type 0x0800`
unfoldable pub type_text : ℕ → List ℕ
type_text type = codes "type 0x" ++ hex_four type

-- a line's part for a packet with this network header
unfoldable pub header_part : NetworkHeader → ℕ → List ℕ → List ℕ
header_part (Known Ipv4) l p = codes "IP " ++ ip_part V4 l p
header_part (Known Ipv6) l p = codes "IP6 " ++ ip_part V6 l p
header_part (Known Arp) l p = codes "ARP" ++ arp_part l p
header_part (Known Rarp) l p = codes "RARP" ++ arp_part l p
header_part (OtherType type) l p = type_text type
header_part (OtherVersion version) l p = codes "version " ++ decimal version
header_part (OtherLink link) l p = codes "link " ++ decimal link
header_part Short l p = codes "[short]"

-- a line's part for the network header of a packet of this link type
unfoldable pub network_part : ℕ → List ℕ → List ℕ
network_part link p = header_part (network_header link p) (link_header_length link) p

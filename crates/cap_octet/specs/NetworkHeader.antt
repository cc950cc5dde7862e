-- The network header of a packet, by its link type. p are the captured bytes.
use Rattle.std.specs.Option.{option_map_or}
use Rattle.std.specs.Prelude.{ℕ, ◌+◌, ◌/◌, nat_lt, ◌==◌, if◌then◌else◌, List, length, slice_index, Option, None, Some}
use Rattle.cap_octet.specs.Assigned.{ETHERTYPE_IPV4, ETHERTYPE_IPV6, ETHERTYPE_ARP, ETHERTYPE_RARP}
use Rattle.cap_octet.specs.Link.{network_offset, link_of, type_offset}
use Rattle.cap_octet.specs.{Number.u16_in, declared.network.NetworkHeader.NetworkHeader}
use Rattle.cap_octet.specs.declared.network.NetworkHeader.TheVariants.{Known, OtherType, OtherVersion, OtherLink, Short}
use Rattle.cap_octet.specs.declared.network.NetworkKind.TheVariants.{Ipv4, Ipv6, Arp, Rarp}
use Rattle.cap_octet.specs.declared.number.Order.TheVariants.{Big}

-- the length of the link header of a link type, after which the network header begins; 0 for an
-- unknown link type
abbrev pub link_header_length : ℕ → ℕ
link_header_length n = option_map_or network_offset (link_of n) 0

-- the network header that an EtherType shows
abbrev pub header_by_ethertype : ℕ → NetworkHeader
header_by_ethertype type =
    if type == ETHERTYPE_IPV4 then Known Ipv4
    else if type == ETHERTYPE_IPV6 then Known Ipv6
    else if type == ETHERTYPE_ARP then Known Arp
    else if type == ETHERTYPE_RARP then Known Rarp
    else OtherType type

-- the network header that a version of IP shows
abbrev pub header_by_version : ℕ → NetworkHeader
header_by_version version =
    if version == 4 then Known Ipv4 else if version == 6 then Known Ipv6 else OtherVersion version

-- The network header of a packet, by the EtherType at this offset in the link header; for raw IP,
-- which has no EtherType, by the version of IP in its first four bits. `Short` if the bytes that
-- decide it aren't captured.
abbrev pub header_after : Option ℕ → List ℕ → NetworkHeader
header_after None p = if length p == 0 then Short else header_by_version (slice_index p 0 / 16)
header_after (Some at) p =
    if nat_lt (length p) (at + 2) then Short else header_by_ethertype (u16_in Big p at)

-- the network header of a packet of this link type; `OtherLink` for an unknown link type
abbrev pub network_header : ℕ → List ℕ → NetworkHeader
network_header n p =
    option_map_or (λ link. header_after (type_offset link) p) (link_of n) (OtherLink n)

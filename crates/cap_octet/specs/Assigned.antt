-- Numbers that are assigned to link types, EtherTypes and protocols, and the lengths of link
-- headers.
use Rattle.std.specs.Prelude.{ℕ}

-- link types (tcpdump.org's list of LINKTYPE_ values)

abbrev pub LINKTYPE_ETHERNET : ℕ
LINKTYPE_ETHERNET = 1

abbrev pub LINKTYPE_RAW : ℕ
LINKTYPE_RAW = 101

abbrev pub LINKTYPE_LINUX_SLL : ℕ
LINKTYPE_LINUX_SLL = 113

-- types of network headers (IANA's list of EtherType numbers)

abbrev pub ETHERTYPE_IPV4 : ℕ
ETHERTYPE_IPV4 = 0x0800

abbrev pub ETHERTYPE_IPV6 : ℕ
ETHERTYPE_IPV6 = 0x86dd

abbrev pub ETHERTYPE_ARP : ℕ
ETHERTYPE_ARP = 0x0806

abbrev pub ETHERTYPE_RARP : ℕ
ETHERTYPE_RARP = 0x8035

-- protocols after a header of IP (IANA's list of protocol numbers)

abbrev pub IPPROTO_ICMP : ℕ
IPPROTO_ICMP = 1

abbrev pub IPPROTO_TCP : ℕ
IPPROTO_TCP = 6

abbrev pub IPPROTO_UDP : ℕ
IPPROTO_UDP = 17

abbrev pub IPPROTO_ICMPV6 : ℕ
IPPROTO_ICMPV6 = 58

-- the place of the EtherType in a link header, and the length of that header

abbrev pub ETHERNET_TYPE_OFFSET : ℕ
ETHERNET_TYPE_OFFSET = 12

abbrev pub ETHERNET_HEADER_LENGTH : ℕ
ETHERNET_HEADER_LENGTH = 14

abbrev pub LINUX_SLL_TYPE_OFFSET : ℕ
LINUX_SLL_TYPE_OFFSET = 14

abbrev pub LINUX_SLL_HEADER_LENGTH : ℕ
LINUX_SLL_HEADER_LENGTH = 16

-- The link types that lines and expressions support, and the link headers of their packets.
use Rattle.std.specs.List.{find}
use Rattle.std.specs.Prelude.{ℕ, ◌==◌, List, [], ◌∷◌, Option, None, Some, codes}
use Rattle.std.specs.Str.{bytes_eq}
use Rattle.cap_octet.specs.Assigned.{LINKTYPE_ETHERNET, LINKTYPE_RAW, LINKTYPE_LINUX_SLL, ETHERNET_TYPE_OFFSET, ETHERNET_HEADER_LENGTH, LINUX_SLL_TYPE_OFFSET, LINUX_SLL_HEADER_LENGTH}
use Rattle.cap_octet.specs.declared.link.Link.{Link, TheVariants.Ether, TheVariants.Raw, TheVariants.Cooked}

-- all links
unfoldable pub all_links : List Link
all_links = Ether ∷ Raw ∷ Cooked ∷ []

-- the LINKTYPE_ number of a link
abbrev pub link_type : Link → ℕ
link_type Ether = LINKTYPE_ETHERNET
link_type Raw = LINKTYPE_RAW
link_type Cooked = LINKTYPE_LINUX_SLL

-- the length of a link's header, after which the network header begins
abbrev pub network_offset : Link → ℕ
network_offset Ether = ETHERNET_HEADER_LENGTH
network_offset Raw = 0
network_offset Cooked = LINUX_SLL_HEADER_LENGTH

-- the length of the longest link header
abbrev pub longest_header : ℕ
longest_header = 16

-- the offset of the EtherType in a link header; None for raw IP, which has no EtherType
abbrev pub type_offset : Link → Option ℕ
type_offset Ether = Some ETHERNET_TYPE_OFFSET
type_offset Raw = None
type_offset Cooked = Some LINUX_SLL_TYPE_OFFSET

-- the name of a link on command lines and in the lines of packets
abbrev pub link_name : Link → List ℕ
link_name Ether = codes "ether"
link_name Raw = codes "raw"
link_name Cooked = codes "cooked"

-- the link with this link type; None for an unknown link type
abbrev pub link_of : ℕ → Option Link
link_of n = find (λ link. link_type link == n) all_links

-- the link with this name, or None
abbrev pub link_of_name : List ℕ → Option Link
link_of_name name = find (λ link. bytes_eq (link_name link) name) all_links

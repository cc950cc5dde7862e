-- The line of a packet.
use Rattle.std.specs.Option.{option_map_or}
use Rattle.std.specs.Prelude.{ℕ, Bool, if◌then◌else◌, nat_lt, List, [], ◌∷◌, ◌++◌, length, decimal, codes, Option, None, Some}
use Rattle.cap_octet.specs.{Date.date_text, Link.link_name, Link.link_of, Link.network_offset, Link.type_offset}
use Rattle.cap_octet.specs.{Packet.Captured, declared.link.Link.Link, declared.link.Link.TheVariants.Ether}
use Rattle.cap_print.specs.{Addresses.network_u16, Addresses.mac_text, Network.network_part, Network.type_text}

-- the link header in a line, before its EtherType: for Ethernet the source and destination address,
-- for another link its name
unfoldable pub link_text : Link → List ℕ → List ℕ
link_text Ether p = mac_text p 6 ++ (codes " > " ++ mac_text p 0)
link_text link p = link_name link

-- the link header in a line, by the offset of its EtherType, if it has one
unfoldable pub link_header : Link → Option ℕ → List ℕ → List ℕ
link_header link None p = link_name link ++ codes ", "
link_header link (Some at) p =
    if nat_lt (length p) (network_offset link) then link_name link ++ codes " [short], "
    else link_text link p ++ (codes ", " ++ (type_text (network_u16 p at) ++ codes ", "))

-- the link header in a line, by the link type, known or not
unfoldable pub link_part : ℕ → List ℕ → List ℕ
link_part n p =
    option_map_or (λ link. link_header link (type_offset link) p) (link_of n)
    (codes "link " ++ (decimal n ++ codes ", "))

-- the line of a packet: date, link header if that is asked for, network header, and original length
unfoldable pub line : Bool → Captured → List ℕ
line with_link p =
    date_text p.time
    ++ (32 ∷ ((if with_link then link_part p.link p.bytes else [])
    ++ (network_part p.link p.bytes ++ (codes ", length " ++ (decimal p.orig ++ 10 ∷ [])))))

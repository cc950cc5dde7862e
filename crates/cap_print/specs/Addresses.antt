-- The text of the addresses and ports in the bytes `p` of a packet.
use Rattle.std.specs.Prelude.{ℕ, zero, suc, ◌+◌, ◌*◌, List, [], ◌∷◌, ◌++◌, slice_index, decimal, Option, Some, None}
use Rattle.cap_octet.specs.{Number.u16_in, declared.number.Order.TheVariants.Big}
use Rattle.cap_print.specs.Hexadecimal.{hex_two, hex_group}

-- the number in the two bytes from a place, the high byte first
abbrev pub network_u16 : List ℕ → ℕ → ℕ
network_u16 p at = u16_in Big p at

-- the IPv4 address in the four bytes from a place: four decimal numbers
unfoldable pub ipv4_text : List ℕ → ℕ → List ℕ
ipv4_text p at =
    decimal (slice_index p at)
    ++ 46 ∷
    (decimal (slice_index p (at + 1))
    ++ 46 ∷ (decimal (slice_index p (at + 2)) ++ 46 ∷ decimal (slice_index p (at + 3))))

-- groups of an IPv6 address from this place, two bytes each: one, and this many more
abbrev pub groups : List ℕ → ℕ → ℕ → List ℕ
groups p at zero = hex_group (network_u16 p at)
groups p at (suc n) = groups p at n ++ 58 ∷ hex_group (network_u16 p (at + 2 + 2 * n))

-- the IPv6 address in the sixteen bytes from a place: eight groups, never shortened
unfoldable pub ipv6_text : List ℕ → ℕ → List ℕ
ipv6_text p at = groups p at 7

-- a port after an address, if there is one
abbrev pub port_text : Option ℕ → List ℕ
port_text None = []
port_text (Some port) = 46 ∷ decimal port

-- bytes of an Ethernet address from this place: one, and this many more
abbrev pub bytes_with_colons : List ℕ → ℕ → ℕ → List ℕ
bytes_with_colons p at zero = hex_two (slice_index p at)
bytes_with_colons p at (suc n) =
    bytes_with_colons p at n ++ 58 ∷ hex_two (slice_index p (at + 1 + n))

-- the Ethernet address in the six bytes from a place
unfoldable pub mac_text : List ℕ → ℕ → List ℕ
mac_text p at = bytes_with_colons p at 5

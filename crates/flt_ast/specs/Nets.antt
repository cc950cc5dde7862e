-- The networks that values mean: an address and its mask, as numbers of 32 or 128 bits.
use Rattle.std.specs.Prelude.{ℕ, ◌-◌, ◌*◌, ◌%◌, ◌^◌, Bool, false, not, ◌||◌, ◌==◌, bit_and, Option, Some, None}
use Rattle.flt_ast.specs.declared.value.{Ip4Net.Ip4Net, Ip6Net.Ip6Net, NetMask.NetMask, Value.Value}

-- the mask of the first n of a number of bits
abbrev pub first_bits : ℕ → ℕ → ℕ
first_bits width n = 2 ^ width - 2 ^ (width - n)

-- the mask of an IPv4 network: the given one, else one of as many bytes as the address has parts
abbrev pub ip4_mask : ℕ → NetMask → ℕ
ip4_mask parts NetMask.Unwritten = first_bits 32 (8 * parts)
ip4_mask parts (NetMask.Prefix n) = first_bits 32 n
ip4_mask parts (NetMask.Mask d) = d.address

-- the mask of an IPv6 network; without the length of a prefix it has all bits
abbrev pub ip6_mask : Option ℕ → ℕ
ip6_mask None = first_bits 128 128
ip6_mask (Some n) = first_bits 128 n

-- the IPv4 network of a value, or none; a plain number is the first byte
abbrev pub ip4_net : Value → Option Ip4Net
ip4_net (Value.Number n m) = Some (record { address = n % 256 * 2 ^ 24; mask = ip4_mask 1 m })
ip4_net (Value.Dotted d m) = Some (record { address = d.address; mask = ip4_mask d.parts m })
ip4_net _ = None

-- the IPv6 network of a value, or none
abbrev pub ip6_net : Value → Option Ip6Net
ip6_net (Value.Ip6 a n) = Some (record { address = a; mask = ip6_mask n })
ip6_net _ = None

-- whether the address has bits that the mask doesn't have
abbrev pub is_past : ℕ → ℕ → Bool
is_past address m = not (bit_and address m == address)

-- whether an IPv4 network, if there is one, has address bits that its mask doesn't have
abbrev pub ip4_past : Option Ip4Net → Bool
ip4_past None = false
ip4_past (Some n) = is_past n.address n.mask

-- whether an IPv6 network, if there is one, has address bits that its mask doesn't have
abbrev pub ip6_past : Option Ip6Net → Bool
ip6_past None = false
ip6_past (Some n) = is_past n.address n.mask

-- whether a value is a network whose address has bits that its mask doesn't have
abbrev pub is_past_mask : Value → Bool
is_past_mask v = ip4_past (ip4_net v) || ip6_past (ip6_net v)

-- What fits: which values, protocols and directions go with a type, and which numbers are in range.
use Rattle.std.specs.Prelude.{ℕ, Bool, true, false, ◌&&◌, ◌||◌, ◌==◌, nat_le, Option, Some, None}
use Rattle.flt_words.specs.declared.token.{Cast.Cast, Join.TheVariants.Or, Protocol.Protocol, ValueType.ValueType}
use Rattle.flt_words.specs.declared.token.ValueType.TheVariants.{Host, Net, Port, PortRange, Proto}
use Rattle.flt_ast.specs.declared.{fits.Fit.Fit, qualifiers.Direction.Direction}
use Rattle.flt_ast.specs.declared.value.{Dotted.Dotted, NetMask.NetMask, Value.Value}

-- whether an IPv4 address may follow this protocol, or none
abbrev pub has_ip4_addresses : Option Protocol → Bool
has_ip4_addresses None = true
has_ip4_addresses (Some Protocol.Ip) = true
has_ip4_addresses (Some Protocol.Arp) = true
has_ip4_addresses (Some Protocol.Rarp) = true
has_ip4_addresses _ = false

-- whether an IPv6 address may follow this protocol, or none
abbrev pub has_ip6_addresses : Option Protocol → Bool
has_ip6_addresses None = true
has_ip6_addresses (Some Protocol.Ip6) = true
has_ip6_addresses _ = false

-- whether a port may follow this protocol, or none
abbrev pub has_port_numbers : Option Protocol → Bool
has_port_numbers None = true
has_port_numbers (Some Protocol.Tcp) = true
has_port_numbers (Some Protocol.Udp) = true
has_port_numbers _ = false

-- whether an IP protocol number may follow this protocol, or none
abbrev pub has_protocol_numbers : Option Protocol → Bool
has_protocol_numbers None = true
has_protocol_numbers (Some Protocol.Ip) = true
has_protocol_numbers (Some Protocol.Ip6) = true
has_protocol_numbers _ = false

-- whether a MAC address may follow this protocol
abbrev pub has_mac_addresses : Option Protocol → Bool
has_mac_addresses (Some Protocol.Ether) = true
has_mac_addresses _ = false

-- whether all four parts of an IPv4 address are given
abbrev pub is_whole : Dotted → Bool
is_whole d = d.parts == 4

-- whether a network may have this mask: one of `mask D` needs four parts
abbrev pub is_net_mask : NetMask → Bool
is_net_mask (NetMask.Mask d) = is_whole d
is_net_mask _ = true

-- whether the length of an IPv4 prefix, if one is given, is in range
abbrev pub is_ip4_prefix_len : NetMask → Bool
is_ip4_prefix_len (NetMask.Prefix n) = nat_le n 32
is_ip4_prefix_len _ = true

-- whether the length of an IPv6 prefix, if one is given, is in range
abbrev pub is_ip6_prefix_len : Option ℕ → Bool
is_ip6_prefix_len None = true
is_ip6_prefix_len (Some n) = nat_le n 128

-- the fit of a value, by two conditions: it agrees with its type and protocol, and it is in range
abbrev pub fit_if : Bool → Bool → Fit
fit_if true true = Fit.InRange
fit_if true false = Fit.OutOfRange
fit_if false _ = Fit.Misfit

-- how a value fits its type and protocol: the table of docs/FILTER.md ("What fits")
abbrev pub fit_of : ValueType → Value → Option Protocol → Fit
fit_of Host (Value.Dotted d NetMask.Unwritten) p = fit_if (is_whole d && has_ip4_addresses p) true
fit_of Host (Value.Ip6 a None) p = fit_if (has_ip6_addresses p) true
fit_of Host (Value.Mac a) p = fit_if (has_mac_addresses p) true
fit_of Net (Value.Number n m) p =
    fit_if (is_net_mask m && has_ip4_addresses p) (nat_le n 255 && is_ip4_prefix_len m)
fit_of Net (Value.Dotted d m) p =
    fit_if (is_net_mask m && has_ip4_addresses p) (is_ip4_prefix_len m)
fit_of Net (Value.Ip6 a n) p = fit_if (has_ip6_addresses p) (is_ip6_prefix_len n)
fit_of Port (Value.Number n NetMask.Unwritten) p = fit_if (has_port_numbers p) (nat_le n 65535)
fit_of PortRange (Value.Range a b) p =
    fit_if (has_port_numbers p) (nat_le a 65535 && nat_le b 65535)
fit_of Proto (Value.Number n NetMask.Unwritten) (Some Protocol.Ether) =
    fit_if true (nat_le 1536 n && nat_le n 65535)
fit_of Proto (Value.Number n NetMask.Unwritten) p = fit_if (has_protocol_numbers p) (nat_le n 255)
fit_of _ _ _ = Fit.Misfit

-- the value doesn't agree with its type and protocol
abbrev pub is_misfit_fit : Fit → Bool
is_misfit_fit Fit.Misfit = true
is_misfit_fit _ = false

-- the value agrees with its type and protocol, but is out of range
abbrev pub is_out_of_range_fit : Fit → Bool
is_out_of_range_fit Fit.OutOfRange = true
is_out_of_range_fit _ = false

-- the type `net`
abbrev pub is_net : ValueType → Bool
is_net Net = true
is_net _ = false

-- the type `proto`
abbrev pub is_proto : ValueType → Bool
is_proto Proto = true
is_proto _ = false

-- the direction `src or dst`, which is filled in if none is given; a protocol number may have no
-- other
abbrev pub is_either : Direction → Bool
is_either (Direction.Both Or) = true
is_either _ = false

-- whether `broadcast` follows `ip` or `ip6`, which it may not
abbrev pub is_cast_misfit : Option Protocol → Cast → Bool
is_cast_misfit (Some Protocol.Ip) Cast.Broadcast = true
is_cast_misfit (Some Protocol.Ip6) Cast.Broadcast = true
is_cast_misfit _ _ = false

-- the sizes that an accessor may have, in bytes
abbrev pub is_size : ℕ → Bool
is_size n = n == 1 || (n == 2 || n == 4)

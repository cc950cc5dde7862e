-- The elementary tests, as a table for every link, and what they read of a packet.
use Rattle.std.specs.Prelude.{ℕ, ◌+◌, ◌%◌, ◌^◌, ◌==◌, not, nat_lt, nat_le, Bool, true, false, List, Option, Some, None, bit_and}
use Rattle.cap_octet.specs.Assigned.{ETHERTYPE_IPV4, ETHERTYPE_IPV6, ETHERTYPE_ARP, ETHERTYPE_RARP}
use Rattle.cap_octet.specs.Link.{network_offset, type_offset}
use Rattle.cap_octet.specs.declared.link.Link.{Link, TheVariants.Ether}
use Rattle.flt_bpf.specs.Machine.{field, header_length}
use Rattle.flt_bpf.specs.declared.operation.Width.{Width, TheVariants.HalfWord, TheVariants.Byte}
use Rattle.flt_words.specs.declared.token.Comparison.{Comparison}
use Rattle.flt_words.specs.declared.token.Comparison.TheVariants.{Equal, NotEqual, Less, AtMost, Greater, AtLeast}
use Rattle.flt_gen.specs.declared.elementary.Elementary.{Elementary, TheVariants.Outcome, TheVariants.Field}
use Rattle.flt_gen.specs.declared.elementary.{FieldTest.FieldTest, FrameKind.FrameKind}
use Rattle.flt_gen.specs.declared.elementary.FrameKind.TheVariants.{Ethernet, Ip, Ip6, Arp, Rarp}
use Rattle.flt_gen.specs.declared.elementary.Offset.{Offset, TheVariants.Fixed, TheVariants.AfterHeader, TheVariants.AtIndex}

-- the result of a match on a packet: a rejection is neither yes nor no
pub data MatchResult : Type 0 where
  Yes : MatchResult
  No : MatchResult
  Rejected : MatchResult

-- a truth, or if there is none, a rejection
abbrev pub reading_of : Option Bool → MatchResult
reading_of None = Rejected
reading_of (Some true) = Yes
reading_of (Some false) = No

-- goes on with a value, if there is one; else there is none
abbrev pub with : {A B : Type 0} → Option A → (A → Option B) → Option B
with None f = None
with (Some a) f = f a

-- whether one number compares so with another
abbrev pub compares : Comparison → ℕ → ℕ → Bool
compares Equal a b = a == b
compares NotEqual a b = not (a == b)
compares Less a b = nat_lt a b
compares AtMost a b = nat_le a b
compares Greater a b = nat_lt b a
compares AtLeast a b = nat_le b a

-- the length in bytes of the IPv4 header that begins at a place, or none if its first byte isn't
-- captured
abbrev pub header_at : List ℕ → ℕ → Option ℕ
header_at p at = with (field p at Byte) (λ byte. Some (header_length byte))

-- a field of a packet, or none if it isn't all captured, or the first byte of the header before
-- it isn't; a place that is a sum is taken modulo 2^32
abbrev pub field_at : Offset → Width → List ℕ → Option ℕ
field_at (Fixed k) width p = field p k width
field_at (AfterHeader header k) width p =
    with (header_at p header) (λ x. field p ((x + k) % 2 ^ 32) width)
field_at (AtIndex index k) width p = field p ((index + k) % 2 ^ 32) width

-- the bits of a number that a mask keeps, or all of them without one
abbrev pub under_mask : Option ℕ → ℕ → ℕ
under_mask None v = v
under_mask (Some mask) v = bit_and v mask

-- what a test of a field reads
abbrev pub field_reads : FieldTest → List ℕ → MatchResult
field_reads t p =
    reading_of (with (field_at t.offset t.width p)
    (λ v. Some (compares t.comparison (under_mask t.mask v) t.value)))

-- what an elementary test reads; what the link itself decides is the same for all packets
abbrev pub elementary_reads : Elementary → List ℕ → MatchResult
elementary_reads (Outcome b) p = reading_of (Some b)
elementary_reads (Field t) p = field_reads t p

-- the field at a place, or its bits under a mask, compares so with this number
abbrev pub compares_under : Option ℕ → Offset → Width → Comparison → ℕ → Elementary
compares_under mask offset width comparison value =
    Field (record {
      offset = offset;
      width = width;
      mask = mask;
      comparison = comparison;
      value = value;
    })

-- the field at a place compares so with this number
abbrev pub compares_at : Offset → Width → Comparison → ℕ → Elementary
compares_at offset width comparison value = compares_under None offset width comparison value

-- the field at a place is this number
abbrev pub is_at : ℕ → Width → ℕ → Elementary
is_at at width value = compares_at (Fixed at) width Equal value

-- the bits of the field at a place under a mask are this number
abbrev pub is_masked : ℕ → Width → ℕ → ℕ → Elementary
is_masked at width mask value = compares_under (Some mask) (Fixed at) width Equal value

-- the EtherType at a place in the link header is this number; raw IP has none
abbrev pub has_type_at : Option ℕ → ℕ → Elementary
has_type_at None n = Outcome false
has_type_at (Some at) n = is_at at HalfWord n

-- the EtherType in the link header is this number
abbrev pub has_type : Link → ℕ → Elementary
has_type link n = has_type_at (type_offset link) n

-- a frame is of a kind other than Ethernet: by the EtherType at a place, or, if there is none,
-- as raw IP, by the version in its first byte; so raw IP is never ARP or RARP
abbrev pub type_test : Option ℕ → FrameKind → Elementary
type_test type_offset Ethernet = Outcome false
type_test None Ip = is_masked 0 Byte 0xf0 0x40
type_test None Ip6 = is_masked 0 Byte 0xf0 0x60
type_test at Ip = has_type_at at ETHERTYPE_IPV4
type_test at Ip6 = has_type_at at ETHERTYPE_IPV6
type_test at Arp = has_type_at at ETHERTYPE_ARP
type_test at Rarp = has_type_at at ETHERTYPE_RARP

-- the link type is Ethernet
abbrev pub is_ethernet : Link → Bool
is_ethernet Ether = true
is_ethernet _ = false

-- a frame is of a kind
abbrev pub kind_test : Link → FrameKind → Elementary
kind_test link Ethernet = Outcome (is_ethernet link)
kind_test link kind = type_test (type_offset link) kind

-- an IPv4 packet is the first fragment, or whole
abbrev pub first_fragment : Link → Elementary
first_fragment link = is_masked (network_offset link + 6) HalfWord 0x1fff 0

-- the protocol that an IPv4 header names is this number
abbrev pub has_ip_proto : Link → ℕ → Elementary
has_ip_proto link n = is_at (network_offset link + 9) Byte n

-- the next header that an IPv6 header names is this number
abbrev pub has_ip6_proto : Link → ℕ → Elementary
has_ip6_proto link n = is_at (network_offset link + 6) Byte n

-- Laws of the table of primitives.
use Rattle.std.specs.Int.Digits.{number_from_digits}
use Rattle.std.specs.Prelude.{◌≡◌, ◌↔◌, ℕ, ◌-◌, ◌^◌, ◌<◌, Bool, true, false, List, All, map, Option, None, unwrap_or}
use Rattle.flt_ast.specs.Nets.{ip6_mask}
use Rattle.cap_octet.specs.{Link.link_type, Link.type_offset, NetworkHeader.network_header}
use Rattle.cap_octet.specs.declared.{link.Link.Link, network.NetworkKind.NetworkKind}
use Rattle.cap_octet.specs.declared.network.NetworkHeader.TheVariants.{Known, Short}
use Rattle.flt_gen.specs.Elementary.{Yes, Rejected, elementary_reads, kind_test}
use Rattle.flt_gen.specs.{Primitives.ip6_tests, declared.elementary.FrameKind.FrameKind}
use Rattle.flt_gen.specs.declared.elementary.Elementary.{Elementary, TheVariants.Outcome, TheVariants.Field}

-- the bits of a word that a test looks at
abbrev pub word_mask : Elementary → ℕ
word_mask (Outcome b) = 0
word_mask (Field t) = unwrap_or t.mask (2 ^ 32 - 1)

-- joined, the masks of the tests of an IPv6 address or network are its mask
abbrev pub MasksJoin : Type 0
MasksJoin =
    (prefix : Option ℕ) (address at : ℕ) → number_from_digits (2 ^ 32)
    (map word_mask (ip6_tests prefix address at)) ≡ ip6_mask prefix

-- ---- by IPv4, IPv6, ARP and RARP an expression means what the line of a packet does, which goes
-- by `network_header`

-- the frames of a kind of network header
abbrev pub frame_kind : NetworkKind → FrameKind
frame_kind NetworkKind.Ipv4 = FrameKind.Ip
frame_kind NetworkKind.Ipv6 = FrameKind.Ip6
frame_kind NetworkKind.Arp = FrameKind.Arp
frame_kind NetworkKind.Rarp = FrameKind.Rarp

-- packets of a link may have a network header of this kind, by whether the link's header has an
-- EtherType: raw IP, which has none, has neither ARP nor RARP
abbrev pub carries_kind : Option ℕ → NetworkKind → Bool
carries_kind None NetworkKind.Arp = false
carries_kind None NetworkKind.Rarp = false
carries_kind type_offset kind = true

-- packets of the link may have a network header of this kind
abbrev pub carries : Link → NetworkKind → Bool
carries link kind = carries_kind (type_offset link) kind

-- the test of a kind matches exactly the packets whose network header is of that kind
abbrev pub MatchesKind : Type 0
MatchesKind = (link : Link) (kind : NetworkKind) (p : List ℕ) → All (λ b. b < 2 ^ 8) p
    → (elementary_reads (kind_test link (frame_kind kind)) p ≡ Yes)
    ↔ (network_header (link_type link) p ≡ Known kind)

-- where packets of the link may have a network header of the kind, the test of the kind rejects
-- exactly the packets of which too little is captured; else it rejects none
abbrev pub RejectsShort : Type 0
RejectsShort = (link : Link) (kind : NetworkKind) (p : List ℕ) → All (λ b. b < 2 ^ 8) p
    → (elementary_reads (kind_test link (frame_kind kind)) p ≡ Rejected)
    ↔ ((network_header (link_type link) p ≡ Short) × (carries link kind ≡ true))

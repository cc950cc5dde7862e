-- The test of a kind of network header reads what the packet's network header is.
use Rattle.flt_gen.proofs.Common.{◌≡◌, get_or-drop, ℕ, ◌+◌, ◌*◌, ◌/◌, ◌%◌, ◌<◌, List, length, drop, Bool, true, nat_le, ◌==◌, Option, Some, None, refl, sym, ap}
use Rattle.flt_gen.proofs.Common.{subst, ◌∙◌, arith, if◌then◌else◌, ◌↔◌, ◌^◌, All, bit_and, slice_index, nat_tests, HalfWord, big_endian_at, Link, MatchResult}
use Rattle.flt_gen.proofs.Common.{Yes, No, Rejected, reading_of, with, elementary_reads, is_at, kind_test, type_test, link_of, link_type, type_offset}
use Rattle.flt_gen.proofs.Common.{frame_kind, carries_kind, carries}
use Rattle.std.proofs.lemmas.Grind.{and_high_numeral}
use Rattle.cap_octet.specs.{Assigned.ETHERTYPE_IPV4, Assigned.ETHERTYPE_IPV6, Assigned.ETHERTYPE_ARP, Assigned.ETHERTYPE_RARP, Number.u16_in, Number.number_in}
use Rattle.cap_octet.specs.Link.{all_links}
use Rattle.cap_octet.specs.{NetworkHeader.header_after, NetworkHeader.network_header, NetworkHeader.header_by_version, declared.number.Order.TheVariants.Big}
use Rattle.cap_octet.specs.declared.network.NetworkHeader.{NetworkHeader, TheVariants.Known, TheVariants.Short}
use Rattle.cap_octet.specs.declared.network.NetworkKind.{NetworkKind, TheVariants.Ipv4, TheVariants.Ipv6, TheVariants.Arp, TheVariants.Rarp}

-- what the test of a kind reads of a packet with this header
abbrev reads_kind : NetworkHeader → NetworkKind → Bool → MatchResult
reads_kind Short kind true = Rejected
reads_kind (Known Ipv4) Ipv4 carried = Yes
reads_kind (Known Ipv6) Ipv6 carried = Yes
reads_kind (Known Arp) Arp carried = Yes
reads_kind (Known Rarp) Rarp carried = Yes
reads_kind header kind carried = No

-- a test reads what a packet's header is
pub record Agrees (reading : MatchResult) (header : NetworkHeader) (kind : NetworkKind) (carried : Bool) : Type 0 where
  pub matches : (reading ≡ Yes) ↔ (header ≡ Known kind)
  pub rejects : (reading ≡ Rejected) ↔ ((header ≡ Short) × (carried ≡ true))

kind_agrees : (header : NetworkHeader) (kind : NetworkKind) (carried : Bool) → Agrees (reads_kind header kind carried) header kind carried
kind_agrees header kind carried = grind arith

-- the type of a header tells its kind
abbrev type_of : NetworkKind → ℕ
type_of Ipv4 = ETHERTYPE_IPV4
type_of Ipv6 = ETHERTYPE_IPV6
type_of Arp = ETHERTYPE_ARP
type_of Rarp = ETHERTYPE_RARP

-- raw IP tells it by the version, which the first four bits are
version_test : (v n m : ℕ) → m ≡ 16 * n → v < 2 ^ 8 → (bit_and v 0xf0 == m) ≡ (v / 16 == n)
version_test v n m times upper_bound =
    let parts : bit_and v 240 + v % 16 ≡ v = and_high_numeral v 239 refl upper_bound in let high : bit_and v 0xf0 ≡ 16 * (v / 16) = omega arith in
    grind (arith, nat_tests)

same_number : (p : List ℕ) (at : ℕ) → u16_in Big p at ≡ big_endian_at p at HalfWord
unfolding number_in
same_number p at =
    let first : slice_index (drop at p) 0 ≡ slice_index p at = get_or-drop at p 0 0 ∙ ap (slice_index p) (let e : at + 0 ≡ at = omega arith in e) in
    let second : slice_index (drop at p) 1 ≡ slice_index p (at + 1) = get_or-drop at p 1 0 in
    omega (arith, first, second)

type_reads : (at : ℕ) (kind : NetworkKind) (p : List ℕ) → elementary_reads (is_at at HalfWord (type_of kind)) p ≡ reads_kind
    (header_after (Some at) p) kind true
type_reads at kind p = grind (arith, nat_tests, same_number)

-- by the version n, which the mask leaves as m
version_reads : (kind : NetworkKind) (n m : ℕ) → m ≡ 16 * n → ((w : ℕ) → reading_of (Some (w == n)) ≡ reads_kind (header_by_version w) kind true)
    → (p : List ℕ) → All (λ b. b < 2 ^ 8) p
    → reading_of (with (if nat_le (0 + 1) (length p) then Some (slice_index p 0) else None) (λ (x : ℕ). Some (bit_and x 0xf0 == m))) ≡ reads_kind
    (header_after None p) kind true
version_reads kind n m times is p bytes = grind (arith, nat_tests, version_test)

by_place : (place : Option ℕ) (kind : NetworkKind) (p : List ℕ) → All (λ b. b < 2 ^ 8) p
    → elementary_reads (type_test place (frame_kind kind)) p ≡ reads_kind (header_after place p) kind (carries_kind place kind)
by_place (Some at) Ipv4 p bytes = type_reads at Ipv4 p
by_place (Some at) kind p bytes = type_reads at kind p
by_place None Ipv4 p bytes = version_reads Ipv4 4 0x40 refl (λ w. grind (arith, nat_tests)) p bytes
by_place None Ipv6 p bytes = version_reads Ipv6 6 0x60 refl (λ w. grind (arith, nat_tests)) p bytes
by_place None Arp p bytes = grind (arith, nat_tests)
by_place None Rarp p bytes = grind (arith, nat_tests)

-- a link type tells its link
its_link : (link : Link) → link_of (link_type link) ≡ Some link
unfolding all_links
its_link link = grind arith

pub agrees : (link : Link) (kind : NetworkKind) (p : List ℕ) → All (λ b. b < 2 ^ 8) p
    → Agrees (elementary_reads (kind_test link (frame_kind kind)) p) (network_header (link_type link) p) kind (carries link kind)
agrees link Ipv4 p bytes = rw (its_link link) (subst (λ r. Agrees r (header_after (type_offset link) p) Ipv4 (carries link Ipv4))
    (sym (by_place (type_offset link) Ipv4 p bytes)) (kind_agrees _ Ipv4 _))
agrees link kind p bytes = rw (its_link link) (subst (λ r. Agrees r (header_after (type_offset link) p) kind (carries link kind))
    (sym (by_place (type_offset link) kind p bytes)) (kind_agrees _ kind _))

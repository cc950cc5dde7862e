-- The value of arithmetic on a packet.
use Rattle.std.specs.Prelude.{ℕ, ◌+◌, ◌-◌, ◌*◌, ◌/◌, ◌%◌, ◌^◌, ◌==◌, nat_lt, if◌then◌else◌, List, [], ◌∷◌, Option, Some, None, bit_and, bit_or, bit_xor}
use Rattle.flt_words.specs.declared.token.Operator.TheVariants.{Or, And, ShiftLeft, ShiftRight, Add, Subtract, Multiply, Divide, Remainder, ExclusiveOr}
use Rattle.cap_octet.specs.{Assigned.IPPROTO_ICMP, Assigned.IPPROTO_TCP, Assigned.IPPROTO_UDP, declared.link.Link.Link}
use Rattle.cap_octet.specs.Link.{network_offset}
use Rattle.flt_bpf.specs.Machine.{field}
use Rattle.flt_bpf.specs.declared.operation.Width.{Width, TheVariants.Word, TheVariants.HalfWord, TheVariants.Byte}
use Rattle.flt_words.specs.declared.token.{Operator.Operator, Protocol.Protocol}
use Rattle.flt_words.specs.declared.token.Protocol.TheVariants.{Ether, Ip, Ip6, Arp, Rarp, Tcp, Udp, Icmp, Icmp6}
use Rattle.flt_ast.specs.Tree.{NumberTree, literal, len, named, load, negated, applied}
use Rattle.flt_gen.specs.Elementary.{with, header_at, kind_test, has_ip_proto, first_fragment}
use Rattle.flt_gen.specs.declared.elementary.{Elementary.Elementary, FrameKind.FrameKind}

-- the width of a field of 1, 2 or 4 bytes; any other size is taken for 4
abbrev pub width_of : ℕ → Width
width_of size = if size == 1 then Byte else if size == 2 then HalfWord else Word

-- the place of byte 0 of a protocol: for the frame, of the network header, or of what follows an
-- IPv4 header; none if the byte with the length of that header isn't captured
abbrev pub base : Link → Protocol → List ℕ → Option ℕ
base link Ether p = Some 0
base link Tcp p = with (header_at p (network_offset link)) (λ x. Some (x + network_offset link))
base link Udp p = with (header_at p (network_offset link)) (λ x. Some (x + network_offset link))
base link Icmp p = with (header_at p (network_offset link)) (λ x. Some (x + network_offset link))
base link _ p = Some (network_offset link)

-- two numbers with an operator between them, modulo 2^32; a shift by 32 or more gives 0, and none
-- is the result of a division or a remainder by 0
abbrev pub result_of : Operator → ℕ → ℕ → Option ℕ
result_of Add a b = Some ((a + b) % 2 ^ 32)
result_of Subtract a b = Some ((a + 2 ^ 32 - b) % 2 ^ 32)
result_of Multiply a b = Some ((a * b) % 2 ^ 32)
result_of Divide a b = if b == 0 then None else Some (a / b)
result_of Remainder a b = if b == 0 then None else Some (a % b)
result_of ExclusiveOr a b = Some (bit_xor a b)
result_of Or a b = Some (bit_or a b)
result_of And a b = Some (bit_and a b)
result_of ShiftLeft a b = Some (if nat_lt b 32 then (a * 2 ^ b) % 2 ^ 32 else 0)
result_of ShiftRight a b = Some (if nat_lt b 32 then a / 2 ^ b else 0)

-- the value of arithmetic on a packet of original length n, or none if it is rejected
abbrev pub number : Link → NumberTree → List ℕ → ℕ → Option ℕ
number link (literal k) p n = Some k
number link (named k) p n = Some k
number link len p n = Some n
number link (load protocol size i) p n =
    with (number link i p n) (λ v. with (base link protocol p)
    (λ at. field p ((at + v) % 2 ^ 32) (width_of size)))
number link (negated a) p n = with (number link a p n) (λ v. Some ((2 ^ 32 - v) % 2 ^ 32))
number link (applied operator l r) p n =
    with (number link l p n) (λ x. with (number link r p n) (λ y. result_of operator x y))

-- what must hold of a packet before a protocol's bytes are read
abbrev pub accessor_tests : Link → Protocol → List Elementary
accessor_tests link Ether = kind_test link FrameKind.Ethernet ∷ []
accessor_tests link Ip = kind_test link FrameKind.Ip ∷ []
accessor_tests link Ip6 = kind_test link FrameKind.Ip6 ∷ []
accessor_tests link Arp = kind_test link FrameKind.Arp ∷ []
accessor_tests link Rarp = kind_test link FrameKind.Rarp ∷ []
accessor_tests link Tcp =
    kind_test link FrameKind.Ip ∷ has_ip_proto link IPPROTO_TCP ∷ first_fragment link ∷ []
accessor_tests link Udp =
    kind_test link FrameKind.Ip ∷ has_ip_proto link IPPROTO_UDP ∷ first_fragment link ∷ []
accessor_tests link Icmp =
    kind_test link FrameKind.Ip ∷ has_ip_proto link IPPROTO_ICMP ∷ first_fragment link ∷ []
accessor_tests link Icmp6 = kind_test link FrameKind.Ip6 ∷ []

-- the protocols of the accessors of arithmetic, in the order of their words, and then the rest
abbrev pub accessors : NumberTree → List Protocol → List Protocol
accessors (load protocol size i) rest = protocol ∷ accessors i rest
accessors (negated a) rest = accessors a rest
accessors (applied operator l r) rest = accessors l (accessors r rest)
accessors _ rest = rest

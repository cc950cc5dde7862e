-- Formulas of which code is emitted, if they aren't those of the table: they read the same.
use Rattle.std.specs.Prelude.{ℕ, ◌+◌, ◌==◌, ◌&&◌, Bool, true, false, if◌then◌else◌, List, [], ◌∷◌, Option, Some, None}
use Rattle.flt_words.specs.declared.token.{Comparison.Comparison, Comparison.TheVariants.AtLeast, Protocol.Protocol}
use Rattle.flt_words.specs.declared.token.Protocol.TheVariants.{Ether, Ip, Ip6, Arp, Rarp, Tcp, Udp, Icmp, Icmp6}
use Rattle.flt_words.specs.declared.token.ValueType.{ValueType, TheVariants.Net}
use Rattle.flt_ast.specs.{Tree.NumberTree, Tree.load, Tree.negated, Tree.applied, declared.value.Value.Value}
use Rattle.flt_ast.specs.declared.qualifiers.{CompleteQualifiers.CompleteQualifiers, Direction.Direction}
use Rattle.cap_octet.specs.{Link.network_offset, declared.link.Link.Link}
use Rattle.flt_gen.specs.{Elementary.kind_test, inside.Search.Numbers, inside.Search.sought_formula}
use Rattle.flt_gen.specs.Formula.{Formula, Compare, checked_formula, sides}
use Rattle.flt_gen.specs.Primitives.{after, ip6_tests, value_formula, in_net, is_port, in_range}
use Rattle.flt_gen.specs.declared.elementary.Elementary.{Elementary, TheVariants.Outcome, TheVariants.Field}
use Rattle.flt_gen.specs.declared.{elementary.FrameKind.FrameKind, elementary.Sides.Sides, wanted.Wanted.Wanted}

-- ---- the tests of a protocol's accessors stand once in front of a comparison

-- two protocols are the same
abbrev pub equals : Protocol → Protocol → Bool
equals Ether Ether = true
equals Ip Ip = true
equals Ip6 Ip6 = true
equals Arp Arp = true
equals Rarp Rarp = true
equals Tcp Tcp = true
equals Udp Udp = true
equals Icmp Icmp = true
equals Icmp6 Icmp6 = true
equals _ _ = false

-- a list without this protocol
abbrev pub without_protocol : Protocol → List Protocol → List Protocol
without_protocol p [] = []
without_protocol p (q ∷ qs) =
    if equals p q then without_protocol p qs else q ∷ without_protocol p qs

-- a protocol in front of others: those after it that are the same are left out, since what they
-- test is known
abbrev pub with_accessor : Protocol → List Protocol → List Protocol
with_accessor p ps = p ∷ without_protocol p ps

-- the protocols of the accessors of arithmetic, in the order of their first words, and then the
-- rest
abbrev pub protocols_of : NumberTree → List Protocol → List Protocol
protocols_of (load protocol size i) rest = with_accessor protocol (protocols_of i rest)
protocols_of (negated a) rest = protocols_of a rest
protocols_of (applied operator l r) rest = protocols_of l (protocols_of r rest)
protocols_of _ rest = rest

-- a comparison of two numbers, after the tests of its accessors' protocols
abbrev pub relation_formula : Link → Comparison → NumberTree → NumberTree → Formula
relation_formula link c l r =
    checked_formula link (protocols_of l (protocols_of r [])) (Compare c l r)

-- ---- a word of an IPv6 address of which no bit counts is loaded only if that decides

-- a mask of no bit
abbrev pub is_empty : Option ℕ → Bool
is_empty None = false
is_empty (Some mask) = mask == 0

-- a test of a word of which no bit counts, with the number 0; if it is one for equality, as those
-- of addresses are, it is yes wherever the word is captured
abbrev pub is_idle : Elementary → Bool
is_idle (Outcome b) = false
is_idle (Field t) = is_empty t.mask && t.value == 0

-- the test of the same word that is yes wherever the word is captured, and else rejects; what the
-- link itself decides is unchanged
abbrev pub capture_test : Elementary → Elementary
capture_test (Outcome b) = Outcome b
capture_test (Field t) = Field (record t { mask = None; comparison = AtLeast; value = 0 })

-- the last test of some words: an idle one only asks whether its word is captured
abbrev pub last_test : Elementary → Elementary
last_test t = if is_idle t then capture_test t else t

-- the tests of words that decide, of those that come one after the other. If a word isn't
-- captured, no later one is: so an idle test in front of another one is left out
abbrev pub needed_tests : List Elementary → List Elementary
needed_tests [] = []
needed_tests (t ∷ []) = last_test t ∷ []
needed_tests (t ∷ u ∷ ts) = if is_idle t then needed_tests (u ∷ ts) else t ∷ needed_tests (u ∷ ts)

-- the tests that decide of the words of both sides, as a direction asks for them
abbrev pub needed_sides : Direction → List Elementary → List Elementary → Formula
needed_sides direction source destination =
    sides direction (needed_tests source) (needed_tests destination)

-- `host` and `net` of IPv6, without the tests that decide nothing
abbrev pub ip6_needed : Link → Direction → Option ℕ → ℕ → Formula
ip6_needed link direction prefix address =
    after (kind_test link FrameKind.Ip6)
    (needed_sides direction (ip6_tests prefix address (network_offset link + 8))
    (ip6_tests prefix address (network_offset link + 24)))

-- a value with these qualifiers, without the tests that decide nothing
abbrev pub value_needed : Link → ValueType → Option Protocol → Direction → Value → Formula
value_needed link Net protocol direction (Value.Ip6 address prefix) =
    ip6_needed link direction prefix address
value_needed link value_type protocol direction v =
    value_formula link value_type protocol direction v

-- a value with all its qualifiers, without the tests that decide nothing
abbrev pub qualified_needed : Link → CompleteQualifiers → Value → Formula
qualified_needed link q v = value_needed link q.value_type q.protocol q.direction v

-- ---- one value, or several numbers

-- what is looked for at the places of addresses or ports
abbrev pub wanted_formula : Link → Wanted → Numbers → Sides → Formula
wanted_formula link (Wanted.Net direction mask address) numbers = in_net direction mask address
wanted_formula link (Wanted.Port direction n) numbers = is_port direction n
wanted_formula link (Wanted.Ports direction a b) numbers = in_range direction a b
wanted_formula link (Wanted.Several direction few) numbers =
    λ at. sought_formula few link direction at numbers

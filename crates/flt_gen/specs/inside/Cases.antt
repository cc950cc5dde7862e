-- Lists of MAC addresses, of addresses and networks of IPv6, of protocol numbers, and of relations of
-- one accessor, as decision trees: the first words are compared by halves, and then the next ones.
use Rattle.std.specs.Prelude.{ℕ, zero, suc, ◌+◌, ◌-◌, ◌/◌, ◌^◌, ◌==◌, ◌&&◌, nat_lt, nat_le, min, Bool, true, false, if◌then◌else◌, List, [], ◌∷◌, length, take, drop, slice_get, count_by, is_none, Option, Some, None}
use Rattle.std.specs.List.{list_all, insert}
use Rattle.flt_words.specs.declared.token.{Comparison.TheVariants.AtLeast, Join.TheVariants.And, Join.TheVariants.Or}
use Rattle.flt_words.specs.declared.token.Protocol.{Protocol}
use Rattle.flt_words.specs.declared.token.ValueType.{ValueType, TheVariants.Host, TheVariants.Net, TheVariants.Proto}
use Rattle.flt_words.specs.declared.token.Side.{Side, TheVariants.Source, TheVariants.Destination}
use Rattle.flt_ast.specs.declared.{qualifiers.Direction.Direction, value.Value.Value}
use Rattle.cap_octet.specs.{Link.network_offset, declared.link.Link.Link}
use Rattle.flt_gen.specs.Elementary.{with, kind_test, has_ip_proto, has_ip6_proto}
use Rattle.flt_gen.specs.Formula.{Formula, Single, Both, Either, Split, all_of, guarded_formula}
use Rattle.flt_gen.specs.{Numbers.accessor_tests, declared.cases.Case.Case, declared.elementary.FrameKind.FrameKind}
use Rattle.flt_gen.specs.Primitives.{mac_tests, ip6_tests}
use Rattle.flt_gen.specs.inside.{Emitted.equals, Emitted.needed_tests, Relations.relation_test}
use Rattle.flt_gen.specs.declared.cases.Bound.{Bound, TheVariants.Below, TheVariants.From, TheVariants.Exactly}
use Rattle.flt_gen.specs.declared.cases.Case.TheVariants.{Mac, Ip6, IpProto, Ip6Proto}
use Rattle.flt_gen.specs.declared.elementary.Elementary.{Elementary, TheVariants.Outcome, TheVariants.Field}

-- a value as a case, or none: an address of one side or of either, a network of one side, or a
-- protocol of IPv4 or of IPv6
abbrev pub case_of : ValueType → Option Protocol → Direction → Value → Option Case
case_of Host p (Direction.Both And) v = None
case_of Host p d (Value.Mac a) = Some (Mac a)
case_of Host p d (Value.Ip6 a n) = Some (Ip6 None a)
case_of Net p (Direction.One s) (Value.Ip6 a n) = Some (Ip6 n a)
case_of Proto (Some Protocol.Ip) d (Value.Number n m) = Some (IpProto n)
case_of Proto (Some Protocol.Ip6) d (Value.Number n m) = Some (Ip6Proto n)
case_of _ _ _ _ = None

-- the words that two addresses have to share are the same: on one side there are none
abbrev pub shares : Direction → Bool → Bool
shares (Direction.Both Or) same = same
shares _ same = true

-- both are compared in the same words, of which on either side all but the last are the same
abbrev pub same_words : Direction → Case → Case → Bool
same_words d (Mac a) (Mac b) = shares d (a / 2 ^ 16 == b / 2 ^ 16)
same_words d (Ip6 m a) (Ip6 n b) = shares d ((is_none m && is_none n) && a / 2 ^ 32 == b / 2 ^ 32)
same_words d (IpProto a) (IpProto b) = true
same_words d (Ip6Proto a) (Ip6Proto b) = true
same_words d (Case.Relation a) (Case.Relation b) =
    equals a.protocol b.protocol && (a.size == b.size && a.index == b.index)
same_words _ _ _ = false

-- the number by which cases ascend
abbrev pub key_of : Case → ℕ
key_of (Mac a) = a
key_of (Ip6 n a) = a
key_of (IpProto n) = n
key_of (Ip6Proto n) = n
key_of (Case.Relation r) = r.number

-- a case is put among others that ascend
abbrev pub insert_case : Case → List Case → List Case
insert_case c cs = insert cs (count_by (λ d. nat_lt (key_of d) (key_of c)) cs) c

-- the tests in front of a case: the frames in which it may be, or what an accessor needs
abbrev pub case_front : Link → Case → List Elementary
case_front link (Mac a) = kind_test link FrameKind.Ethernet ∷ []
case_front link (Ip6 n a) = kind_test link FrameKind.Ip6 ∷ []
case_front link (IpProto n) = kind_test link FrameKind.Ip ∷ []
case_front link (Ip6Proto n) = kind_test link FrameKind.Ip6 ∷ []
case_front link (Case.Relation r) = accessor_tests link r.protocol

-- the place of a side's address in an Ethernet frame
abbrev pub mac_place : Direction → ℕ
mac_place (Direction.One Source) = 6
mac_place _ = 0

-- the place of a side's address in an IPv6 header
abbrev pub ip6_place : Direction → ℕ
ip6_place (Direction.One Source) = 8
ip6_place _ = 24

-- the tests of a case's words
abbrev pub case_tests : Link → Direction → Case → List Elementary
case_tests link d (Mac a) = mac_tests (mac_place d) a
case_tests link d (Ip6 n a) = ip6_tests n a (network_offset link + ip6_place d)
case_tests link d (IpProto n) = has_ip_proto link n ∷ []
case_tests link d (Ip6Proto n) = has_ip6_proto link n ∷ []
case_tests link d (Case.Relation r) = relation_test link r ∷ []

-- ---- cases by the tests of their words, from a word on

-- the test of a word
abbrev pub word_test : (Case → List Elementary) → ℕ → Case → Option Elementary
word_test tests word c = slice_get (tests c) word

-- the lowest number that a word may be for a test of it
abbrev pub lowest : Option Elementary → ℕ
lowest (Some (Field t)) = t.value
lowest _ = 0

-- how far past its value a test's numbers may reach: the bits that don't count
abbrev pub reach : Option ℕ → ℕ
reach None = 0
reach (Some mask) = 2 ^ 32 - 1 - mask

-- no mask
abbrev pub is_whole : Option ℕ → Bool
is_whole None = true
is_whole (Some mask) = false

-- all numbers for which a test is yes keep a bound
abbrev pub keeps : Bound → Option Elementary → Bool
keeps (Below n) (Some (Field t)) = nat_lt (t.value + reach t.mask) n
keeps (From n) (Some (Field t)) = nat_le n t.value
keeps (Exactly n) (Some (Field t)) = is_whole t.mask && t.value == n
keeps _ _ = false

-- so do those of some cases
abbrev pub all_keep : (Case → List Elementary) → ℕ → Bound → List Case → Bool
all_keep tests word b cs = list_all (λ c. keeps b (word_test tests word c)) cs

-- the test of a word of the case at a place, if there is one
abbrev pub test_at : (Case → List Elementary) → ℕ → List Case → ℕ → Option Elementary
test_at tests word cs at = with (slice_get cs at) (word_test tests word)

-- one case after the other, without the tests that decide nothing
abbrev pub chain : (Case → List Elementary) → ℕ → List Case → Formula
chain tests word [] = Single (Outcome false)
chain tests word (c ∷ []) = all_of (needed_tests (drop word (tests c)))
chain tests word (c ∷ d ∷ cs) =
    Either (all_of (needed_tests (drop word (tests c)))) (chain tests word (d ∷ cs))

-- a word is a number at least
abbrev pub from_test : Option Elementary → ℕ → Elementary
from_test (Some (Field t)) n = Field (record t { mask = None; comparison = AtLeast; value = n })
from_test _ n = Outcome false

-- the place of the case with which the upper half begins: the first whose word isn't lower than that
-- of the middle one, or if that is the first of all, the first whose word is higher
abbrev pub middle : (Case → List Elementary) → ℕ → List Case → ℕ
middle tests word cs =
    let n = lowest (test_at tests word cs (length cs / 2)) in
    let at = count_by (λ c. nat_lt (lowest (word_test tests word c)) n) cs in
    if at == 0 then count_by (λ c. nat_lt (lowest (word_test tests word c)) (n + 1)) cs else at

-- cases from a place on are parted from those before by their words
abbrev pub is_parted : (Case → List Elementary) → ℕ → List Case → ℕ → Bool
is_parted tests word cs at =
    let n = lowest (test_at tests word cs at) in
    nat_lt 0 at && (nat_lt at (length cs)
    && (all_keep tests word (Below n) (take at cs) && all_keep tests word (From n) (drop at cs)))

-- how many of n cases with the words of one are compared one after the other, at most: fewer of
-- several words than of one, and fewest MAC addresses of a long list
abbrev pub few_of : Case → ℕ → ℕ
few_of (Mac a) n = if nat_le 40 n then 4 else min (n - n / 2) 13
few_of (Ip6 m a) n = min (n - n / 2) 13
few_of c n = min (n - n / 2) 40

-- all cases have a test, if there is one, and then what follows it, if they have another test
abbrev pub same_word : Option Elementary → Option Elementary → Formula → Formula
same_word None u following = Single (Outcome false)
same_word (Some t) u following = if is_none u then Single t else Both (Single t) following

-- cases by halves until few are left, or by the word that all have; `next` decides the parts
abbrev pub decided :
    ℕ → (ℕ → List Case → Formula) → (Case → List Elementary) → ℕ → List Case → Formula
decided few next tests word cs =
    let t = test_at tests word cs 0 in
    let at = middle tests word cs in
    if nat_le (length cs) few then chain tests word cs else
    (if all_keep tests word (Exactly (lowest t)) cs
    then same_word t (test_at tests (word + 1) cs 0) (next (word + 1) cs) else
    (if is_parted tests word cs at
    then Split (from_test t (lowest (test_at tests word cs at))) (next word (drop at cs))
    (next word (take at cs))
    else chain tests word cs))

-- cases by halves until few are left, of one word after the other: halved this often at most
unfoldable pub decision : ℕ → ℕ → (Case → List Elementary) → ℕ → List Case → Formula
decision few zero tests word cs = chain tests word cs
decision few (suc k) tests word cs = decided few (decision few k tests) tests word cs

-- how often cases are halved, or all have the same word, at most
abbrev pub MOST_DECISIONS : ℕ
MOST_DECISIONS = 64

-- either side
abbrev pub is_either : Direction → Bool
is_either (Direction.Both Or) = true
is_either _ = false

-- an address, which is on a side
abbrev pub is_address : Case → Bool
is_address (Mac a) = true
is_address (Ip6 m a) = true
is_address _ = false

-- cases with this direction, as this one, are looked for on either side
abbrev pub are_either : Direction → Case → Bool
are_either d c = is_address c && is_either d

-- the tests of a case on a side, without those that decide nothing
abbrev pub on_side : Link → Side → Case → Formula
on_side link s c = all_of (needed_tests (case_tests link (Direction.One s) c))

-- cases on a side
abbrev pub all_on_side : Link → ℕ → Side → List Case → Formula
all_on_side link few s cs = decision few MOST_DECISIONS (case_tests link (Direction.One s)) 0 cs

-- cases on either side, of which one stands first in the expression: if the source is one of them,
-- but not that one, as much of the destination as a test of that one reads has to be captured
abbrev pub either_formula : Link → ℕ → Case → List Case → Formula
either_formula link few c cs =
    Either (Both (all_on_side link few Source cs)
    (Either (on_side link Source c) (Either (on_side link Destination c) (Single (Outcome true)))))
    (all_on_side link few Destination cs)

-- cases with the words of one, which stands first in the expression, on either side or not
abbrev pub list_formula : Bool → Link → Direction → Case → List Case → Formula
list_formula either link d c cs =
    if either then either_formula link (few_of c (length cs)) c cs
    else decision (few_of c (length cs)) MOST_DECISIONS (case_tests link d) 0 cs

-- the same after the tests in front of them
abbrev pub cases_formula : Link → Direction → Case → List Case → Formula
cases_formula link d c cs =
    guarded_formula (case_front link c) (list_formula (are_either d c) link d c cs)

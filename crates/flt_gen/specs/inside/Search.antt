-- Formulas that look for several numbers in a field, or in one of two: trees of tests.
use Rattle.std.specs.Prelude.{ℕ, zero, suc, ◌+◌, ◌-◌, ◌/◌, ◌==◌, ◌&&◌, ◌||◌, not, nat_le, Bool, true, false, if◌then◌else◌, List, [], ◌∷◌, length, take, drop, Option, Some, None, is_none}
use Rattle.flt_bpf.specs.declared.operation.Width.{Width, TheVariants.Word}
use Rattle.flt_words.specs.declared.token.Comparison.{Comparison}
use Rattle.flt_words.specs.declared.token.Comparison.TheVariants.{Equal, Less, AtMost, AtLeast}
use Rattle.flt_words.specs.declared.token.Join.TheVariants.{And, Or}
use Rattle.flt_words.specs.declared.token.{Protocol.Protocol, Side.TheVariants.Source, Side.TheVariants.Destination}
use Rattle.flt_ast.specs.declared.qualifiers.Direction.{Direction}
use Rattle.cap_octet.specs.{Link.network_offset, Link.type_offset, declared.link.Link.Link}
use Rattle.flt_gen.specs.Elementary.{compares_at, compares_under}
use Rattle.flt_gen.specs.Formula.{Formula, Single, Both, Either, Split}
use Rattle.flt_gen.specs.inside.Code.{left_by}
use Rattle.flt_gen.specs.declared.elementary.Elementary.{Elementary, TheVariants.Outcome}
use Rattle.flt_gen.specs.declared.elementary.{FieldPlace.FieldPlace, Interval.Interval, Offset.Offset}
use Rattle.flt_gen.specs.declared.elementary.{Offset.TheVariants.Fixed, Offset.TheVariants.AtIndex, Sides.Sides}

-- numbers that are looked for under a mask, if there is one: those of the member that comes first
-- in the expression, all, and all that aren't the first's
pub record Numbers : Type 0 where
  pub mask : Option ℕ
  pub first : Interval
  pub all : List Interval
  pub others : List Interval

-- a field compares so with a number
abbrev pub field_test : FieldPlace → Comparison → ℕ → Elementary
field_test f comparison value = compares_under f.mask f.offset f.width comparison value

-- A holds a field, as after each test of it, or none
abbrev pub held_if : Bool → FieldPlace → Option FieldPlace
held_if true f = left_by (field_test f Equal 0)
held_if false f = None

-- no packet matches
abbrev pub never : Formula
never = Single (Outcome false)

-- each packet matches
abbrev pub always : Formula
always = Single (Outcome true)

-- a field is in an interval, or else another formula holds, which needs a higher number. It may be
-- known that the field isn't lower than the interval
abbrev pub in_or : FieldPlace → Bool → Interval → Formula → Formula
in_or f is_above i next =
    if i.low == i.high then Split (field_test f Equal i.low) always next else
    (if is_above then Split (field_test f AtMost i.high) always next else
    Split (field_test f AtLeast i.low) (Split (field_test f AtMost i.high) always next) never)

-- a field is in one of some intervals, which ascend: by one after the other
abbrev pub chain_of : FieldPlace → Bool → List Interval → Formula
chain_of f is_above [] = never
chain_of f is_above (i ∷ is) = in_or f is_above i (chain_of f false is)

-- one interval at most, or two numbers, which aren't halved: that would be one more test
abbrev pub are_short : List Interval → Bool
are_short [] = true
are_short (i ∷ []) = true
are_short (i ∷ j ∷ []) = i.low == i.high && j.low == j.high
are_short _ = false

-- so few that they aren't halved
abbrev pub are_few : ℕ → List Interval → Bool
are_few few is = nat_le (length is) few || are_short is

-- the place where the first interval begins
abbrev pub low_of : List Interval → ℕ
low_of [] = 0
low_of (i ∷ is) = i.low

-- two halves, of which the upper one begins with this number
abbrev pub halves : FieldPlace → ℕ → Formula → Formula → Formula
halves f pivot lower upper = Split (field_test f Less pivot) lower upper

-- a field is in one of some intervals, which ascend: halved down to few, this often at most, and
-- then one after the other. It may be known that the field isn't lower than the first
unfoldable pub search : ℕ → FieldPlace → ℕ → Bool → List Interval → Formula
search few f zero is_above is = chain_of f is_above is
search few f (suc k) is_above is =
    if are_few few is then chain_of f is_above is else
    (let half = length is / 2 in
    halves f (low_of (drop half is)) (search few f k is_above (take half is))
    (search few f k true (drop half is)))

-- how often intervals are halved at most
abbrev pub MOST_HALVINGS : ℕ
MOST_HALVINGS = 16

-- the field at a place, under a mask if there is one, is in one of some intervals
abbrev pub within_formula : ℕ → Option ℕ → List Interval → Offset → Width → Formula
within_formula few mask is offset width =
    search few (record { offset = offset; width = width; mask = mask }) MOST_HALVINGS false is

-- either side, of few numbers: the source is one of the first member's, or the destination one of
-- all, or the source one of the others
abbrev pub few_formula : ℕ → Sides → Numbers → Formula
few_formula few at numbers =
    Either (within_formula few numbers.mask (numbers.first ∷ []) at.source at.width)
    (Either (within_formula few numbers.mask numbers.all at.destination at.width)
    (within_formula few numbers.mask numbers.others at.source at.width))

-- either side, of many numbers: if the source is one, but not of the first member, the destination
-- has to be captured: a test of the first one reads it, if they are tested one after the other
abbrev pub many_formula : Sides → Numbers → Formula
many_formula at numbers =
    Either (Both (within_formula 0 numbers.mask numbers.all at.source at.width)
    (Either (within_formula 0 numbers.mask (numbers.first ∷ []) at.source at.width)
    (Single (compares_at at.destination at.width AtLeast 0))))
    (within_formula 0 numbers.mask numbers.all at.destination at.width)

-- the fewest intervals that are looked for at X on either side: networks or ranges, or else single
-- addresses, which are words, or single ports
abbrev pub fewest_at_index : Width → Bool → ℕ
fewest_at_index width false = 5
fewest_at_index Word true = 24
fewest_at_index _ true = 8

-- headers of only one kind have such fields: the addresses of raw IP, which has no ARP
abbrev pub are_alone : Link → Width → Bool
are_alone link Word = is_none (type_offset link)
are_alone link _ = false

-- numbers are looked for at X: never if headers of only one kind have them, or if few aren't halved
abbrev pub are_at_index : ℕ → Link → Sides → Numbers → Bool
are_at_index few link at numbers =
    few == 0 && (not (are_alone link at.width)
    && nat_le (fewest_at_index at.width (numbers.first.low == numbers.first.high)) (length numbers.all))

-- a place that is read at X, which holds the number that both sides are counted from
abbrev pub at_index : ℕ → Offset → Offset
at_index index (Fixed k) = AtIndex index (k - index)
at_index index offset = offset

-- how far after the network header begins the destination is in a header of IPv4, or right after it
abbrev pub least_past : Width → ℕ
least_past Word = 16
least_past _ = 2

-- a number in X with which a destination is at the same place after X in headers of each kind
abbrev pub index_past : Offset → ℕ → ℕ
index_past (Fixed k) least = k - least
index_past _ least = 0

-- the number that both sides are counted from at X
abbrev pub index_of : Link → Sides → ℕ
index_of link at = index_past at.destination (network_offset link + least_past at.width)

-- both sides at X
abbrev pub sides_at_index : Link → Sides → Sides
sides_at_index link at = record at {
  source = at_index (index_of link at) at.source;
  destination = at_index (index_of link at) at.destination;
}

-- how many addresses of ARP or RARP aren't halved
abbrev pub MOST_RARE : ℕ
MOST_RARE = 50

-- a protocol that few packets have
abbrev pub is_rare : Option Protocol → Bool
is_rare (Some Protocol.Arp) = true
is_rare (Some Protocol.Rarp) = true
is_rare _ = false

-- how many members as the first one aren't halved after a protocol, or none: single addresses, if
-- it is rare
abbrev pub most_in_turn : Option Protocol → Interval → ℕ
most_in_turn protocol first = if is_rare protocol && first.low == first.high then MOST_RARE else 0

-- the sides that a direction asks for are some numbers, of which so few aren't halved; many on either side are read at X, so that
-- the same code may serve for headers of each kind. `src and dst` is never asked for like this
abbrev pub sought_formula : ℕ → Link → Direction → Sides → Numbers → Formula
sought_formula few link (Direction.One Source) at numbers =
    within_formula few numbers.mask numbers.all at.source at.width
sought_formula few link (Direction.One Destination) at numbers =
    within_formula few numbers.mask numbers.all at.destination at.width
sought_formula few link (Direction.Both Or) at numbers =
    if are_at_index few link at numbers then many_formula (sides_at_index link at) numbers
    else few_formula few at numbers
sought_formula few link (Direction.Both And) at numbers = never

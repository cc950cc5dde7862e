-- Addresses, ports, protocols or relations that are looked for together, since they stand one after
-- the other with `or` between them.
use Rattle.std.specs.Prelude.{ℕ, ◌+◌, ◌-◌, ◌^◌, ◌==◌, nat_lt, nat_le, min, max, bit_and, not, Bool, true, false, ◌&&◌, if◌then◌else◌, List, [], ◌∷◌, length, is_none, Option, Some, None}
use Rattle.flt_words.specs.declared.token.{Join.TheVariants.And, Join.TheVariants.Or, Protocol.Protocol}
use Rattle.flt_words.specs.declared.token.{Side.TheVariants.Source, Side.TheVariants.Destination, ValueType.ValueType}
use Rattle.flt_words.specs.declared.token.ValueType.TheVariants.{Host, Net, Port, PortRange}
use Rattle.flt_ast.specs.{Nets.ip4_net, Tree.TruthTree, Tree.qualified, Tree.compared, Tree.denied, Tree.joined}
use Rattle.std.specs.{Prelude.count_ones, Option.option_map_or}
use Rattle.flt_ast.specs.declared.qualifiers.{CompleteQualifiers.CompleteQualifiers, Direction.Direction}
use Rattle.flt_ast.specs.declared.value.{Ip4Net.Ip4Net, Value.Value}
use Rattle.cap_octet.specs.declared.link.Link.{Link}
use Rattle.flt_gen.specs.{Elementary.with, Numbers.accessor_tests, declared.cases.Case.Case, declared.group.Entry.Entry}
use Rattle.flt_gen.specs.Formula.{Formula, Single, Both, Either, Except, guarded_formula}
use Rattle.flt_gen.specs.inside.{Search.Numbers, Search.sought_formula, Search.most_in_turn, Relations.relation_of, Relations.relation_test}
use Rattle.flt_gen.specs.{Primitives.hosts_formula, Primitives.port_formula, Reading.formula}
use Rattle.flt_gen.specs.declared.elementary.{Elementary.TheVariants.Outcome, Interval.Interval}
use Rattle.flt_gen.specs.inside.Cases.{case_of, same_words, insert_case, are_either, cases_formula}
use Rattle.flt_gen.specs.inside.Emitted.{equals, relation_formula, qualified_needed}
use Rattle.flt_gen.specs.inside.Intervals.{no_interval, insert_ascending, sought}

-- the qualifiers of the member that stands first, whether each member is one number, the numbers of
-- the first and of all, which ascend, or the first and all members as cases, and the members, in the
-- order of the expression
pub record Group : Type 0 where
  pub qualifiers : CompleteQualifiers
  pub is_plain : Bool
  pub first : Interval
  pub all : List Interval
  pub case : Option Case
  pub cases : List Case
  pub entries : List Entry

-- a group without members; its qualifiers, which relations have too, decide nothing
abbrev pub no_group : Group
no_group = record {
  qualifiers = record { protocol = None; direction = Direction.Both Or; value_type = Host };
  is_plain = true;
  first = no_interval;
  all = [];
  case = None;
  cases = [];
  entries = [];
}

-- the numbers from the first to the last
abbrev pub interval : ℕ → ℕ → Interval
interval low high = record { low = low; high = high }

-- no members
abbrev pub is_empty : List Entry → Bool
is_empty [] = true
is_empty (e ∷ es) = false

-- a group with one more member in front, which has these qualifiers and looks for these numbers
abbrev pub with_member : CompleteQualifiers → Value → Interval → Group → Group
with_member q v i group = record group {
  qualifiers = q;
  is_plain = i.low == i.high && group.is_plain;
  first = i;
  all = insert_ascending i group.all;
  entries = Entry.Value q v ∷ group.entries;
}

-- a group with one more member in front, which is compared word by word
abbrev pub with_case : CompleteQualifiers → Entry → Case → Group → Group
with_case q e c group = record group {
  qualifiers = q;
  case = Some c;
  cases = insert_case c group.cases;
  entries = e ∷ group.entries;
}

-- members of this type are addresses or networks of IPv4, and not ports or ranges of them
abbrev pub has_addresses : ValueType → Bool
has_addresses Host = true
has_addresses Net = true
has_addresses _ = false

-- members of both types are addresses, or of both ports
abbrev pub same_type : ValueType → ValueType → Bool
same_type a b = if has_addresses a then has_addresses b else not (has_addresses b)

-- both have no protocol, or the same
abbrev pub same_protocol : Option Protocol → Option Protocol → Bool
same_protocol None None = true
same_protocol (Some p) (Some q) = equals p q
same_protocol _ _ = false

-- both have the same direction; `src and dst` counts as never the same
abbrev pub same_direction : Direction → Direction → Bool
same_direction (Direction.One Source) (Direction.One Source) = true
same_direction (Direction.One Destination) (Direction.One Destination) = true
same_direction (Direction.Both Or) (Direction.Both Or) = true
same_direction _ _ = false

-- how many are looked for together at most
abbrev pub MOST_TOGETHER : ℕ
MOST_TOGETHER = 4096

-- a value with these qualifiers may join the members: any may if there are none; else one with the
-- type, the protocol and the direction of the group, if there is room
abbrev pub goes_with : CompleteQualifiers → Group → List Entry → Bool
goes_with q group [] = true
goes_with q group (e ∷ es) =
    is_none group.case && (same_type q.value_type group.qualifiers.value_type
    && (same_protocol q.protocol group.qualifiers.protocol
    && (same_direction q.direction group.qualifiers.direction
    && nat_lt (length (e ∷ es)) MOST_TOGETHER)))

-- a case with this direction has the words of one, if there is one
abbrev pub shares_words : Direction → Case → Option Case → Bool
shares_words d c None = false
shares_words d c (Some first) = same_words d first c

-- a case with this direction may join the members: it may if there are none; else with their words
-- and direction, if there is room
abbrev pub case_goes_with : Case → Direction → Group → List Entry → Bool
case_goes_with c d group [] = true
case_goes_with c d group (e ∷ es) =
    shares_words d c group.case && (same_direction d group.qualifiers.direction
    && nat_lt (length (e ∷ es)) MOST_TOGETHER)

-- a mask is that of a prefix: its bits are the first ones
abbrev pub is_prefix : ℕ → Bool
is_prefix mask = mask + 2 ^ (32 - count_ones mask) == 2 ^ 32

-- the addresses of a network whose address has no other bits than its mask, which is a prefix
abbrev pub net_numbers : Ip4Net → Option Interval
net_numbers net =
    if is_prefix net.mask && bit_and net.address net.mask == net.address
    then Some (interval net.address (net.address + (2 ^ 32 - 1 - net.mask)))
    else None

-- a network as a member, if it has a prefix
abbrev pub net_member : Value → Option Interval
net_member v = with (ip4_net v) net_numbers

-- what a value looks for as a member: an address, whatever its parts and its mask, a network, a
-- port or ports; none of other types and values
abbrev pub member_of : ValueType → Value → Option Interval
member_of Net v = net_member v
member_of Host (Value.Dotted dotted m) = Some (interval dotted.address dotted.address)
member_of Port (Value.Number n m) = Some (interval n n)
member_of PortRange (Value.Range a b) = Some (interval (min a b) (max a b))
member_of _ _ = None

-- a group with one more member, if the value is one and goes with the others, or none
abbrev pub group_and : CompleteQualifiers → Value → Group → Option Interval → Option Group
group_and q v group None = None
group_and q v group (Some i) =
    if goes_with q group group.entries then Some (with_member q v i group) else None

-- a group with one more case, if it goes with the others, or none
abbrev pub larger_by : CompleteQualifiers → Entry → Case → Group → Option Group
larger_by q e c group =
    if case_goes_with c q.direction group group.entries then Some (with_case q e c group) else None

-- a group with one more value, as a case, or else by its numbers
abbrev pub larger_with : CompleteQualifiers → Value → Group → Option Case → Option Group
larger_with q v group None = group_and q v group (member_of q.value_type v)
larger_with q v group (Some c) = larger_by q (Entry.Value q v) c group

-- the group with one more in front, or none if the entry does not go with it
abbrev pub larger_group : Entry → Group → Option Group
larger_group (Entry.Value q v) group =
    larger_with q v group (case_of q.value_type q.protocol q.direction v)
larger_group (Entry.Relation r) group =
    larger_by no_group.qualifiers (Entry.Relation r) (Case.Relation r) group

-- how many are looked for together at least where not each is one number
abbrev pub FEWEST_RANGES : ℕ
FEWEST_RANGES = 3

-- how many addresses with the words of one on either side are: the code of fewer might be longer
-- than their bound allows
abbrev pub fewest_either : Case → ℕ
fewest_either (Case.Mac a) = 4
fewest_either c = 3

-- how many cases as one are, on one side or without one: fewer are shorter one after the other
abbrev pub fewest_as : Case → ℕ
fewest_as (Case.Ip6 n a) = 20
fewest_as c = 8

-- how many members with a direction are looked for together at least: as cases, or as numbers, which
-- may be one each
abbrev pub fewest : Option Case → Direction → Bool → ℕ
fewest None d is_plain = if is_plain then 2 else FEWEST_RANGES
fewest (Some c) d is_plain = if are_either d c then fewest_either c else fewest_as c

-- the members are looked for together
abbrev pub is_searched : Group → Bool
is_searched group =
    nat_le (fewest group.case group.qualifiers.direction group.is_plain) (length group.entries)

-- networks are looked for, not only hosts or ports
abbrev pub has_networks : Group → Bool
has_networks group = has_addresses group.qualifiers.value_type && not group.is_plain

-- the numbers that the members look for
abbrev pub numbers_of : Group → Numbers
numbers_of group = sought (has_networks group) group.first group.all

-- one of several members with these numbers, which are addresses or ports
abbrev pub several_formula : Link → CompleteQualifiers → Bool → Numbers → Formula
several_formula link q true numbers =
    hosts_formula link q.protocol
    (λ at. sought_formula (most_in_turn q.protocol numbers.first) link q.direction at numbers)
several_formula link q false numbers =
    port_formula link q.protocol (λ at. sought_formula 0 link q.direction at numbers)

-- a member by itself
abbrev pub entry_formula : Link → Entry → Formula
entry_formula link (Entry.Value q v) = qualified_needed link q v
entry_formula link (Entry.Relation r) =
    guarded_formula (accessor_tests link r.protocol) (Single (relation_test link r))

-- one of the members, by one after the other
abbrev pub rows_formula : Link → List Entry → Formula
rows_formula link [] = Single (Outcome false)
rows_formula link (e ∷ []) = entry_formula link e
rows_formula link (e ∷ f ∷ es) = Either (entry_formula link e) (rows_formula link (f ∷ es))

-- one of the members, by their numbers or as cases
abbrev pub together_formula : Link → Group → Option Case → Formula
together_formula link group None =
    several_formula link group.qualifiers (has_addresses group.qualifiers.value_type) (numbers_of group)
together_formula link group (Some c) = cases_formula link group.qualifiers.direction c group.cases

-- a packet has one of the members
abbrev pub group_formula : Link → Group → Formula
group_formula link group =
    if is_searched group then together_formula link group group.case
    else rows_formula link group.entries

-- either of two formulas, or only the first if there are no members
abbrev pub or_any : Formula → Formula → List Entry → Formula
or_any f g [] = f
or_any f g (e ∷ es) = Either f g

-- a formula, or else one of the members, if there are some
abbrev pub or_group : Link → Formula → Group → Formula
or_group link f group = or_any f (group_formula link group) group.entries

-- a truth as an entry, or none if it can be none
abbrev pub entry_of : TruthTree → Option Entry
entry_of (qualified q v) = Some (Entry.Value q v)
entry_of (compared c l r) = relation_of c l r
entry_of _ = None

-- the group with a truth as one more member, or none
abbrev pub truth_member : TruthTree → Group → Option Group
truth_member a group = with (entry_of a) (λ e. larger_group e group)

-- an entry, or else one of the group after it; the same of a formula, if there is no entry
abbrev pub leaf_formula : Link → Option Entry → Formula → Group → Formula
leaf_formula link None f group = or_group link f group
leaf_formula link (Some e) f group =
    option_map_or (group_formula link) (larger_group e group)
    (or_group link (entry_formula link e) group)

-- the formula of a truth, or else one of the group after it: the members at its end are looked for
-- together with it, or with one another if they don't go with it
abbrev pub grouped_formula : Link → Group → TruthTree → Formula
grouped_formula link group (joined Or a b) =
    option_map_or (λ more. grouped_formula link more a) (truth_member b group)
    (option_map_or (λ new. or_group link (grouped_formula link new a) group) (truth_member b no_group)
    (Either (grouped_formula link no_group a) (grouped_formula link group b)))
grouped_formula link group (joined And a b) =
    or_group link (Both (grouped_formula link no_group a) (grouped_formula link no_group b)) group
grouped_formula link group (denied a) =
    or_group link (Except (grouped_formula link no_group a)) group
grouped_formula link group (qualified q v) =
    leaf_formula link (Some (Entry.Value q v)) (qualified_needed link q v) group
grouped_formula link group (compared c l r) =
    leaf_formula link (relation_of c l r) (relation_formula link c l r) group
grouped_formula link group a = or_group link (formula link a) group

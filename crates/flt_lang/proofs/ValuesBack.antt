-- Qualifiers and values are read from the left, as far as they go.
use Rattle.std.proofs.Common.{◌≡◌, ◌≤◌, List, ◌∷◌, refl, subst, arith, lit≤, Option, Some, None, Bool, true}
use Rattle.flt_lang.proofs.Common.{Protocol, Operator, Side, Source, Destination, ValueType, TokenKind, Direction, Qualifiers, NetMask, Value}
use Rattle.flt_lang.specs.Values.{ReadsProtocol, no_protocol, protocol, ReadsDirection, no_direction, one_side, ReadsType, no_type, of_type, ReadsQualifiers}
use Rattle.flt_lang.specs.Values.{qualifiers, ReadsMask, no_mask, ReadsValue, number, dotted, ip6}
use Rattle.flt_lang.specs.inside.Values.{starts_value, protocol_of, direction_of, type_of, qualifiers_of, mask_of, value_of}
use Rattle.flt_lang.specs.{Grammar.level, inside.Parser.next_precedence}
use Rattle.flt_words.specs.declared.token.Operator.TheVariants as operator
use Rattle.flt_words.specs.declared.token.TokenKind.TheVariants as token
use Rattle.flt_ast.specs.declared.qualifiers.Direction.TheVariants as direction

-- what is true of the value of an option is true of that of an equal one
pub carried : {A : Type 0} (P : A → Type 0) {r s : A} → P r → ◌≡◌ {A = Option A} (Some r) (Some s) → P s
carried P {r} {s} holds same = let one : r ≡ s = cc in subst P one holds

pub level_small : (o : Operator) → level o ≤ 3
level_small operator.Multiply = lit≤ tt
level_small _ = lit≤ tt

-- a value begins here, or first a type, or first a direction
abbrev pub ends_direction : List TokenKind → Bool
ends_direction (token.ValueType k ∷ ts) = true
ends_direction ts = starts_value ts

abbrev pub ends_protocol : List TokenKind → Bool
ends_protocol (token.Side s ∷ ts) = true
ends_protocol ts = ends_direction ts

-- a value begins with none of the tokens that may precede it
type_none : (ts : List TokenKind) → starts_value ts ≡ true → type_of ts ≡ (None, ts)
type_none (token.ValueType k ∷ ts) h = cc
type_none _ h = refl

value_ends_direction : (ts : List TokenKind) → starts_value ts ≡ true → ends_direction ts ≡ true
value_ends_direction (token.ValueType k ∷ ts) h = refl
value_ends_direction _ h = h

direction_none : (ts : List TokenKind) → ends_direction ts ≡ true → direction_of ts ≡ (None, ts)
direction_none (token.Side s ∷ ts) h = cc
direction_none _ h = refl

direction_ends_protocol : (ts : List TokenKind) → ends_direction ts ≡ true → ends_protocol ts ≡ true
direction_ends_protocol (token.Side s ∷ ts) h = refl
direction_ends_protocol _ h = h

side_alone : (s : Side) (ts : List TokenKind) → ends_direction ts ≡ true → direction_of (token.Side s ∷ ts) ≡ (Some (direction.One s), ts)
side_alone Source (token.Join j ∷ ts) h = cc
side_alone Source _ h = refl
side_alone Destination (token.Join j ∷ ts) h = cc
side_alone Destination _ h = refl

protocol_none : (ts : List TokenKind) → ends_protocol ts ≡ true → protocol_of ts ≡ (None, ts)
protocol_none (token.Protocol p ∷ ts) h = cc
protocol_none _ h = refl

pub type_back : {ts rest : List TokenKind} {k : Option ValueType} → ReadsType ts k rest → starts_value rest ≡ true → (type_of ts ≡ (k, rest))
    × (ends_direction ts ≡ true)
type_back (no_type {ts = ts}) h = (type_none ts h, value_ends_direction ts h)
type_back of_type h = (refl, refl)

pub direction_back : {ts rest : List TokenKind} {d : Option Direction} → ReadsDirection ts d rest → ends_direction rest ≡ true
    → (direction_of ts ≡ (d, rest)) × (ends_protocol ts ≡ true)
direction_back (no_direction {ts = ts}) h = (direction_none ts h, direction_ends_protocol ts h)
direction_back (one_side {s = s} {ts = ts}) h = (side_alone s ts h, refl)
direction_back _ h = (refl, refl)

protocol_back : {ts rest : List TokenKind} {p : Option Protocol} → ReadsProtocol ts p rest → ends_protocol rest ≡ true → protocol_of ts ≡ (p, rest)
protocol_back (no_protocol {ts = ts}) h = protocol_none ts h
protocol_back protocol h = refl

pub qualifiers_back : {ts rest : List TokenKind} {q : Qualifiers} → ReadsQualifiers ts q rest → starts_value rest ≡ true → qualifiers_of ts ≡ (q, rest)
qualifiers_back (qualifiers p d k) h = search (arith, type_back, direction_back, protocol_back)

mask_back : {ts rest : List TokenKind} {m : NetMask} → ReadsMask ts m rest → 6 ≤ next_precedence rest → mask_of ts ≡ (m, rest)
mask_back (no_mask {ts = token.Operator o ∷ ts}) h = absurd (omega (arith, level_small o))
mask_back (no_mask {ts = token.Mask ∷ ts}) h = absurd (omega arith)
mask_back (no_mask {ts = _}) h = refl
mask_back _ h = refl

pub value_back : {ts rest : List TokenKind} {v : Value} → ReadsValue ts v rest → 6 ≤ next_precedence rest → (value_of ts ≡ Some (v, rest))
    × (starts_value ts ≡ true)
value_back (number m) h = (rw (mask_back m h) refl, refl)
value_back (dotted m) h = (rw (mask_back m h) refl, refl)
value_back (ip6 {rest = token.Operator o ∷ ts}) h = absurd (omega (arith, level_small o))
value_back (ip6 {rest = _}) h = (refl, refl)
value_back _ h = (refl, refl)

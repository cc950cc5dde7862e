-- A value with its qualifiers, as tokens and as the parser reads it; a number by itself waits,
-- since it may be arithmetic.
use Rattle.std.proofs.Common.{◌≡◌, ℕ, suc, zero, ◌+◌, ◌-◌, ◌<◌, ◌≤◌, List, [], ◌∷◌, length, drop, refl, ap, ◌∙◌, arith, is_some, Option, Some, None, Bool, true}
use Rattle.std.proofs.Common.{false}
use Rattle.std.proofs.lemmas.List.{drop-drop}
use Rattle.flt_lang.proofs.Common.{Protocol, Divide, Side, Source, Destination, ValueType, TokenKind, Direction, Qualifiers, NetMask, Value, Node, Frame}
use Rattle.flt_lang.proofs.Common.{Operand}
use Rattle.flt_lang.specs.Values.{ReadsProtocol, no_protocol, protocol, ReadsDirection, no_direction, one_side, source_first, destination_first, ReadsType}
use Rattle.flt_lang.specs.Values.{no_type, of_type, ReadsQualifiers, qualifiers, is_written, ReadsMask, no_mask, prefix, dotted_mask, ReadsValue, number}
use Rattle.flt_lang.specs.Values.{dotted, ip6, ip6_prefix, mac, range}
use Rattle.flt_lang.specs.inside.Values.{starts_value, protocol_of, direction_of, type_of, qualifiers_of, mask_of, value_of}
use Rattle.flt_lang.specs.inside.Parser.{next_precedence, State, begin, run, primitive, with_frames, bare_of}
use Rattle.flt_lang.proofs.ValuesBack.{carried, type_back, direction_back, qualifiers_back, ends_protocol, value_back}
use Rattle.flt_words.specs.declared.token.TokenKind.TheVariants as token
use Rattle.flt_ast.specs.declared.value.Value.TheVariants as value
use Rattle.flt_ast.specs.declared.node.Node.TheVariants as node
use Rattle.flt_lang.specs.declared.frame.Operand.TheVariants as operand

-- `rest` is what follows in ts
pub record IsSuffix (ts rest : List TokenKind) : Type 0 where
  pub used : ℕ
  pub drops : drop used ts ≡ rest
  pub long : length ts ≡ used + length rest

joined_suffix : (ts mid rest : List TokenKind) → IsSuffix ts mid → IsSuffix mid rest → IsSuffix ts rest
joined_suffix ts mid rest a b = search (arith, drop-drop)

protocol_suffix : {ts rest : List TokenKind} {p : Option Protocol} → ReadsProtocol ts p rest → IsSuffix ts rest
protocol_suffix no_protocol = record { used = 0; drops = refl; long = omega arith }
protocol_suffix protocol = record { used = 1; drops = refl; long = omega arith }

direction_suffix : {ts rest : List TokenKind} {d : Option Direction} → ReadsDirection ts d rest → IsSuffix ts rest
direction_suffix no_direction = record { used = 0; drops = refl; long = omega arith }
direction_suffix one_side = record { used = 1; drops = refl; long = omega arith }
direction_suffix _ = record { used = 3; drops = refl; long = omega arith }

type_suffix : {ts rest : List TokenKind} {k : Option ValueType} → ReadsType ts k rest → IsSuffix ts rest
type_suffix no_type = record { used = 0; drops = refl; long = omega arith }
type_suffix of_type = record { used = 1; drops = refl; long = omega arith }

mask_suffix : {ts rest : List TokenKind} {m : NetMask} → ReadsMask ts m rest → IsSuffix ts rest
mask_suffix no_mask = record { used = 0; drops = refl; long = omega arith }
mask_suffix _ = record { used = 2; drops = refl; long = omega arith }

one_more : {t : TokenKind} {ts rest : List TokenKind} → IsSuffix ts rest → IsSuffix (t ∷ ts) rest
one_more s = record { used = suc s.used; drops = s.drops; long = omega (arith, s.long) }

pub value_suffix : {ts rest : List TokenKind} {v : Value} → ReadsValue ts v rest → IsSuffix ts rest
value_suffix (number m) = one_more (mask_suffix m)
value_suffix (dotted m) = one_more (mask_suffix m)
value_suffix ip6_prefix = record { used = 3; drops = refl; long = omega arith }
value_suffix _ = record { used = 1; drops = refl; long = omega arith }

qualifiers_suffix : {ts mid : List TokenKind} {q : Qualifiers} → ReadsQualifiers ts q mid → IsSuffix ts mid
qualifiers_suffix (qualifiers p d k) = search (arith, joined_suffix, protocol_suffix, direction_suffix, type_suffix)

pub whole_suffix : {ts mid rest : List TokenKind} {q : Qualifiers} {v : Value} → ReadsQualifiers ts q mid → ReadsValue mid v rest → IsSuffix ts rest
whole_suffix qs v = joined_suffix _ _ _ (qualifiers_suffix qs) (value_suffix v)

-- a type, a direction or a protocol comes first, the last with neither a bracket nor a cast after
-- it
abbrev is_front : List TokenKind → Bool
is_front (token.Protocol p ∷ ts) = ends_protocol ts
is_front (token.Side s ∷ ts) = true
is_front (token.ValueType k ∷ ts) = true
is_front _ = false

front : {ts mid : List TokenKind} {q : Qualifiers} → ReadsQualifiers ts q mid → is_written q ≡ true → starts_value mid ≡ true → is_front ts ≡ true
front (qualifiers protocol d k) w h = (direction_back d (type_back k h).1).1
front (qualifiers no_protocol no_direction no_type) w h = cc
front (qualifiers no_protocol no_direction of_type) w h = refl
front (qualifiers no_protocol _ k) w h = refl

begin_with_protocol : (p : Protocol) (ts : List TokenKind) (fs : List Frame) (d : List Node) → ends_protocol ts ≡ true → begin (token.Protocol p ∷ ts)
    fs d ≡ with_frames fs (primitive (token.Protocol p ∷ ts) d)
begin_with_protocol p (token.OpenBracket ∷ ts) fs d h = cc
begin_with_protocol p (token.Cast c ∷ ts) fs d h = cc
begin_with_protocol p _ fs d h = refl

begin_front : (ts : List TokenKind) (fs : List Frame) (d : List Node) → is_front ts ≡ true → begin ts fs d ≡ with_frames fs (primitive ts d)
begin_front (token.Protocol p ∷ ts) fs d h = begin_with_protocol p ts fs d h
begin_front _ fs d h = cc

pub run_skip : (ts : List TokenKind) (k : ℕ) (fs : List Frame) (x : Option Operand) (d : List Node) → run ts k fs x d ≡ run (drop k ts) 0 fs x d
run_skip _ zero fs x d = refl
run_skip [] (suc k) fs x d = refl
run_skip (t ∷ ts) (suc k) fs x d = run_skip ts k fs x d

pub run_begins : (ts : List TokenKind) (fs : List Frame) (d : List Node) (k : ℕ) (s : State) → 0 < length ts → begin ts fs d ≡ Some (k, s)
    → run ts 0 fs None d ≡ run (drop (suc k) ts) 0 s.0 s.1 s.2
run_begins [] fs d k s h e = absurd (omega arith)
run_begins (t ∷ ts) fs d k s h e = rw e (run_skip ts k s.0 s.1 s.2)

pub value_some : {ts rest : List TokenKind} {v : Value} → ReadsValue ts v rest → length rest < length ts
value_some (number m) = omega (arith, (mask_suffix m).long)
value_some (dotted m) = omega (arith, (mask_suffix m).long)
value_some _ = omega arith

whole_some : {ts mid rest : List TokenKind} {q : Qualifiers} {v : Value} → ReadsQualifiers ts q mid → ReadsValue mid v rest → length rest < length ts
whole_some qs vs = omega (arith, (qualifiers_suffix qs).long, value_some vs)

used_is : {ts rest : List TokenKind} (s : IsSuffix ts rest) → length rest < length ts → suc (length ts - length rest - 1) ≡ s.used
used_is s shorter = omega (arith, s.long, shorter)

-- what begins with all that stands before the rest goes on there
runs_past : {ts rest : List TokenKind} → IsSuffix ts rest → length rest < length ts → (fs : List Frame) (d e : List Node) (x : Option Operand)
    → begin ts fs d ≡ Some (length ts - length rest - 1, (fs, x, e)) → run ts 0 fs None d ≡ run rest 0 fs x e
runs_past {ts} {rest} s shorter fs d e x begun = run_begins ts fs d _ _ (omega (arith, shorter)) begun ∙ rw (used_is s shorter, s.drops) refl

pub valued_runs : {ts mid rest : List TokenKind} {q : Qualifiers} {v : Value} → ReadsQualifiers ts q mid → is_written q ≡ true → ReadsValue mid v rest
    → (fs : List Frame) (d : List Node) → 6 ≤ next_precedence rest → run ts 0 fs None d ≡ run rest 0 fs (Some operand.Truth) (node.Valued q v ∷ d)
valued_runs {ts = ts} {mid = mid} {rest = rest} {q = q} {v = v} qs w vs fs d h =
    search (arith, value_back, qualifiers_back, begin_front, front, runs_past, whole_suffix, whole_some)

protocol_sound : (ts : List TokenKind) → ReadsProtocol ts (protocol_of ts).0 (protocol_of ts).1
protocol_sound (token.Protocol p ∷ ts) = protocol
protocol_sound _ = no_protocol

direction_sound : (ts : List TokenKind) → ReadsDirection ts (direction_of ts).0 (direction_of ts).1
direction_sound (token.Side Source ∷ token.Join j ∷ token.Side Destination ∷ ts) = source_first
direction_sound (token.Side Destination ∷ token.Join j ∷ token.Side Source ∷ ts) = destination_first
direction_sound (token.Side Source ∷ _) = one_side
direction_sound (token.Side Destination ∷ _) = one_side
direction_sound _ = no_direction

type_sound : (ts : List TokenKind) → ReadsType ts (type_of ts).0 (type_of ts).1
type_sound (token.ValueType k ∷ ts) = of_type
type_sound _ = no_type

pub qualifiers_sound : (ts : List TokenKind) → ReadsQualifiers ts (qualifiers_of ts).0 (qualifiers_of ts).1
qualifiers_sound ts = qualifiers (protocol_sound ts) (direction_sound (protocol_of ts).1) (type_sound (direction_of (protocol_of ts).1).1)

value_moved : (ts : List TokenKind) (r s : Value × List TokenKind) → ReadsValue ts r.0 r.1 → ◌≡◌ {A = Option (Value × List TokenKind)} (Some r)
    (Some s) → ReadsValue ts s.0 s.1
value_moved ts r s v same = search (arith, carried)

mask_sound : (ts : List TokenKind) → ReadsMask ts (mask_of ts).0 (mask_of ts).1
mask_sound (token.Operator Divide ∷ token.Number m ∷ ts) = prefix
mask_sound (token.Mask ∷ token.Dotted a p ∷ ts) = dotted_mask
mask_sound _ = no_mask

pub value_sound : (ts : List TokenKind) (r : Value × List TokenKind) → value_of ts ≡ Some r → ReadsValue ts r.0 r.1
value_sound (token.Number n ∷ ts) r h = search (arith, value_moved, number, mask_sound)
value_sound (token.Dotted a p ∷ ts) r h = search (arith, value_moved, dotted, mask_sound)
value_sound (token.Ip6 a ∷ token.Operator Divide ∷ token.Number m ∷ ts) r h = value_moved _ (value.Ip6 a (Some m), ts) r ip6_prefix h
value_sound (token.Ip6 a ∷ ts) r h = value_moved _ (value.Ip6 a None, ts) r ip6 h
value_sound (token.Mac a ∷ ts) r h = value_moved _ (value.Mac a, ts) r mac h
value_sound (token.Range a b ∷ ts) r h = value_moved _ (value.Range a b, ts) r range h
value_sound _ r h = cc

side_some : (s : Side) (ts : List TokenKind) → is_some (direction_of (token.Side s ∷ ts)).0 ≡ true
side_some Source (token.Join j ∷ token.Side Destination ∷ ts) = refl
side_some Source _ = refl
side_some Destination (token.Join j ∷ token.Side Source ∷ ts) = refl
side_some Destination _ = refl

pub side_written : (s : Side) (ts : List TokenKind) → is_written (qualifiers_of (token.Side s ∷ ts)).0 ≡ true
side_written s ts = search (arith, side_some)

-- the tokens after a qualified value
pub left_after : (t : TokenKind) (ts mid rest : List TokenKind) (q : Qualifiers) (v : Value) → ReadsQualifiers (t ∷ ts) q mid → ReadsValue mid v rest
    → drop (length (t ∷ ts) - length rest - 1) ts ≡ rest
left_after t ts mid rest q v qs vs =
    let suffix = whole_suffix qs vs in
    ap (λ k. drop k (t ∷ ts)) (used_is suffix (whole_some qs vs)) ∙ suffix.drops

-- a value with nothing before it
-- the tokens where a value is read at once
abbrev pub is_value_front : List TokenKind → Bool
is_value_front (token.Number n ∷ token.Mask ∷ token.Dotted a p ∷ ts) = true
is_value_front (token.Dotted a p ∷ ts) = true
is_value_front (token.Ip6 a ∷ ts) = true
is_value_front (token.Mac a ∷ ts) = true
is_value_front (token.Range a b ∷ ts) = true
is_value_front _ = false

begin_value : (ts : List TokenKind) (fs : List Frame) (d : List Node) → is_value_front ts ≡ true → begin ts fs d ≡ with_frames fs (bare_of ts d)
begin_value (token.Number n ∷ token.Mask ∷ token.Dotted a p ∷ ts) fs d h = refl
begin_value _ fs d h = cc

-- such a value is read
pub value_runs : {ts rest : List TokenKind} {v : Value} → ReadsValue ts v rest → is_value_front ts ≡ true → (fs : List Frame) (d : List Node)
    → 6 ≤ next_precedence rest → run ts 0 fs None d ≡ run rest 0 fs (Some operand.Truth) (node.Bare v ∷ d)
value_runs {ts = ts} {rest = rest} {v = v} vs is fs d h = search (arith, value_back, begin_value, runs_past, value_suffix, value_some)

-- there is no mask here
abbrev pub IsNoMask : List TokenKind → Type 0
IsNoMask (token.Mask ∷ ts) = ⊥
IsNoMask _ = Unit {0}

pub no_mask_at : (ts : List TokenKind) → 2 ≤ next_precedence ts → IsNoMask ts
no_mask_at (token.Mask ∷ ts) h = absurd (omega arith)
no_mask_at _ h = tt

-- a number alone waits
pub plain_runs : (n : ℕ) (rest : List TokenKind) (fs : List Frame) (d : List Node) → IsNoMask rest → run (token.Number n ∷ rest) 0 fs None d ≡ run
    rest 0 fs (Some (operand.Plain n)) d
plain_runs n (token.Mask ∷ ts) fs d h = absurd h
plain_runs n _ fs d h = refl

-- the tokens after a value
pub value_left : (t : TokenKind) (ts rest : List TokenKind) (v : Value) → ReadsValue (t ∷ ts) v rest → drop (length (t ∷ ts) - length rest - 1) ts ≡ rest
value_left t ts rest v vs = search (arith, value_suffix, value_some)

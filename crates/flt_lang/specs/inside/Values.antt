-- How qualifiers and values are read from the tokens.
use Rattle.std.specs.Prelude.{◌≡◌, ◌≤◌, length, ℕ, List, ◌∷◌, drop, Option, Some, None, Bool, true}
use Rattle.std.specs.Prelude.{false, if◌then◌else◌}
use Rattle.flt_words.specs.declared.token.{Join.Join, Operator.TheVariants.Divide}
use Rattle.flt_words.specs.declared.token.{Protocol.Protocol, Side.Side}
use Rattle.flt_words.specs.declared.token.Side.TheVariants.{Source, Destination}
use Rattle.flt_words.specs.declared.token.{Token.Token, TokenKind.TokenKind, ValueType.ValueType}
use Rattle.flt_ast.specs.declared.qualifiers.{Direction.Direction, Qualifiers.Qualifiers}
use Rattle.flt_ast.specs.declared.value.{NetMask.NetMask, Value.Value}
use Rattle.flt_lang.specs.Grammar.{kinds_of}

-- the protocol that tokens begin with, if any, and the tokens after it
abbrev pub protocol_of : List TokenKind → Option Protocol × List TokenKind
protocol_of (TokenKind.Protocol p ∷ ts) = (Some p, ts)
protocol_of ts = (None, ts)

-- one side is the source and the other one the destination
abbrev pub is_opposite : Side → Side → Bool
is_opposite Source Destination = true
is_opposite Destination Source = true
is_opposite _ _ = false

-- the join of `src or dst` or `src and dst`, in either order of the sides, if tokens begin with it
abbrev pub both_of : List TokenKind → Option Join
both_of (TokenKind.Side s ∷ TokenKind.Join j ∷ TokenKind.Side t ∷ ts) =
    if is_opposite s t then Some j else None
both_of _ = None

-- the direction that tokens begin with, if any, and the tokens after it; the join is that of both
-- sides, if they begin with both
abbrev pub direction_by : Option Join → List TokenKind → Option Direction × List TokenKind
direction_by (Some j) ts = (Some (Direction.Both j), drop 3 ts)
direction_by None (TokenKind.Side s ∷ ts) = (Some (Direction.One s), ts)
direction_by None ts = (None, ts)

-- the direction that tokens begin with, if any, and the tokens after it
abbrev pub direction_of : List TokenKind → Option Direction × List TokenKind
direction_of ts = direction_by (both_of ts) ts

-- the type that tokens begin with, if any, and the tokens after it
abbrev pub type_of : List TokenKind → Option ValueType × List TokenKind
type_of (TokenKind.ValueType k ∷ ts) = (Some k, ts)
type_of ts = (None, ts)

-- the qualifiers that tokens begin with, each given or not, and the tokens after them
abbrev pub qualifiers_of : List TokenKind → Qualifiers × List TokenKind
qualifiers_of ts =
    let p = protocol_of ts in
    let d = direction_of p.1 in
    let k = type_of d.1 in
    (record { protocol = p.0; direction = d.0; value_type = k.0 }, k.1)

-- `/ N` or `mask D`, if tokens begin with it, and the tokens after it
abbrev pub mask_of : List TokenKind → NetMask × List TokenKind
mask_of (TokenKind.Operator Divide ∷ TokenKind.Number m ∷ ts) = (NetMask.Prefix m, ts)
mask_of (TokenKind.Mask ∷ TokenKind.Dotted a p ∷ ts) =
    (NetMask.Mask (record { address = a; parts = p }), ts)
mask_of ts = (NetMask.Unwritten, ts)

-- the `N` of `/ N`, if tokens begin with it, and the tokens after it
abbrev pub prefix_of : List TokenKind → Option ℕ × List TokenKind
prefix_of (TokenKind.Operator Divide ∷ TokenKind.Number m ∷ ts) = (Some m, ts)
prefix_of ts = (None, ts)

-- the value that tokens begin with, with its mask, and the tokens after it; or None
abbrev pub value_of : List TokenKind → Option (Value × List TokenKind)
value_of (TokenKind.Number n ∷ ts) = Some (Value.Number n (mask_of ts).0, (mask_of ts).1)
value_of (TokenKind.Dotted a p ∷ ts) =
    Some (Value.Dotted (record { address = a; parts = p }) (mask_of ts).0, (mask_of ts).1)
value_of (TokenKind.Ip6 a ∷ ts) = Some (Value.Ip6 a (prefix_of ts).0, (prefix_of ts).1)
value_of (TokenKind.Mac a ∷ ts) = Some (Value.Mac a, ts)
value_of (TokenKind.Range a b ∷ ts) = Some (Value.Range a b, ts)
value_of _ = None

-- tokens begin with a value
abbrev pub starts_value : List TokenKind → Bool
starts_value (TokenKind.Number n ∷ ts) = true
starts_value (TokenKind.Dotted a p ∷ ts) = true
starts_value (TokenKind.Ip6 a ∷ ts) = true
starts_value (TokenKind.Mac a ∷ ts) = true
starts_value (TokenKind.Range a b ∷ ts) = true
starts_value _ = false

-- a reader takes from tokens what the definition gives: the same value, and as many tokens, so that
-- the same ones follow
pub record Takes {A : Type 0} (given : A × List TokenKind) (tokens : List Token)
    (taken : A × ℕ) : Type 0 where
  pub value : taken.0 ≡ given.0
  pub rest : kinds_of (drop taken.1 tokens) ≡ given.1
  pub within : taken.1 ≤ length tokens

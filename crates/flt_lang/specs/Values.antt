-- Values and the qualifiers before them, as tokens: which value the tokens begin with, and which
-- tokens follow it.
use Rattle.std.specs.Prelude.{ℕ, List, ◌∷◌, Option, Some, None, Bool, is_some, ◌||◌}
use Rattle.flt_words.specs.declared.token.{Join.Join, Operator.TheVariants.Divide}
use Rattle.flt_words.specs.declared.token.{Protocol.Protocol, Side.Side}
use Rattle.flt_words.specs.declared.token.Side.TheVariants.{Source, Destination}
use Rattle.flt_words.specs.declared.token.{TokenKind.TokenKind, ValueType.ValueType}
use Rattle.flt_ast.specs.declared.qualifiers.{Direction.Direction, Qualifiers.Qualifiers}
use Rattle.flt_ast.specs.declared.value.{NetMask.NetMask, Value.Value}

-- the tokens begin with this protocol, or none is read, and these follow
pub data ReadsProtocol : List TokenKind → Option Protocol → List TokenKind → Type 0 where
  no_protocol : {ts : List TokenKind} → ReadsProtocol ts None ts
  protocol : {p : Protocol} {ts : List TokenKind}
      → ReadsProtocol (TokenKind.Protocol p ∷ ts) (Some p) ts

-- the tokens begin with this direction, or none is read, and these follow
pub data ReadsDirection : List TokenKind → Option Direction → List TokenKind → Type 0 where
  no_direction : {ts : List TokenKind} → ReadsDirection ts None ts
  one_side : {s : Side} {ts : List TokenKind}
      → ReadsDirection (TokenKind.Side s ∷ ts) (Some (Direction.One s)) ts
  source_first : {j : Join} {ts : List TokenKind}
      → ReadsDirection (TokenKind.Side Source ∷ TokenKind.Join j ∷ TokenKind.Side Destination ∷ ts)
      (Some (Direction.Both j)) ts
  destination_first : {j : Join} {ts : List TokenKind}
      → ReadsDirection (TokenKind.Side Destination ∷ TokenKind.Join j ∷ TokenKind.Side Source ∷ ts)
      (Some (Direction.Both j)) ts

-- the tokens begin with this type, or none is read, and these follow
pub data ReadsType : List TokenKind → Option ValueType → List TokenKind → Type 0 where
  no_type : {ts : List TokenKind} → ReadsType ts None ts
  of_type : {k : ValueType} {ts : List TokenKind}
      → ReadsType (TokenKind.ValueType k ∷ ts) (Some k) ts

-- the tokens begin with these qualifiers, each given or not, and these follow them
pub data ReadsQualifiers : List TokenKind → Qualifiers → List TokenKind → Type 0 where
  qualifiers : {ts mid later rest : List TokenKind}
      {p : Option Protocol} {d : Option Direction} {k : Option ValueType}
      → ReadsProtocol ts p mid → ReadsDirection mid d later → ReadsType later k rest
      → ReadsQualifiers ts (record { protocol = p; direction = d; value_type = k }) rest

-- whether any qualifier is given before the value
abbrev pub is_written : Qualifiers → Bool
is_written q = is_some q.protocol || is_some q.direction || is_some q.value_type

-- the tokens begin with this mask, or none is read, and these follow
pub data ReadsMask : List TokenKind → NetMask → List TokenKind → Type 0 where
  no_mask : {ts : List TokenKind} → ReadsMask ts NetMask.Unwritten ts
  prefix : {m : ℕ} {ts : List TokenKind}
      → ReadsMask (TokenKind.Operator Divide ∷ TokenKind.Number m ∷ ts) (NetMask.Prefix m) ts
  dotted_mask : {a p : ℕ} {ts : List TokenKind}
      → ReadsMask (TokenKind.Mask ∷ TokenKind.Dotted a p ∷ ts)
      (NetMask.Mask (record { address = a; parts = p })) ts

-- the tokens begin with this value, and these follow it
pub data ReadsValue : List TokenKind → Value → List TokenKind → Type 0 where
  number : {n : ℕ} {ts rest : List TokenKind} {m : NetMask} → ReadsMask ts m rest
      → ReadsValue (TokenKind.Number n ∷ ts) (Value.Number n m) rest
  dotted : {a p : ℕ} {ts rest : List TokenKind} {m : NetMask} → ReadsMask ts m rest
      → ReadsValue (TokenKind.Dotted a p ∷ ts)
      (Value.Dotted (record { address = a; parts = p }) m) rest
  ip6 : {a : ℕ} {rest : List TokenKind}
      → ReadsValue (TokenKind.Ip6 a ∷ rest) (Value.Ip6 a None) rest
  ip6_prefix : {a m : ℕ} {rest : List TokenKind}
      → ReadsValue (TokenKind.Ip6 a ∷ TokenKind.Operator Divide ∷ TokenKind.Number m ∷ rest)
      (Value.Ip6 a (Some m)) rest
  mac : {a : ℕ} {rest : List TokenKind} → ReadsValue (TokenKind.Mac a ∷ rest) (Value.Mac a) rest
  range : {a b : ℕ} {rest : List TokenKind}
      → ReadsValue (TokenKind.Range a b ∷ rest) (Value.Range a b) rest

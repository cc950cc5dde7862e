-- The meaning of an expression, as an expression: its tree with all qualifiers, and parentheses
-- around each operand that is neither a single word nor an accessor.
use Rattle.std.specs.Prelude.{ℕ, Bool, true, false, List, [], ◌∷◌, Option, Some, None}
use Rattle.flt_words.specs.declared.token.Operator.TheVariants.{Subtract, Divide}
use Rattle.flt_words.specs.declared.token.Protocol.{Protocol}
use Rattle.flt_words.specs.declared.token.Side.TheVariants.{Source, Destination}
use Rattle.flt_words.specs.declared.token.TokenKind.{TokenKind}
use Rattle.flt_words.specs.declared.token.TokenKind.TheVariants as token
use Rattle.flt_words.specs.declared.token.ValueType.{ValueType}
use Rattle.flt_words.specs.declared.token.ValueType.TheVariants.{Proto}
use Rattle.flt_ast.specs.declared.qualifiers.Direction.{Direction}
use Rattle.flt_ast.specs.declared.qualifiers.Direction.TheVariants as direction
use Rattle.flt_ast.specs.declared.qualifiers.Qualifiers.{Qualifiers}
use Rattle.flt_ast.specs.declared.qualifiers.CompleteQualifiers.{CompleteQualifiers}
use Rattle.flt_ast.specs.declared.value.NetMask.{NetMask}
use Rattle.flt_ast.specs.declared.value.NetMask.TheVariants as mask
use Rattle.flt_ast.specs.declared.value.Value.{Value}
use Rattle.flt_ast.specs.declared.value.Value.TheVariants as value
use Rattle.flt_ast.specs.Tree.{NumberTree, literal, len, named, load, negated, applied, TruthTree, check, cast, sized, bare, valued, qualified, compared, denied, joined, Expression, empty, truth}
use Rattle.flt_explain.specs.declared.spelling.Following.TheVariants.{Other}
use Rattle.flt_explain.specs.Texts.{tokens_text}

-- the mask, if one is given, after the number or address of a network, and then other tokens
abbrev pub mask_tokens : NetMask → List TokenKind → List TokenKind
mask_tokens mask.Unwritten rest = rest
mask_tokens (mask.Prefix n) rest = token.Operator Divide ∷ token.Number n ∷ rest
mask_tokens (mask.Mask d) rest = token.Mask ∷ token.Dotted d.address d.parts ∷ rest

-- the tokens of a value without its qualifiers, and then others
abbrev pub value_tokens : Value → List TokenKind → List TokenKind
value_tokens (value.Number n m) rest = token.Number n ∷ mask_tokens m rest
value_tokens (value.Dotted d m) rest = token.Dotted d.address d.parts ∷ mask_tokens m rest
value_tokens (value.Ip6 a None) rest = token.Ip6 a ∷ rest
value_tokens (value.Ip6 a (Some n)) rest = token.Ip6 a ∷ mask_tokens (mask.Prefix n) rest
value_tokens (value.Mac a) rest = token.Mac a ∷ rest
value_tokens (value.Range a b) rest = token.Range a b ∷ rest

-- the protocol before a value, if there is one, and then other tokens
abbrev pub protocol_tokens : Option Protocol → List TokenKind → List TokenKind
protocol_tokens None rest = rest
protocol_tokens (Some p) rest = token.Protocol p ∷ rest

-- the direction before a value, and then other tokens; if it has both sides the source comes first
abbrev pub direction_tokens : Direction → List TokenKind → List TokenKind
direction_tokens (direction.One s) rest = token.Side s ∷ rest
direction_tokens (direction.Both j) rest =
    token.Side Source ∷ token.Join j ∷ token.Side Destination ∷ rest

-- the direction before a value, if there is one, and then other tokens
abbrev pub written_direction : Option Direction → List TokenKind → List TokenKind
written_direction None rest = rest
written_direction (Some d) rest = direction_tokens d rest

-- the type before a value, if there is one, and then other tokens
abbrev pub type_tokens : Option ValueType → List TokenKind → List TokenKind
type_tokens None rest = rest
type_tokens (Some k) rest = token.ValueType k ∷ rest

-- the qualifiers before a value, and then other tokens
abbrev pub qualifier_tokens : Qualifiers → List TokenKind → List TokenKind
qualifier_tokens q rest =
    protocol_tokens q.protocol (written_direction q.direction (type_tokens q.value_type rest))

-- the direction that is written; before a protocol number none may be
abbrev pub written_side : ValueType → Direction → Option Direction
written_side Proto d = None
written_side _ d = Some d

-- the qualifiers that are written before a value
abbrev pub written_qualifiers : CompleteQualifiers → Qualifiers
written_qualifiers q = record {
  protocol = q.protocol;
  direction = written_side q.value_type q.direction;
  value_type = Some q.value_type;
}

-- the tokens of a number as an operand, and then others
abbrev pub number_tokens : NumberTree → List TokenKind → List TokenKind
number_tokens (literal n) rest = token.Number n ∷ rest
number_tokens len rest = token.Len ∷ rest
number_tokens (named n) rest = token.Name n ∷ rest
number_tokens (load p s a) rest =
    token.Protocol p ∷ token.OpenBracket
    ∷ number_tokens a (token.Colon ∷ token.Number s ∷ token.CloseBracket ∷ rest)
number_tokens (negated a) rest =
    token.Open ∷ token.Operator Subtract ∷ number_tokens a (token.Close ∷ rest)
number_tokens (applied o a b) rest =
    token.Open ∷ number_tokens a (token.Operator o ∷ number_tokens b (token.Close ∷ rest))

-- the `)` after a node if it is an operand, and then other tokens
abbrev pub close_operand : Bool → List TokenKind → List TokenKind
close_operand true rest = token.Close ∷ rest
close_operand false rest = rest

-- the `(` before a node if it is an operand, and then other tokens
abbrev pub open_operand : Bool → List TokenKind → List TokenKind
open_operand true rest = token.Open ∷ rest
open_operand false rest = rest

-- the tokens of a truth, as an operand or as the whole, and then others
abbrev pub truth_tokens : Bool → TruthTree → List TokenKind → List TokenKind
truth_tokens operand (check p) rest = token.Protocol p ∷ rest
truth_tokens operand (cast None c) rest = token.Cast c ∷ rest
truth_tokens operand (cast (Some p) c) rest =
    open_operand operand (token.Protocol p ∷ token.Cast c ∷ close_operand operand rest)
truth_tokens operand (sized s n) rest =
    open_operand operand (token.Size s ∷ token.Number n ∷ close_operand operand rest)
truth_tokens operand (bare v) rest = open_operand operand (value_tokens v (close_operand operand rest))
truth_tokens operand (valued q v) rest =
    open_operand operand (qualifier_tokens q (value_tokens v (close_operand operand rest)))
truth_tokens operand (qualified q v) rest =
    open_operand operand
    (qualifier_tokens (written_qualifiers q) (value_tokens v (close_operand operand rest)))
truth_tokens operand (compared c a b) rest =
    open_operand operand
    (number_tokens a (token.Comparison c ∷ number_tokens b (close_operand operand rest)))
truth_tokens operand (denied a) rest =
    open_operand operand (token.Not ∷ truth_tokens true a (close_operand operand rest))
truth_tokens operand (joined j a b) rest =
    open_operand operand
    (truth_tokens true a (token.Join j ∷ truth_tokens true b (close_operand operand rest)))

-- the tokens of an expression's meaning; none for the empty one
abbrev pub explained_tokens : Expression → List TokenKind
explained_tokens empty = []
explained_tokens (truth a) = truth_tokens false a []

-- the text of an expression's meaning, as `explain` returns it
abbrev pub explained_text : Expression → List ℕ
explained_text e = tokens_text Other (explained_tokens e)

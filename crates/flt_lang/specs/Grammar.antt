-- The grammar: which tree the tokens begin with, and which tokens follow it.
use Rattle.std.specs.Prelude.{◌≡◌, Bool, true, false, ℕ, suc, List, [], ◌∷◌, map, Some, None}
use Rattle.flt_words.specs.declared.token.{Cast.Cast, Comparison.Comparison}
use Rattle.flt_words.specs.declared.token.{Join.Join, Operator.Operator, Protocol.Protocol}
use Rattle.flt_words.specs.declared.token.{Size.Size, Token.Token, TokenKind.TokenKind}
use Rattle.flt_ast.specs.Tree.{NumberTree, literal, len, named, load, negated, applied, TruthTree}
use Rattle.flt_ast.specs.Tree.{check, cast, sized, bare, valued, compared, denied, joined}
use Rattle.flt_ast.specs.Tree.{Expression, empty, truth}
use Rattle.flt_ast.specs.declared.{qualifiers.Qualifiers.Qualifiers, value.Value.Value}
use Rattle.flt_lang.specs.Values.{ReadsQualifiers, is_written, ReadsValue}

-- the level of an operator, lowest if it binds most tightly. The levels are capkit's own: `|`,
-- `&` and `^` are equal and bind most loosely, and `%` is as `*`. An operator's operands are of
-- lower levels, except that on its left, which may be a chain of operators of its level.
abbrev pub level : Operator → ℕ
level Operator.Multiply = 0
level Operator.Divide = 0
level Operator.Remainder = 0
level Operator.Add = 1
level Operator.Subtract = 1
level Operator.ShiftLeft = 2
level Operator.ShiftRight = 2
level Operator.Or = 3
level Operator.And = 3
level Operator.ExclusiveOr = 3

-- the protocols that may be a primitive by themselves
abbrev pub stands_alone : Protocol → Bool
stands_alone Protocol.Ether = false
stands_alone _ = true

-- the protocols that may precede a bracket
abbrev pub is_accessor : Protocol → Bool
is_accessor Protocol.Icmp6 = false
is_accessor _ = true

-- the protocols that may precede `broadcast` or `multicast`
abbrev pub has_casts : Protocol → Bool
has_casts Protocol.Ether = true
has_casts Protocol.Ip = true
has_casts Protocol.Ip6 = true
has_casts _ = false

-- The tokens begin with this number, of a level, and these follow it. Level 0 is a literal, `len`,
-- a name, an accessor, a number in parentheses, or one of level 0 after `-`; level 1 is also a
-- product, a quotient or a remainder, level 2 a sum or a difference, level 3 a shift, level 4 any
-- number. A chain associates to the left.
pub data Number : ℕ → List TokenKind → NumberTree → List TokenKind → Type 0 where
  of_literal : {n : ℕ} {rest : List TokenKind}
      → Number 0 (TokenKind.Number n ∷ rest) (literal n) rest
  of_len : {rest : List TokenKind} → Number 0 (TokenKind.Len ∷ rest) len rest
  of_name : {n : ℕ} {rest : List TokenKind} → Number 0 (TokenKind.Name n ∷ rest) (named n) rest
  enclosed : {ts rest : List TokenKind} {a : NumberTree} → Number 4 ts a (TokenKind.Close ∷ rest)
      → Number 0 (TokenKind.Open ∷ ts) a rest
  of_load : {p : Protocol} {ts rest : List TokenKind} {a : NumberTree} → is_accessor p ≡ true
      → Number 4 ts a (TokenKind.CloseBracket ∷ rest)
      → Number 0 (TokenKind.Protocol p ∷ TokenKind.OpenBracket ∷ ts) (load p 1 a) rest
  of_sized_load : {p : Protocol} {n : ℕ} {ts rest : List TokenKind} {a : NumberTree}
      → is_accessor p ≡ true
      → Number 4 ts a (TokenKind.Colon ∷ TokenKind.Number n ∷ TokenKind.CloseBracket ∷ rest)
      → Number 0 (TokenKind.Protocol p ∷ TokenKind.OpenBracket ∷ ts) (load p n a) rest
  minus : {ts rest : List TokenKind} {a : NumberTree} → Number 0 ts a rest
      → Number 0 (TokenKind.Operator Operator.Subtract ∷ ts) (negated a) rest
  single : {k : ℕ} {ts rest : List TokenKind} {a : NumberTree} → Number k ts a rest
      → Number (suc k) ts a rest
  chain : {k : ℕ} {ts mid rest : List TokenKind} {a b : NumberTree} {o : Operator}
      → Number (suc k) ts a (TokenKind.Operator o ∷ mid) → level o ≡ k → Number k mid b rest
      → Number (suc k) ts (applied o a b) rest

-- The tokens begin with this truth, of a level, and these follow it. Level 0 is a term, level 1 a
-- chain of one or more terms, which associates to the left.
pub data Truth : ℕ → List TokenKind → TruthTree → List TokenKind → Type 0 where
  of_check : {p : Protocol} {rest : List TokenKind} → stands_alone p ≡ true
      → Truth 0 (TokenKind.Protocol p ∷ rest) (check p) rest
  of_cast : {c : Cast} {rest : List TokenKind}
      → Truth 0 (TokenKind.Cast c ∷ rest) (cast None c) rest
  of_protocol_cast : {p : Protocol} {c : Cast} {rest : List TokenKind} → has_casts p ≡ true
      → Truth 0 (TokenKind.Protocol p ∷ TokenKind.Cast c ∷ rest) (cast (Some p) c) rest
  of_sized : {s : Size} {n : ℕ} {rest : List TokenKind}
      → Truth 0 (TokenKind.Size s ∷ TokenKind.Number n ∷ rest) (sized s n) rest
  of_valued : {ts mid rest : List TokenKind} {q : Qualifiers} {v : Value} → ReadsQualifiers ts q mid
      → is_written q ≡ true → ReadsValue mid v rest → Truth 0 ts (valued q v) rest
  of_bare : {ts rest : List TokenKind} {v : Value} → ReadsValue ts v rest → Truth 0 ts (bare v) rest
  relation : {c : Comparison} {ts mid rest : List TokenKind} {a b : NumberTree}
      → Number 4 ts a (TokenKind.Comparison c ∷ mid) → Number 4 mid b rest
      → Truth 0 ts (compared c a b) rest
  denial : {ts rest : List TokenKind} {a : TruthTree} → Truth 0 ts a rest
      → Truth 0 (TokenKind.Not ∷ ts) (denied a) rest
  enclosed_truth : {ts rest : List TokenKind} {a : TruthTree}
      → Truth 1 ts a (TokenKind.Close ∷ rest)
      → Truth 0 (TokenKind.Open ∷ ts) a rest
  term : {ts rest : List TokenKind} {a : TruthTree} → Truth 0 ts a rest → Truth 1 ts a rest
  terms : {ts mid rest : List TokenKind} {a b : TruthTree} {j : Join}
      → Truth 1 ts a (TokenKind.Join j ∷ mid) → Truth 0 mid b rest → Truth 1 ts (joined j a b) rest

-- all tokens are this tree; without tokens it is the empty one
pub data IsReadAs : List TokenKind → Expression → Type 0 where
  no_tokens : IsReadAs [] empty
  all_tokens : {ts : List TokenKind} {a : TruthTree} → Truth 1 ts a [] → IsReadAs ts (truth a)

-- tokens without their places
abbrev pub kinds_of : List Token → List TokenKind
kinds_of tokens = map (λ t. t.kind) tokens

-- How deep tokens nest.
use Rattle.std.specs.List.{list_all}
use Rattle.std.specs.Prelude.{◌≡◌, ◌⊎◌, ℕ, ◌+◌, ◌<◌, ◌≤◌, Bool, true, false, List, length, take}
use Rattle.std.specs.Prelude.{drop, count_by}
use Rattle.flt_words.specs.declared.token.Operator.TheVariants.{Subtract}
use Rattle.flt_words.specs.declared.token.{Token.Token, TokenKind.TokenKind}

-- whether a token is `(` or `[`
abbrev pub is_opening_kind : TokenKind → Bool
is_opening_kind TokenKind.Open = true
is_opening_kind TokenKind.OpenBracket = true
is_opening_kind _ = false

-- whether a token is `)` or `]`
abbrev pub is_closing_kind : TokenKind → Bool
is_closing_kind TokenKind.Close = true
is_closing_kind TokenKind.CloseBracket = true
is_closing_kind _ = false

-- whether a token is `not`, or `-`, which may be a sign
abbrev pub is_prefix_operator_kind : TokenKind → Bool
is_prefix_operator_kind TokenKind.Not = true
is_prefix_operator_kind (TokenKind.Operator Subtract) = true
is_prefix_operator_kind _ = false

-- the token opens a parenthesis or a bracket
unfoldable pub is_opening : Token → Bool
is_opening t = is_opening_kind t.kind

-- the token closes a parenthesis or a bracket
unfoldable pub is_closing : Token → Bool
is_closing t = is_closing_kind t.kind

-- the token is an operator that may precede its operand
unfoldable pub is_prefix_operator : Token → Bool
is_prefix_operator t = is_prefix_operator_kind t.kind

-- some prefix has over 100 more `(` and `[` than `)` and `]`
abbrev pub HasDeepFront : List Token → Type 0
HasDeepFront ts =
    (n : ℕ) × (count_by is_closing (take n ts) + 100 < count_by is_opening (take n ts))

-- the first 101 tokens are `not` or `-`
abbrev pub BeginsWithLongPrefix : List Token → Type 0
BeginsWithLongPrefix ts = (101 ≤ length ts) × (list_all is_prefix_operator (take 101 ts) ≡ true)

-- 101 tokens, each of them `not` or `-`, follow one another
abbrev pub HasLongPrefix : List Token → Type 0
HasLongPrefix ts = (i : ℕ) × BeginsWithLongPrefix (drop i ts)

-- the tokens are refused as nested too deep
abbrev pub IsTooDeep : List Token → Type 0
IsTooDeep ts = HasDeepFront ts ⊎ HasLongPrefix ts

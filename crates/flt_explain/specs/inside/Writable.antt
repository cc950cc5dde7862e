-- The tokens that some text means.
use Rattle.std.specs.Prelude.{◌≡◌, ◌<◌, ◌^◌, true}
use Rattle.flt_words.specs.declared.token.TokenKind.{TokenKind}
use Rattle.flt_words.specs.declared.token.TokenKind.TheVariants as token
use Rattle.flt_explain.specs.Writable.{has_name, IsDottedAddress}

-- a token that some word or sign means
abbrev pub IsSpellable : TokenKind → Type 0
IsSpellable (token.Number n) = n < 2 ^ 32
IsSpellable (token.Name n) = has_name n ≡ true
IsSpellable (token.Dotted a p) = IsDottedAddress a p
IsSpellable (token.Range a b) = (a < 2 ^ 32) × (b < 2 ^ 32)
IsSpellable (token.Mac a) = a < 2 ^ 48
IsSpellable (token.Ip6 a) = a < 2 ^ 128
IsSpellable _ = Unit {0}

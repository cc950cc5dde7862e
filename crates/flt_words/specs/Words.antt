-- What a word means.
use Rattle.std.specs.Prelude.{◌≡◌, ℕ, List, Bool, ◌&&◌, true, false, Some, Result, Ok, Err}
use Rattle.flt_words.specs.Addresses.{IsDotted, IsIp6, IsMac}
use Rattle.flt_words.specs.Numbers.{IsNumber, IsRange, is_word_sized}
use Rattle.flt_words.specs.Spellings.{keyword_of}
use Rattle.flt_words.specs.declared.{fault.ExprFault.ExprFault, token.TokenKind.TokenKind}

-- the word spells a token of this kind, however large its numbers are
pub data Spells : List ℕ → TokenKind → Type 0 where
  keyword : {word : List ℕ} {kind : TokenKind} → keyword_of word ≡ Some kind → Spells word kind
  number : {word : List ℕ} {n : ℕ} → IsNumber word n → Spells word (TokenKind.Number n)
  dotted : {word : List ℕ} {address parts : ℕ} → IsDotted word address parts
      → Spells word (TokenKind.Dotted address parts)
  range : {word : List ℕ} {first last : ℕ} → IsRange word first last
      → Spells word (TokenKind.Range first last)
  mac : {word : List ℕ} {address : ℕ} → IsMac word address → Spells word (TokenKind.Mac address)
  ip6 : {word : List ℕ} {address : ℕ} → IsIp6 word address → Spells word (TokenKind.Ip6 address)

-- whether a token's number, or both of its range, are below 2 ^ 32; true for other tokens
abbrev pub fits : TokenKind → Bool
fits (TokenKind.Number n) = is_word_sized n
fits (TokenKind.Range first last) = is_word_sized first && is_word_sized last
fits _ = true

-- the result for a word at a place: the kind of its token, or why it has none
pub data WordMeans (place : ℕ) (word : List ℕ) : Result TokenKind ExprFault → Type 0 where
  known : {kind : TokenKind} → Spells word kind → fits kind ≡ true → WordMeans place word (Ok kind)
  too_large : {kind : TokenKind} → Spells word kind → fits kind ≡ false
      → WordMeans place word (Err (ExprFault.NumberTooLarge place))
  unknown : ((kind : TokenKind) → Spells word kind → ⊥)
      → WordMeans place word (Err (ExprFault.UnknownWord place))

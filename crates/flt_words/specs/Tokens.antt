-- The tokens of a text.
use Rattle.std.specs.Prelude.{◌≡◌, ◌<◌, ◌≤◌, ◌+◌, ◌-◌, ℕ, List, [], ◌∷◌, Bool, true, false, length}
use Rattle.std.specs.Prelude.{take, drop, slice_index, Some, Result, Ok, Err}
use Rattle.flt_words.specs.Characters.{is_blank, is_inside, starts_word, within_word}
use Rattle.flt_words.specs.Spellings.{symbol_of}
use Rattle.flt_words.specs.{Words.WordMeans, declared.fault.ExprFault.ExprFault}
use Rattle.flt_words.specs.declared.token.{Token.Token, TokenKind.TokenKind}

-- the piece could be a word: it begins and ends as words do, and has only bytes that a word may
-- have
pub record IsWordPiece (inside : Bool) (piece : List ℕ) : Type 0 where
  pub begins : starts_word inside (slice_index piece 0) ≡ true
  pub within : (i : ℕ) → i < length piece → within_word inside (slice_index piece i) ≡ true
  pub ends : starts_word inside (slice_index piece (length piece - 1)) ≡ true

-- what a piece at a place means: a word its meaning, a symbol its token
pub data PieceMeans (inside : Bool) (place : ℕ) (piece : List ℕ) : Result TokenKind ExprFault
    → Type 0 where
  word_meaning : {answer : Result TokenKind ExprFault} → IsWordPiece inside piece
      → WordMeans place piece answer → PieceMeans inside place piece answer
  symbol_meaning : {kind : TokenKind} → symbol_of inside piece ≡ Some kind
      → PieceMeans inside place piece (Ok kind)

-- the piece could be a token: it is formed as a word, or is a symbol
pub data IsPiece (inside : Bool) (piece : List ℕ) : Type 0 where
  word : IsWordPiece inside piece → IsPiece inside piece
  symbol : {kind : TokenKind} → symbol_of inside piece ≡ Some kind → IsPiece inside piece

-- the first n bytes are the longest piece at the start
pub record IsLongest (inside : Bool) (rest : List ℕ) (n : ℕ) : Type 0 where
  pub in_range : n ≤ length rest
  pub piece : IsPiece inside (take n rest)
  pub longest : (m : ℕ) → m ≤ length rest → IsPiece inside (take m rest) → m ≤ n

-- the text from a place on begins with a token of this kind, n bytes long
pub record IsToken (inside : Bool) (place : ℕ) (rest : List ℕ) (kind : TokenKind)
    (n : ℕ) : Type 0 where
  pub longest : IsLongest inside rest n
  pub means : PieceMeans inside place (take n rest) (Ok kind)

-- the text from a place on is refused at its start: no piece begins there, or the longest one is a
-- word of no kind or has too large a number
pub data IsRefused (inside : Bool) (place : ℕ) (rest : List ℕ) : ExprFault → Type 0 where
  no_piece : ((n : ℕ) → n ≤ length rest → IsPiece inside (take n rest) → ⊥)
      → IsRefused inside place rest (ExprFault.UnknownCharacter place)
  bad_piece : {n : ℕ} {refusal : ExprFault} → IsLongest inside rest n
      → PieceMeans inside place (take n rest) (Err refusal) → IsRefused inside place rest refusal

-- a token followed by others, or their refusal
abbrev pub before : Token → Result (List Token) ExprFault → Result (List Token) ExprFault
before token (Ok tokens) = Ok (token ∷ tokens)
before token (Err refusal) = Err refusal

-- from the byte at an index on, a text has these tokens, with or without blanks between them, or
-- this is the leftmost refusal; indices count from 0, places in tokens and refusals from 1
pub data TokensFrom (text : List ℕ) : ℕ → Result (List Token) ExprFault → Type 0 where
  at_end : {at : ℕ} → at ≡ length text → TokensFrom text at (Ok [])
  blank : {at : ℕ} {answer : Result (List Token) ExprFault} → is_blank (slice_index text at) ≡ true
      → TokensFrom text (at + 1) answer → TokensFrom text at answer
  token : {at n : ℕ} {kind : TokenKind} {answer : Result (List Token) ExprFault}
      → IsToken (is_inside (take at text)) (at + 1) (drop at text) kind n
      → TokensFrom text (at + n) answer
      → TokensFrom text at (before (record { kind = kind; place = at + 1 }) answer)
  refused : {at : ℕ} {refusal : ExprFault} → at < length text
      → is_blank (slice_index text at) ≡ false
      → IsRefused (is_inside (take at text)) (at + 1) (drop at text) refusal
      → TokensFrom text at (Err refusal)

-- the tokens of a text of at most 65,536 bytes, or its refusal
pub data Tokens (text : List ℕ) : Result (List Token) ExprFault → Type 0 where
  too_long : 65536 < length text → Tokens text (Err ExprFault.TooLong)
  short : {answer : Result (List Token) ExprFault} → length text ≤ 65536 → TokensFrom text 0 answer
      → Tokens text answer

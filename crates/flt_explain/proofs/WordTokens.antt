-- A written word is a token if no byte of a word follows it, and means the token for which it was
-- written.
use Rattle.std.proofs.Common.{◌≡◌, ℕ, zero, ◌+◌, ◌-◌, ◌<◌, ◌≤◌, List, [], ◌∷◌, ◌++◌, length, get_or, Bool, true, false, ◌&&◌, nat_lt, Some, ◌^◌, lit≤}
use Rattle.flt_explain.proofs.Common.{suc, arith, nat_tests, AllByRecursion, list_all, TokenKind, Following, has_name, ltb-true, or-true, Protocol, Join}
use Rattle.std.proofs.lemmas.List.{get_or-append-add, get_or_append_left, take_at, length-append}
use Rattle.flt_explain.specs.Texts.{fixed_spelling, name_word}
use Rattle.flt_words.specs.Numbers.{IsRange.joined as dashed, WritesDecimal, IsNumber.decimal as decimal_number}
use Rattle.flt_words.specs.Tokens.{IsToken, IsWordPiece, PieceMeans.word_meaning}
use Rattle.flt_words.proofs.{Tables.found_passes, Tables.keyword_is_plain, Pieces.IsScanned, Pieces.longest_word, Numbers.fits as word_sized}
use Rattle.flt_words.specs.Words.{Spells.keyword, Spells.number, Spells.range, Spells, fits, WordMeans.known}
use Rattle.std.specs.{Char.digit_value, Char.is_ascii_alphanumeric, Str.Parse.AllDigits, Fmt.decimal}
use Rattle.flt_words.specs.{Characters.starts_word, Characters.within_word, Spellings.keyword_of, Spellings.keywords, declared.token.Size.Size}
use Rattle.std.proofs.lemmas.{Fmt.decimal_digit, Fmt.decimal_is_IsNumeral, Fmt.first_decimal, Bool.and_parts, Bool.eqb-true, Bool.or_cases}
use Rattle.flt_words.specs.declared.token.TokenKind.TheVariants as token

-- the text could be a word
pub record IsPart (inside : Bool) (word : List ℕ) : Type 0 where
  pub some : 0 < length word
  pub begins : starts_word inside (get_or word 0 0) ≡ true
  pub within : AllByRecursion (λ b. within_word inside b ≡ true) word
  pub ends : starts_word inside (get_or word (length word - 1) 0) ≡ true

byte_at : (P : ℕ → Type 0) (word : List ℕ) (i : ℕ) → AllByRecursion P word → i < length word → P (get_or word i 0)
byte_at P [] i all below = grind arith
byte_at P (b ∷ word) zero all below = all.0
byte_at P (b ∷ word) (suc i) all below = byte_at P word i all.1 (omega arith)

all_append : (P : ℕ → Type 0) (front back : List ℕ) → AllByRecursion P front → AllByRecursion P back → AllByRecursion P (front ++ back)
all_append P [] back v w = w
all_append P (b ∷ front) back v w = (v.0, all_append P front back v.1 w)

starts_within : (inside : Bool) (b : ℕ) → starts_word inside b ≡ true → within_word inside b ≡ true
starts_within inside b h = rw h

all_within : (inside : Bool) (word : List ℕ) → AllByRecursion (λ b. starts_word inside b ≡ true) word → AllByRecursion (λ b. within_word inside b ≡ true) word
all_within inside [] all = tt
all_within inside (b ∷ word) all = (starts_within inside b all.0, all_within inside word all.1)

pub part_of_starts : (inside : Bool) (word : List ℕ) → 0 < length word → AllByRecursion (λ b. starts_word inside b ≡ true) word → IsPart inside word
part_of_starts inside word some all = grind (arith, byte_at, all_within)

-- digits
letter_or_digit : (c radix : ℕ) → radix ≤ 36 → digit_value c < radix → is_ascii_alphanumeric c ≡ true
letter_or_digit c radix few small = grind (arith, nat_tests)

digits_start : (inside : Bool) (radix : ℕ) (digits : List ℕ) → radix ≤ 36 → AllDigits radix digits → AllByRecursion (λ b. starts_word inside b ≡ true) digits
digits_start inside radix [] few all = tt
digits_start inside radix (c ∷ digits) few all = grind (arith, letter_or_digit, digits_start inside radix digits few all.1)

pub part_of_digits : (inside : Bool) (radix : ℕ) (digits : List ℕ) → radix ≤ 36 → 0 < length digits → AllDigits radix digits → IsPart inside digits
part_of_digits inside radix digits few some all = part_of_starts inside digits some (grind (arith, digits_start))

-- two parts, and a byte between them
pub part_join : (inside : Bool) (c : ℕ) (front back : List ℕ) → within_word inside c ≡ true → IsPart inside front → IsPart inside back
    → IsPart inside (front ++ c ∷ back)
part_join inside c front back between v w =
    let last : length (front ++ c ∷ back) - 1 ≡ length front + suc (length back - 1) = grind (arith, length-append) in
    grind (arith, length-append, get_or_append_left, all_append, get_or-append-add)

-- a keyword
part_test : Bool → List ℕ → Bool
part_test inside word =
    nat_lt 0 (length word) && (starts_word inside (get_or word 0 0) &&
    (list_all (within_word inside) word && starts_word inside (get_or word (length word - 1) 0)))

all_parts : (inside : Bool) → list_all (λ entry. part_test inside entry.0) keywords ≡ true
unfolding part_test keywords
all_parts inside = grind arith

all_from_test : (p : ℕ → Bool) (word : List ℕ) → list_all p word ≡ true → AllByRecursion (λ b. p b ≡ true) word
all_from_test p [] h = tt
all_from_test p (b ∷ word) h =
    let parts = and_parts (p b) (list_all p word) h in
    (parts.0, all_from_test p word parts.1)

pub part_of_keyword : (inside : Bool) (word : List ℕ) (kind : TokenKind) → keyword_of word ≡ Some kind → IsPart inside word
unfolding part_test
part_of_keyword inside word kind found =
    let pass = found_passes (λ piece _. part_test inside piece) keywords word kind (all_parts inside) found in
    let some = and_parts (nat_lt 0 (length word)) _ pass in
    let begins = and_parts (starts_word inside (get_or word 0 0)) _ some.1 in
    let within = and_parts (list_all (within_word inside) word) _ begins.1 in
    record {
      some = grind (arith, ltb-true);
      begins = begins.0;
      within = all_from_test (within_word inside) word within.0;
      ends = within.1;
    }

-- a word that no further byte of the text continues
module _ (inside : Bool) (place : ℕ) (word more : List ℕ) (kind : TokenKind) (part : IsPart inside word) (stands : Spells word kind) (fit : fits kind ≡ true)
    (stops : 0 < length more → within_word inside (get_or more 0 0) ≡ false) where
  here : (i : ℕ) → i < length word → get_or (word ++ more) i 0 ≡ get_or word i 0
  here i below = grind (arith, get_or_append_left)

  scanned : IsScanned inside (word ++ more) (length word) (length word)
  scanned = grind (arith, here, byte_at)

  long : length (word ++ more) ≡ length word + length more
  long = length-append word more

  stop : length word < length (word ++ more) → within_word inside (get_or (word ++ more) (length word) 0) ≡ false
  stop below =
      let at : length word + 0 ≡ length word = omega arith in
      grind (arith, get_or-append-add, long)

  piece : IsWordPiece inside word
  piece = grind (arith, byte_at)

  pub word_token : IsToken inside place (word ++ more) kind (length word)
  word_token = record {
    longest = longest_word inside (word ++ more) (length word) (length word) scanned (omega (arith, long)) (grind (arith, here)) stop;
    means = grind (arith, take_at, word_meaning, piece, known);
  }

-- what the written words mean
pub record IsWordFor (inside : Bool) (word : List ℕ) (kind : TokenKind) : Type 0 where
  pub part : IsPart inside word
  pub stands : Spells word kind
  pub fit : fits kind ≡ true

-- keywords
abbrev pub is_keyword : TokenKind → Bool
is_keyword (token.Protocol p) = true
is_keyword (token.Join j) = true
is_keyword token.Not = true
is_keyword (token.Side s) = true
is_keyword (token.ValueType k) = true
is_keyword (token.Size s) = true
is_keyword (token.Cast c) = true
is_keyword token.Mask = true
is_keyword token.Len = true
is_keyword _ = false

found : (t : TokenKind) → is_keyword t ≡ true → keyword_of (fixed_spelling t) ≡ Some t
unfolding keywords
found t h = grind arith

keyword_by : (inside : Bool) (word : List ℕ) (kind : TokenKind) → keyword_of word ≡ Some kind → IsWordFor inside word kind
keyword_by inside word kind found = record {
  part = part_of_keyword inside word kind found;
  stands = keyword found;
  fit = (keyword_is_plain word kind found).fitting;
}

pub keyword_for : (inside : Bool) (t : TokenKind) → is_keyword t ≡ true → IsWordFor inside (fixed_spelling t) t
keyword_for inside t h = keyword_by inside _ _ (found t h)

-- names
one_found : (following : Following) → keyword_of (name_word following 1) ≡ Some (token.Name 1)
unfolding keywords
one_found following = grind arith

name_found : (following : Following) (n : ℕ) → has_name n ≡ true → keyword_of (name_word following n) ≡ Some (token.Name n)
unfolding keywords
name_found following n h = grind (arith, found, eqb-true, one_found, or_cases)

pub name_for : (inside : Bool) (following : Following) (n : ℕ) → has_name n ≡ true → IsWordFor inside (name_word following n) (token.Name n)
name_for inside following n h = keyword_by inside _ _ (name_found following n h)

-- numbers
one_digit : (n : ℕ) → n < 2 ^ 32 → get_or (decimal n) 0 0 ≡ 48 → length (decimal n) ≡ 1
one_digit n small first = grind (arith, decimal_digit, first_decimal)

pub writes_decimal : (n : ℕ) → n < 2 ^ 32 → WritesDecimal (decimal n) n
writes_decimal n small =
    let is = decimal_is_IsNumeral n (omega arith) in
    grind (arith, one_digit)

pub part_of_decimal : (inside : Bool) (n : ℕ) → n < 2 ^ 32 → IsPart inside (decimal n)
part_of_decimal inside n small =
    let is = (decimal_is_IsNumeral n (omega arith)).0 in
    part_of_digits inside 10 (decimal n) (lit≤ tt) is.0 is.1

pub number_for : (inside : Bool) (n : ℕ) → n < 2 ^ 32 → IsWordFor inside (decimal n) (token.Number n)
number_for inside n small = record {
  part = part_of_decimal inside n small;
  stands = number (decimal_number (writes_decimal n small));
  fit = word_sized n small;
}

pub range_for : (inside : Bool) (a b : ℕ) → a < 2 ^ 32 → b < 2 ^ 32 → IsWordFor inside (decimal a ++ 45 ∷ decimal b) (token.Range a b)
range_for inside a b small also = record {
  part = part_join inside 45 (decimal a) (decimal b) (rw or-true) (part_of_decimal inside a small) (part_of_decimal inside b also);
  stands = grind (arith, range, dashed, writes_decimal);
  fit = grind (arith, word_sized);
}

-- What holds for each row of a table holds for what is found in it, and only brackets are spelled
-- with brackets.
use Rattle.std.proofs.Common.{◌≡◌, ℕ, List, [], ◌∷◌, refl, Bool, true, false, ◌&&◌, not, ◌==◌, cond, Option, Some, get_or, nat_lt, ◌<◌, ◌≤◌, count_by, length}
use Rattle.std.proofs.Common.{codes, arith, lit≤, suc, take, sym, ◌∙◌, Ok}
use Rattle.flt_words.proofs.Common.{eqb-true, TokenKind, has, keyword_of, fits, is_blank, starts_word, symbol_of, false≢true, within_word, symbol_meaning}
use Rattle.flt_words.proofs.Common.{word_meaning, Spells, keyword, known, and_parts, not-true, or_parts, ltb-true}
use Rattle.flt_words.specs.Spellings.{Spellings, look_up, keywords, symbols}
use Rattle.flt_words.specs.Tokens.{IsToken, IsWordPiece, PieceMeans}
use Rattle.std.{proofs.lemmas.Slice.Eq.bytes_eq-Decides, specs.List.list_all, specs.Str.bytes_eq}
use Rattle.flt_words.specs.declared.token.TokenKind.TheVariants as token

found_step : (p : List ℕ → TokenKind → Bool) (spelling : List ℕ) (found : TokenKind) (piece : List ℕ) (kind : TokenKind) (later : Option TokenKind)
    (same : Bool) → bytes_eq spelling piece ≡ same → p spelling found ≡ true
    → (later ≡ Some kind → p piece kind ≡ true) → ◌≡◌ {A = Option TokenKind} (cond same (Some found) later) (Some kind) → p piece kind ≡ true
found_step p spelling found piece kind later true same pass more is = search (arith, bytes_eq-Decides)
found_step p spelling found piece kind later false same pass more is = more is

pub found_passes : (p : List ℕ → TokenKind → Bool) (table : Spellings) (piece : List ℕ) (kind : TokenKind) → list_all (λ entry. p entry.0 entry.1)
    table ≡ true → look_up table piece ≡ Some kind → p piece kind ≡ true
found_passes p [] piece kind all found = absurd (cc)
found_passes p (entry ∷ table) piece kind all found =
    let parts = and_parts (p entry.0 entry.1) (list_all (λ e. p e.0 e.1) table) all in
    found_step p entry.0 entry.1 piece kind (look_up table piece) (bytes_eq entry.0 piece) refl parts.0 (found_passes p table piece kind parts.1) found

-- how many `[` and how many `]` a token has
abbrev pub openings : TokenKind → ℕ
openings token.OpenBracket = 1
openings _ = 0

abbrev pub closings : TokenKind → ℕ
closings token.CloseBracket = 1
closings _ = 0

keyword_test : List ℕ → TokenKind → Bool
keyword_test word kind = fits kind && (nat_lt 57 (get_or word 0 0) && (not (has 58 word) && (not (has 46 word) && (openings kind == 0 && closings kind == 0))))

all_keywords : list_all (λ entry. keyword_test entry.0 entry.1) keywords ≡ true
unfolding keyword_test keywords
all_keywords = refl

-- a keyword is a token, begins with a letter, has no colon or point, and is no bracket
pub record IsPlainWord (word : List ℕ) (kind : TokenKind) : Type 0 where
  pub fitting : fits kind ≡ true
  pub letter : nat_lt 57 (get_or word 0 0) ≡ true
  pub no_colon : has 58 word ≡ false
  pub no_point : has 46 word ≡ false
  pub no_opening : openings kind ≡ 0
  pub no_closing : closings kind ≡ 0

pub keyword_is_plain : (word : List ℕ) (kind : TokenKind) → keyword_of word ≡ Some kind → IsPlainWord word kind
unfolding keyword_test
keyword_is_plain word kind found =
    let fit = and_parts (fits kind) _ (found_passes keyword_test keywords word kind all_keywords found) in
    let letter = and_parts (nat_lt 57 (get_or word 0 0)) _ fit.1 in
    let colon = and_parts (not (has 58 word)) _ letter.1 in
    let point = and_parts (not (has 46 word)) _ colon.1 in
    let opened = and_parts (openings kind == 0) _ point.1 in
    record {
      fitting = fit.0;
      letter = letter.0;
      no_colon = not-true (has 58 word) colon.0;
      no_point = not-true (has 46 word) point.0;
      no_opening = eqb-true (openings kind) 0 opened.0;
      no_closing = eqb-true (closings kind) 0 opened.1;
    }

-- a symbol is one or two bytes, and begins as no word and no blank does
pub record HasBrackets (piece : List ℕ) (kind : TokenKind) : Type 0 where
  pub opened : count_by (λ b. b == 91) piece ≡ openings kind
  pub closed : count_by (λ b. b == 93) piece ≡ closings kind

pub record IsSymbolPiece (inside : Bool) (piece : List ℕ) (kind : TokenKind) : Type 0 where
  pub starts_none : starts_word inside (get_or piece 0 0) ≡ false
  pub no_blank : is_blank (get_or piece 0 0) ≡ false
  pub some : 0 < length piece
  pub upper_bound : length piece ≤ 2
  pub brackets : HasBrackets piece kind

symbol_test : List ℕ → TokenKind → Bool
symbol_test piece kind =
    not (starts_word false (get_or piece 0 0)) && (not (is_blank (get_or piece 0 0)) && (nat_lt 0 (length piece) && (nat_lt (length piece) 3
    && (count_by (λ b. b == 91) piece == openings kind && count_by (λ b. b == 93) piece == closings kind))))

all_symbols : list_all (λ entry. symbol_test entry.0 entry.1) symbols ≡ true
unfolding symbol_test symbols
all_symbols = refl

starts_none_inside : (inside : Bool) (b : ℕ) → starts_word false b ≡ false → starts_word inside b ≡ false
starts_none_inside true b other = search (arith, or_parts)
starts_none_inside false b other = other

in_table : (inside : Bool) (piece : List ℕ) (kind : TokenKind) → look_up symbols piece ≡ Some kind → IsSymbolPiece inside piece kind
unfolding symbol_test
in_table inside piece kind found =
    let first = get_or piece 0 0 in
    let starts = and_parts (not (starts_word false first)) _ (found_passes symbol_test symbols piece kind all_symbols found) in
    let blank = and_parts (not (is_blank first)) _ starts.1 in
    let some = and_parts (nat_lt 0 (length piece)) _ blank.1 in
    let few = and_parts (nat_lt (length piece) 3) _ some.1 in
    let opened = and_parts (count_by (λ b. b == 91) piece == openings kind) _ few.1 in
    let upper_bound = ltb-true (length piece) 3 few.0 in
    record {
      starts_none = starts_none_inside inside first (not-true (starts_word false first) starts.0);
      no_blank = not-true (is_blank first) blank.0;
      some = ltb-true 0 (length piece) some.0;
      upper_bound = omega arith;
      brackets = record { opened = eqb-true _ (openings kind) opened.0; closed = eqb-true _ (closings kind) opened.1 };
    }

-- what is true of the colon and of each symbol of the table is true of a symbol
pub symbol_passes : (P : Bool → List ℕ → TokenKind → Type 0) → P true (codes ":") token.Colon
    → ((inside : Bool) (piece : List ℕ) (kind : TokenKind) → look_up symbols piece ≡ Some kind → P inside piece kind)
    → (inside : Bool) (piece : List ℕ) (kind : TokenKind) → symbol_of inside piece ≡ Some kind → P inside piece kind
symbol_passes P colon table inside piece kind found = step inside (bytes_eq piece (codes ":")) refl found
  where
    step : (here same : Bool) → bytes_eq piece (codes ":") ≡ same → ◌≡◌ {A = Option TokenKind}
        (cond (here && same) (Some token.Colon) (look_up symbols piece)) (Some kind) → P here piece kind
    step true true e is = let same : token.Colon ≡ kind = cc in rw ((bytes_eq-Decides piece (codes ":")).0 e, ← same) colon
    step true false e is = table true piece kind is
    step false same e is = table false piece kind is

pub symbol_piece : (inside : Bool) (piece : List ℕ) (kind : TokenKind) → symbol_of inside piece ≡ Some kind → IsSymbolPiece inside piece kind
symbol_piece = symbol_passes IsSymbolPiece (record {
  starts_none = refl;
  no_blank = refl;
  some = lit≤ tt;
  upper_bound = lit≤ tt;
  brackets =
      record { opened = refl; closed = refl };
}) in_table

pub opens_none : (kind : TokenKind) → (kind ≡ token.OpenBracket → ⊥) → openings kind ≡ 0
opens_none token.OpenBracket other = absurd (other refl)
opens_none _ other = refl

pub closes_none : (kind : TokenKind) → (kind ≡ token.CloseBracket → ⊥) → closings kind ≡ 0
closes_none token.CloseBracket other = absurd (other refl)
closes_none _ other = refl

-- a word's bytes are no brackets
other_byte : (inside : Bool) (c b : ℕ) → within_word inside c ≡ false → within_word inside b ≡ true → (same : Bool) → (b == c) ≡ same → (b == c) ≡ false
other_byte inside c b lacks within false e = e
other_byte inside c b lacks within true e = search (arith, false≢true, eqb-true)

counts_none : (p : ℕ → Bool) (piece : List ℕ) → ((i : ℕ) → i < length piece → p (get_or piece i 0) ≡ false) → count_by p piece ≡ 0
counts_none p [] none = refl
counts_none p (b ∷ piece) none = rw (none 0 (omega arith), counts_none p piece (λ i h. none (suc i) (omega arith))) refl

no_bracket : (inside : Bool) → (within_word inside 91 ≡ false) × (within_word inside 93 ≡ false)
no_bracket true = (refl, refl)
no_bracket false = (refl, refl)

word_lacks : (inside : Bool) (piece : List ℕ) (c : ℕ) → within_word inside c ≡ false → IsWordPiece inside piece → count_by (λ b. b == c) piece ≡ 0
word_lacks inside piece c lacks w = search (arith, counts_none, other_byte)

-- a word means no bracket
stands_for_none : {word : List ℕ} {kind : TokenKind} → Spells word kind → (openings kind ≡ 0) × (closings kind ≡ 0)
stands_for_none {word} {kind} (keyword w) = let plain = keyword_is_plain word kind w in (plain.no_opening, plain.no_closing)
stands_for_none _ = (refl, refl)

piece_has : {inside : Bool} {place : ℕ} {piece : List ℕ} {kind : TokenKind} → PieceMeans inside place piece (Ok kind) → HasBrackets piece kind
piece_has {inside} {place} {piece} (word_meaning w (known stands fit)) =
    let none = stands_for_none stands in
    record {
      opened = word_lacks inside piece 91 (no_bracket inside).0 w ∙ sym none.0;
      closed = word_lacks inside piece 93 (no_bracket inside).1 w ∙ sym none.1;
    }
piece_has {inside} {place} {piece} {kind} (symbol_meaning found) = (symbol_piece inside piece kind found).brackets

pub token_has : {inside : Bool} {place n : ℕ} {rest : List ℕ} {kind : TokenKind} → IsToken inside place rest kind n → HasBrackets (take n rest) kind
token_has is = piece_has is.means

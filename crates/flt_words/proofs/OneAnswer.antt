-- A text has at most one list of tokens.
use Rattle.std.proofs.Common.{◌≡◌, ℕ, suc, zero, ◌+◌, ◌<◌, ◌≤◌, List, [], ◌∷◌, length, get_or, take, drop, refl, sym, ap, ◌∙◌, subst, arith, Bool, true, false}
use Rattle.std.proofs.Common.{Result, Ok, Err, Some, length-drop, length-take-le, get_or-drop, add-zero}
use Rattle.flt_words.proofs.Common.{false≢true, nat_tests, ExprFault, Token, TokenKind, is_blank, is_inside, starts_word, symbol_of, symbol, word, bad_piece}
use Rattle.flt_words.proofs.Common.{no_piece, symbol_meaning, word_meaning, at_end, blank, refused, token, Spells, WordMeans, fits, known, too_large, unknown}
use Rattle.flt_words.specs.Tokens.{IsLongest, IsPiece, IsRefused, IsToken, IsWordPiece, PieceMeans, Tokens, TokensFrom, before, Tokens.short, Tokens.too_long}
use Rattle.flt_words.proofs.{Pieces.longest_some, Pieces.taken, Pieces.word_some, OneKind.same_kind, Tables.symbol_piece}

fits_apart : {word : List ℕ} {a b : TokenKind} → Spells word a → Spells word b → fits a ≡ true → fits b ≡ false → ⊥
fits_apart v w fit no_fit = search (arith, false≢true, fits, same_kind)

same_word : {place : ℕ} {word : List ℕ} {a b : Result TokenKind ExprFault} → WordMeans place word a → WordMeans place word b → a ≡ b
same_word (known v f) (known w g) = ap Ok (same_kind v w)
same_word (known v f) (too_large w g) = absurd (fits_apart v w f g)
same_word (known v f) (unknown none) = absurd (none _ v)
same_word (too_large v f) (known w g) = absurd (fits_apart w v g f)
same_word (too_large v f) (too_large w g) = refl
same_word (too_large v f) (unknown none) = absurd (none _ v)
same_word (unknown none) (known w g) = absurd (none _ w)
same_word (unknown none) (too_large w g) = absurd (none _ w)
same_word (unknown none) (unknown other) = refl

no_symbol : {inside : Bool} {text : List ℕ} {kind : TokenKind} → IsWordPiece inside text → symbol_of inside text ≡ Some kind → ⊥
no_symbol {inside} {text} {kind} w found = search (arith, false≢true, symbol_piece)

same_means : {inside : Bool} {place : ℕ} {text : List ℕ} {a b : Result TokenKind ExprFault} → PieceMeans inside place text a → PieceMeans inside place
    text b → a ≡ b
same_means (word_meaning v m) (word_meaning w n) = same_word m n
same_means (word_meaning v m) (symbol_meaning found) = absurd (no_symbol v found)
same_means (symbol_meaning found) (word_meaning v m) = absurd (no_symbol v found)
same_means (symbol_meaning found) (symbol_meaning other) = cc

same_length : {inside : Bool} {rest : List ℕ} {m n : ℕ} → IsLongest inside rest m → IsLongest inside rest n → m ≡ n
same_length {inside} {rest} {m} {n} v w = omega (arith, v.longest n w.in_range w.piece, w.longest m v.in_range v.piece)

-- two readings of the front of a text
same_token : {inside : Bool} {place m n : ℕ} {rest : List ℕ} {a b : TokenKind} → IsToken inside place rest a m → IsToken inside place rest b n
    → (m ≡ n) × (a ≡ b)
same_token {inside} {place} {m} {n} {rest} {a} {b} v w = search (arith, same_length, same_means)

token_or_refused : {inside : Bool} {place n : ℕ} {rest : List ℕ} {a : TokenKind} {e : ExprFault} → IsToken inside place rest a n
    → IsRefused inside place rest e → ⊥
token_or_refused {inside} {place} {n} {rest} v (no_piece none) = none n v.longest.in_range v.longest.piece
token_or_refused {inside} {place} {n} {rest} v (bad_piece {n = m} {refusal} longest means) = search (arith, same_length, same_means)

same_refusal : {inside : Bool} {place : ℕ} {rest : List ℕ} {d e : ExprFault} → IsRefused inside place rest d → IsRefused inside place rest e → d ≡ e
same_refusal (no_piece none) (no_piece other) = refl
same_refusal (no_piece none) (bad_piece {n} longest means) = absurd (none n longest.in_range longest.piece)
same_refusal (bad_piece {n} longest means) (no_piece none) = absurd (none n longest.in_range longest.piece)
same_refusal {inside} {place} {rest} (bad_piece {refusal = d} longest means) (bad_piece {refusal = e} other_longest other_means) =
    search (arith, same_length, same_means)

-- a blank begins no token
blank_starts_none : (inside : Bool) (b : ℕ) → is_blank b ≡ true → starts_word inside b ≡ false
blank_starts_none inside b is = grind (arith, nat_tests)

piece_not_blank : (inside : Bool) (rest : List ℕ) (m : ℕ) → m ≤ length rest → IsPiece inside (take m rest) → is_blank (get_or rest 0 0) ≡ true → ⊥
piece_not_blank inside rest m within (word w) is = search (arith, taken, word_some, false≢true, blank_starts_none)
piece_not_blank inside rest m within (symbol {kind} found) is = search (arith, symbol_piece, length-take-le, false≢true, taken)

module _ (text : List ℕ) (at : ℕ) where
  first_is : get_or (drop at text) 0 0 ≡ get_or text at 0
  first_is = rw (get_or-drop, add-zero) refl

  token_not_blank : {n place : ℕ} {kind : TokenKind} → IsToken (is_inside (take at text)) place (drop at text) kind n → is_blank (get_or text at 0) ≡ true → ⊥
  token_not_blank {n} v is = piece_not_blank (is_inside (take at text)) (drop at text) n v.longest.in_range v.longest.piece (ap is_blank first_is ∙ is)

  token_within : {n place : ℕ} {kind : TokenKind} → IsToken (is_inside (take at text)) place (drop at text) kind n → at < length text
  token_within {n} v = omega (arith, v.longest.in_range, longest_some v.longest, length-drop at text)

blank_within : (text : List ℕ) (at : ℕ) → is_blank (get_or text at 0) ≡ true → at < length text
blank_within [] at is = absurd (false≢true is)
blank_within (b ∷ text) zero is = omega arith
blank_within (b ∷ text) (suc at) is = omega (arith, blank_within text at is)

same_rest : {text : List ℕ} {at : ℕ} {a b : Result (List Token) ExprFault} → TokensFrom text at a → TokensFrom text at b → a ≡ b
same_rest (at_end e) (at_end f) = refl
same_rest {text} {at} (at_end e) (blank is r) = absurd (omega (arith, blank_within text at is))
same_rest {text} {at} (at_end e) (token is r) = absurd (omega (arith, token_within text at is))
same_rest {text} {at} (at_end e) (refused within other is) = absurd (omega arith)
same_rest {text} {at} (blank is r) (at_end f) = absurd (omega (arith, blank_within text at is))
same_rest (blank is r) (blank is' s) = same_rest r s
same_rest {text} {at} (blank is r) (token is' s) = absurd (token_not_blank text at is' is)
same_rest (blank is r) (refused within other is') = absurd (false≢true (sym other ∙ is))
same_rest {text} {at} (token is r) (at_end f) = absurd (omega (arith, token_within text at is))
same_rest {text} {at} (token is r) (blank is' s) = absurd (token_not_blank text at is is')
same_rest {text} {at} (token {n} {kind} {answer} is r) (token {n = n'} {kind = kind'} {answer = answer'} is' s) =
    let same = same_token is is' in
    let rest : answer ≡ answer' = same_rest r (subst (λ k. TokensFrom text (at + k) answer') (sym same.0) s) in
    ap (λ k. before (record { kind = k; place = at + 1 }) answer) same.1 ∙ ap (before (record { kind = kind'; place = at + 1 })) rest
same_rest (token is r) (refused within other is') = absurd (token_or_refused is is')
same_rest {text} {at} (refused within other is) (at_end f) = absurd (omega arith)
same_rest (refused within other is) (blank is' s) = absurd (false≢true (sym other ∙ is'))
same_rest (refused within other is) (token is' s) = absurd (token_or_refused is' is)
same_rest (refused within other is) (refused within' other' is') = ap Err (same_refusal is is')

pub same_answer : {text : List ℕ} {a b : Result (List Token) ExprFault} → Tokens text a → Tokens text b → a ≡ b
same_answer (too_long l) (too_long m) = refl
same_answer (too_long l) (short m r) = absurd (omega arith)
same_answer (short l r) (too_long m) = absurd (omega arith)
same_answer (short l r) (short m s) = same_rest r s

-- The steps of cutting a text into tokens.
use Rattle.std.proofs.Common.{◌≡◌, ℕ, ◌+◌, ◌<◌, ◌≤◌, List, [], ◌∷◌, ◌++◌, length, get_or, take, drop, refl, sym, ap, arith, Bool, true, false, ◌==◌, ◌-◌}
use Rattle.std.proofs.Common.{count_by, nat_lt, Result, Ok, Err, subst}
use Rattle.flt_words.proofs.Common.{take-add, nat_tests, take_rest, ExprFault, Token, TokenKind, is_blank, is_inside, at_end, blank, refused, token}
use Rattle.flt_words.specs.Tokens.{IsRefused, IsToken, TokensFrom, before}
use Rattle.std.proofs.lemmas.List.{length-take, Sums.count_by-le-length, Sums.count_by_more_no, Sums.sum_by-append}

-- a result after tokens
abbrev pub after : List Token → Result (List Token) ExprFault → Result (List Token) ExprFault
after [] answer = answer
after (t ∷ tokens) answer = before t (after tokens answer)

pub after_push : (tokens : List Token) (t : Token) (answer : Result (List Token) ExprFault) → after (tokens ++ t ∷ []) answer ≡ after tokens (before t answer)
after_push [] t answer = refl
after_push (s ∷ tokens) t answer = ap (before s) (after_push tokens t answer)

pub after_none : (tokens : List Token) → after tokens (Ok []) ≡ Ok tokens
after_none [] = refl
after_none (t ∷ tokens) = ap (before t) (after_none tokens)

pub after_err : (tokens : List Token) (refusal : ExprFault) → after tokens (Err refusal) ≡ Err refusal
after_err [] refusal = refl
after_err (t ∷ tokens) refusal = ap (before t) (after_err tokens refusal)

-- the tokens up to a byte: whatever the remainder gives, the complete text gives it after them
pub record IsCut (text : List ℕ) (at : ℕ) (tokens : List Token) : Type 0 where
  pub whole : (answer : Result (List Token) ExprFault) → TokensFrom text at answer → TokensFrom text 0 (after tokens answer)

pub cut_none : (text : List ℕ) → IsCut text 0 []
cut_none text = record { whole = λ answer rest. rest }

pub cut_blank : {text : List ℕ} {at : ℕ} {tokens : List Token} → IsCut text at tokens → is_blank (get_or text at 0) ≡ true → IsCut text (at + 1) tokens
cut_blank cut is = record { whole = λ answer rest. cut.whole answer (blank is rest) }

pub cut_token : {text : List ℕ} {at n : ℕ} {tokens : List Token} {kind : TokenKind} → IsCut text at tokens → IsToken (is_inside (take at text))
    (at + 1) (drop at text) kind n → IsCut text (at + n) (tokens ++ record { kind = kind; place = at + 1 } ∷ [])
cut_token {text} {at} {n} {tokens} {kind} cut is = search (arith, after_push, token)

pub cut_end : {text : List ℕ} {at : ℕ} {tokens : List Token} → IsCut text at tokens → at ≡ length text → TokensFrom text 0 (Ok tokens)
cut_end {text} {at} {tokens} cut ended = subst (TokensFrom text 0) (after_none tokens) (cut.whole (Ok []) (at_end ended))

pub cut_refused : {text : List ℕ} {at : ℕ} {tokens : List Token} {refusal : ExprFault} → IsCut text at tokens → at < length text
    → is_blank (get_or text at 0) ≡ false → IsRefused (is_inside (take at text)) (at + 1) (drop at text) refusal → TokensFrom text 0 (Err refusal)
cut_refused {text} {at} {tokens} {refusal} cut within other is = subst (TokensFrom text 0) (after_err tokens refusal)
    (cut.whole (Err refusal) (refused within other is))

-- the bytes of a kind, up to a byte and then in a piece
pub counted_more : (p : ℕ → Bool) (text : List ℕ) (at n : ℕ) → count_by p (take (at + n) text) ≡ count_by p (take at text) + count_by p (take n (drop at text))
counted_more p text at n = search (arith, take-add, sum_by-append)

-- a blank is no bracket
blank_differs : (b c : ℕ) → is_blank b ≡ true → is_blank c ≡ false → (b == c) ≡ false
blank_differs b c is other = grind (arith, nat_tests)

pub blank_keeps : (c : ℕ) (text : List ℕ) (at : ℕ) → is_blank c ≡ false → at < length text → is_blank (get_or text at 0) ≡ true
    → count_by (λ b. b == c) (take (at + 1) text) ≡ count_by (λ b. b == c) (take at text)
blank_keeps c text at other within is = search (arith, count_by_more_no, blank_differs)

-- the counted brackets decide whether a byte is inside
pub inside_at : (P : Bool → List ℕ → Type 0) (text : List ℕ) (at opened closed : ℕ) → opened ≡ count_by (λ b. b == 91) (take at text)
    → closed ≡ count_by (λ b. b == 93) (take at text)
    → P (nat_lt closed opened) (take (length text - at) (drop at text)) → P (is_inside (take at text)) (drop at text)
inside_at P text at opened closed o c h = search (arith, take_rest)

pub counted_step : (p : ℕ → Bool) (text : List ℕ) (at n old more : ℕ) → old ≡ count_by p (take at text) → count_by p (take n (drop at text)) ≡ more
    → old + more ≡ count_by p (take (at + n) text)
counted_step p text at n old more o m = rw (o, ← m) (sym (counted_more p text at n))

pub counted_few : (p : ℕ → Bool) (text : List ℕ) (at n : ℕ) → n ≡ count_by p (take at text) → n ≤ at
counted_few p text at n e = search (arith, count_by-le-length, length-take)

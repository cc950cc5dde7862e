-- The text of tokens is cut into these tokens.
use Rattle.std.proofs.Common.{◌≡◌, ℕ, ◌<◌, ◌≤◌, ◌⊎◌, inr, List, [], ◌∷◌, ◌++◌, length, get_or, take, refl, Bool, true, false, ◌==◌, ◌&&◌, ◌||◌, not, Option}
use Rattle.std.proofs.Common.{None, Some, zero, drop, ◌+◌, count_by, nat_lt, codes, if◌then◌else◌, Ok, append_assoc, append-nil, length-append}
use Rattle.flt_explain.proofs.Common.{arith, nat_tests, list_all, TokenKind, suc, Token, Following, IsSpellable, or-true, Operator, lt-ltb}
use Rattle.flt_words.specs.Spellings.{look_up, symbol_of, symbols}
use Rattle.flt_words.proofs.Tables.{found_passes, symbol_piece, closings, openings, token_has}
use Rattle.flt_words.proofs.Pieces.{longest_one, longest_two}
use Rattle.flt_explain.specs.Texts.{fixed_spelling, gap, joins_next, joins_previous, next_after, spelling, tokens_text}
use Rattle.flt_explain.proofs.AddressTokens.{dotted_for, mac_for, ip6_for}
use Rattle.flt_explain.proofs.WordTokens.{word_token, IsWordFor, keyword_for, name_for, number_for, range_for}
use Rattle.flt_words.specs.Tokens.TokensFrom.{at_end, blank, token as one_more}
use Rattle.std.proofs.lemmas.List.{drop_at, get_or_at, take_at, Sums.sum_by-append}
use Rattle.flt_words.specs.{Tokens.IsToken, Tokens.TokensFrom, Tokens.PieceMeans.symbol_meaning, declared.token.Comparison.Comparison}
use Rattle.flt_words.specs.Characters.{within_word, is_inside}
use Rattle.{flt_lang.specs.Grammar.kinds_of, std.proofs.Math.Bool.and-false}
use Rattle.flt_words.specs.declared.token.TokenKind.TheVariants as token

-- what may follow a token after which there may be a gap: a blank, `)`, `[`, `]`, `/`, and `:`
-- inside brackets
abbrev pub is_end : Bool → ℕ → Bool
is_end inside c = c == 32 || (c == 41 || (c == 91 || (c == 93 || (c == 47 || (inside && c == 58)))))

pub data Ends (inside : Bool) : List ℕ → Type 0 where
  no_more : Ends inside []
  goes_on : {c : ℕ} {more : List ℕ} → is_end inside c ≡ true → Ends inside (c ∷ more)

-- no word continues there
not_within : (inside : Bool) (c : ℕ) → is_end inside c ≡ true → within_word inside c ≡ false
not_within inside c end = grind (arith, nat_tests)

pub word_ends : (inside : Bool) (more : List ℕ) → Ends inside more → 0 < length more → within_word inside (get_or more 0 0) ≡ false
word_ends inside more no_more some = grind arith
word_ends inside more (goes_on {c} end) some = not_within inside c end

-- the bytes with which no sign of two begins: `(`, `)`, `[`, `]`, `/` and `:`
abbrev pub is_alone : ℕ → Bool
is_alone b = b == 40 || (b == 41 || (b == 91 || (b == 93 || (b == 47 || b == 58))))

two_test : List ℕ → Bool
two_test piece = length piece == 1 || (not (is_end true (get_or piece 1 0)) && not (is_alone (get_or piece 0 0)))

all_two : list_all (λ entry. two_test entry.0) symbols ≡ true
unfolding two_test symbols
all_two = refl

end_inside : (inside : Bool) (c : ℕ) → is_end inside c ≡ true → is_end true c ≡ true
end_inside inside c end = grind (arith, nat_tests)

clash : (end alone : Bool) → end || alone ≡ true → not end && not alone ≡ true → ⊥
clash end alone either neither = grind arith

none_of : {A : Type 0} (o : Option A) → ((a : A) → o ≡ Some a → ⊥) → o ≡ None
none_of o never = grind arith

none_two : (b c : ℕ) → is_end true c || is_alone b ≡ true → look_up symbols (b ∷ c ∷ []) ≡ None
unfolding two_test
none_two b c either = none_of (look_up symbols (b ∷ c ∷ []))
    (λ kind found. clash (is_end true c) (is_alone b) either (found_passes (λ piece _. two_test piece) symbols (b ∷ c ∷ []) kind all_two found))

two_is : (inside : Bool) (b c : ℕ) → symbol_of inside (b ∷ c ∷ []) ≡ look_up symbols (b ∷ c ∷ [])
two_is inside b c = simp and-false

no_two : (inside : Bool) (b : ℕ) (more : List ℕ) → Ends inside more ⊎ (is_alone b ≡ true) → 2 ≤ length (b ∷ more) → symbol_of inside (take 2 (b ∷ more)) ≡ None
no_two inside b more stops long = grind (arith, two_is, none_two, or-true, end_inside)

-- a sign of one or two bytes
sign_at : (inside : Bool) (place : ℕ) (word more : List ℕ) (t : TokenKind) → symbol_of inside word ≡ Some t
    → Ends inside more ⊎ (is_alone (get_or word 0 0) ≡ true) → IsToken inside place (word ++ more) t (length word)
sign_at inside place [] more t is stops = grind (arith, symbol_piece)
sign_at inside place (b ∷ []) more t is stops =
    record { longest = longest_one (omega arith) (symbol_piece inside (b ∷ []) t is).starts_none (no_two inside b more stops) is; means = symbol_meaning is }
sign_at inside place (b ∷ c ∷ []) more t is stops = record {
  longest = longest_two (omega arith) (symbol_piece inside (b ∷ c ∷ []) t is).starts_none
      is;
  means = symbol_meaning is;
}
sign_at inside place (b ∷ c ∷ d ∷ word) more t is stops = grind (arith, symbol_piece)

abbrev pub is_sign : TokenKind → Bool
is_sign (token.Comparison c) = true
is_sign (token.Operator o) = true
is_sign token.Open = true
is_sign token.Close = true
is_sign token.OpenBracket = true
is_sign token.CloseBracket = true
is_sign _ = false

sign_found : (inside : Bool) (t : TokenKind) → is_sign t ≡ true → symbol_of inside (fixed_spelling t) ≡ Some t
unfolding symbols
sign_found inside t h = grind arith

pub sign_token : (t : TokenKind) (inside : Bool) (place : ℕ) (more : List ℕ) → is_sign t ≡ true
    → Ends inside more ⊎ (is_alone (get_or (fixed_spelling t) 0 0) ≡ true) → IsToken inside place (fixed_spelling t ++ more) t (length (fixed_spelling t))
sign_token t inside place more h stops = sign_at inside place (fixed_spelling t) more t (sign_found inside t h) stops

pub colon_token : (inside : Bool) (place : ℕ) (more : List ℕ) → inside ≡ true → IsToken inside place (58 ∷ more) token.Colon 1
colon_token inside place more is = sign_at inside place (58 ∷ []) more token.Colon (rw is) (inr refl)

-- how many brackets are open after a token
abbrev pub depth_after : ℕ → TokenKind → ℕ
depth_after d token.OpenBracket = suc d
depth_after zero token.CloseBracket = zero
depth_after (suc d) token.CloseBracket = d
depth_after d _ = d

-- the colon is a token inside brackets, and part of a word outside
abbrev pub IsAt : ℕ → TokenKind → Type 0
IsAt d token.Colon = 0 < d
IsAt d token.CloseBracket = 0 < d
IsAt d (token.Mac a) = d ≡ 0
IsAt d (token.Ip6 a) = d ≡ 0
IsAt d _ = Unit {0}

abbrev pub AreSpelled : ℕ → List TokenKind → Type 0
AreSpelled d [] = Unit {0}
AreSpelled d (t ∷ rest) = IsSpellable t × IsAt d t × AreSpelled (depth_after d t) rest

-- what follows a token that doesn't join the next one
before_next : (d : ℕ) (u : TokenKind) (us : List TokenKind) (following : Following) → IsAt d u
    → Ends (nat_lt 0 d) ((if joins_previous u then [] else codes " ") ++ tokens_text following (u ∷ us))
before_next d token.Colon us following at = goes_on (rw (lt-ltb 0 d at))
before_next d (token.Operator Operator.Divide) us following at = goes_on refl
before_next d _ us following at = goes_on refl

ends_of : (d : ℕ) (t : TokenKind) (rest : List TokenKind) (following : Following) → joins_next t ≡ false → AreSpelled d rest
    → Ends (nat_lt 0 d) (gap t rest ++ tokens_text following rest)
ends_of d t [] following h s = no_more
ends_of d t (u ∷ us) following h s = grind (arith, before_next)

word_here : (d place : ℕ) (word : List ℕ) (t : TokenKind) (rest : List TokenKind) (following : Following) → joins_next t ≡ false
    → IsWordFor (nat_lt 0 d) word t → AreSpelled d rest → IsToken (nat_lt 0 d) place (word ++ (gap t rest ++ tokens_text following rest)) t (length word)
word_here d place word t rest following h w s = word_token (nat_lt 0 d) place word (gap t rest ++ tokens_text following rest) t w.part w.stands w.fit
    (grind (arith, word_ends, ends_of))

-- a token is at its place
token_here : (t : TokenKind) (d place : ℕ) (following next : Following) (rest : List TokenKind) → IsSpellable t → IsAt d t
    → AreSpelled (depth_after d t) rest → IsToken (nat_lt 0 d) place (spelling following t ++ (gap t rest ++ tokens_text next rest)) t
    (length (spelling following t))
token_here token.Open d place following next rest w at s = sign_token token.Open (nat_lt 0 d) place _ refl (inr refl)
token_here token.Close d place following next rest w at s = sign_token token.Close (nat_lt 0 d) place _ refl (inr refl)
token_here token.OpenBracket d place following next rest w at s = sign_token token.OpenBracket (nat_lt 0 d) place _ refl (inr refl)
token_here token.CloseBracket d place following next rest w at s = sign_token token.CloseBracket (nat_lt 0 d) place _ refl (inr refl)
token_here (token.Operator Operator.Divide) d place following next rest w at s = sign_token (token.Operator Operator.Divide) (nat_lt 0 d) place _ refl
    (inr refl)
token_here (token.Operator o) d place following next rest w at s = sign_token (token.Operator o) (nat_lt 0 d) place _ refl
    (grind (arith, ends_of))
token_here (token.Comparison c) d place following next rest w at s = sign_token (token.Comparison c) (nat_lt 0 d) place _ refl
    (grind (arith, ends_of))
token_here token.Colon d place following next rest w at s = colon_token (nat_lt 0 d) place _ (lt-ltb 0 d at)
token_here (token.Number n) d place following next rest w at s = word_here d place _ _ rest next refl (number_for (nat_lt 0 d) n w) s
token_here (token.Name n) d place following next rest w at s = word_here d place _ _ rest next refl (name_for (nat_lt 0 d) following n w) s
token_here (token.Dotted a p) d place following next rest w at s = word_here d place _ _ rest next refl (dotted_for (nat_lt 0 d) a p w) s
token_here (token.Range a b) d place following next rest w at s = word_here d place _ _ rest next refl (range_for (nat_lt 0 d) a b w.0 w.1) s
token_here (token.Mac a) zero place following next rest w at s = word_here 0 place _ _ rest next refl (mac_for a w) s
token_here (token.Mac a) (suc d) place following next rest w at s = grind arith
token_here (token.Ip6 a) zero place following next rest w at s = word_here 0 place _ _ rest next refl (ip6_for a w) s
token_here (token.Ip6 a) (suc d) place following next rest w at s = grind arith
token_here t d place following next rest w at s = word_here d place _ t rest next refl (keyword_for (nat_lt 0 d) t refl) s

-- brackets
depth_is : (d : ℕ) (t : TokenKind) → IsAt d t → openings t + d ≡ closings t + depth_after d t
depth_is d t at = grind arith

inside_is : (opened closed d : ℕ) → opened ≡ closed + d → nat_lt closed opened ≡ nat_lt 0 d
inside_is opened closed d h = grind (arith, nat_tests)

gap_is : (t : TokenKind) (rest : List TokenKind) → (gap t rest ≡ []) ⊎ (gap t rest ≡ 32 ∷ [])
gap_is t rest = grind arith

gap_none : (c : ℕ) (g : List ℕ) → (g ≡ []) ⊎ (g ≡ 32 ∷ []) → (32 == c) ≡ false → count_by (λ b. b == c) g ≡ 0
gap_none c g which other = grind arith

counted : (c : ℕ) (front word g : List ℕ) → count_by (λ b. b == c) (front ++ (word ++ g)) ≡ count_by (λ b. b == c) front +
    (count_by (λ b. b == c) word + count_by (λ b. b == c) g)
counted c front word g = grind (arith, sum_by-append)

-- a gap is skipped
over_gap : (text front g tail : List ℕ) (tokens : List Token) → text ≡ front ++ (g ++ tail) → (g ≡ []) ⊎ (g ≡ 32 ∷ [])
    → TokensFrom text (length front + length g) (Ok tokens) → TokensFrom text (length front) (Ok tokens)
over_gap text front g tail tokens is which from = grind (arith, get_or_at, blank)

pub record LexesAs (text : List ℕ) (at : ℕ) (kinds : List TokenKind) : Type 0 where
  pub tokens : List Token
  pub are : TokensFrom text at (Ok tokens)
  pub same : kinds_of tokens ≡ kinds

pub lexes : (kinds : List TokenKind) (d : ℕ) (following : Following) (front : List ℕ) → count_by (λ b. b == 91) front ≡ count_by (λ b. b == 93) front
    + d → AreSpelled d kinds → LexesAs (front ++ tokens_text following kinds) (length front) kinds
lexes [] d following front counts s = grind (arith, at_end, append-nil)
lexes (t ∷ rest) d following front counts s =
    let word = spelling following t in
    let g = gap t rest in
    let next = next_after following t in
    let tail = tokens_text next rest in
    let text = front ++ (word ++ (g ++ tail)) in
    let which = gap_is t rest in
    let here = token_here t d (length front + 1) following next rest s.0 s.1 s.2 in
    let has = token_has here in
    let cut : take (length word) (word ++ (g ++ tail)) ≡ word = grind (arith, take_at) in
    let opened : count_by (λ b. b == 91) word ≡ openings t = grind arith in
    let closed : count_by (λ b. b == 93) word ≡ closings t = grind arith in
    let more : count_by (λ b. b == 91) (front ++ (word ++ g)) ≡ count_by (λ b. b == 93) (front ++ (word ++ g)) + depth_after d t =
    omega (
      arith,
      counted 91 front word g,
      counted 93 front word g,
      gap_none 91 g which refl,
      gap_none 93 g which refl,
      depth_is d t s.1,
      opened,
      closed,
      counts,
    ) in
    let later = lexes rest (depth_after d t) next (front ++ (word ++ g)) more s.2 in
    let whole : (front ++ (word ++ g)) ++ tail ≡ text = simp append_assoc in
    let long : length (front ++ (word ++ g)) ≡ length (front ++ word) + length g =
    grind (arith, length-append) in
    let after_gap : TokensFrom text (length (front ++ word) + length g) (Ok later.tokens) = grind arith in
    let split : text ≡ (front ++ word) ++ (g ++ tail) = grind (arith, append_assoc) in
    let after_word : TokensFrom text (length front + length word) (Ok later.tokens) = grind (arith, length-append, over_gap) in
    let inside : nat_lt 0 d ≡ is_inside (take (length front) text) = grind (arith, take_at, inside_is) in
    let left : word ++ (g ++ tail) ≡ drop (length front) text = grind (arith, drop_at) in
    let placed : IsToken (is_inside (take (length front) text)) (length front + 1) (drop (length front) text) t (length word) = grind arith in
    record {
      tokens = record { kind = t; place = length front + 1 } ∷ later.tokens;
      are = one_more {answer = Ok later.tokens} placed after_word;
      same = grind arith;
    }

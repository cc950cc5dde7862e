-- Each token of a text can be written.
use Rattle.std.proofs.Common.{◌≡◌, ℕ, ◌^◌, ◌<◌, List, refl, Bool, true, false, Result, Ok, Err}
use Rattle.flt_explain.proofs.Common.{arith, AllByRecursion, list_all, Token, TokenKind, IsDottedAddress, has_name, IsSpellable, ltb-true}
use Rattle.flt_words.specs.Words.Spells.{keyword, mac, ip6, number, dotted, range}
use Rattle.flt_words.proofs.Tables.{found_passes, symbol_passes}
use Rattle.flt_words.specs.Tokens.TokensFrom.{at_end, blank, refused, token as one_more}
use Rattle.flt_words.proofs.AddressValues.{dotted_below, ends_below, whole_below}
use Rattle.flt_words.specs.Addresses.{IsDotted, IsIp6, IsIp6.shortened, IsIp6.whole}
use Rattle.flt_words.specs.Tokens.{PieceMeans, Tokens, TokensFrom, before, PieceMeans.symbol_meaning, PieceMeans.word_meaning}
use Rattle.flt_words.specs.{Words.Spells, Words.fits, Words.WordMeans.known, Spellings.keywords, Spellings.symbols, declared.fault.ExprFault.ExprFault}
use Rattle.{flt_lang.specs.Grammar.kinds_of, std.proofs.lemmas.Bool.and_parts}
use Rattle.flt_words.specs.declared.token.TokenKind.TheVariants as token

-- a token of a table
table_test : TokenKind → Bool
table_test (token.Number n) = false
table_test (token.Name n) = has_name n
table_test (token.Dotted a p) = false
table_test (token.Range a b) = false
table_test (token.Mac a) = false
table_test (token.Ip6 a) = false
table_test _ = true

all_keywords : list_all (λ entry. table_test entry.1) keywords ≡ true
unfolding table_test keywords
all_keywords = refl

all_symbols : list_all (λ entry. table_test entry.1) symbols ≡ true
unfolding table_test symbols
all_symbols = refl

from_table : (kind : TokenKind) → table_test kind ≡ true → IsSpellable kind
unfolding table_test
from_table kind h = grind arith

-- addresses
dotted_small : {word : List ℕ} {a p : ℕ} → IsDotted word a p → IsDottedAddress a p
dotted_small d =
    let below = dotted_below d in
    grind arith

ip6_small : {word : List ℕ} {a : ℕ} → IsIp6 word a → a < 2 ^ 128
ip6_small (whole w) = omega (arith, whole_below w)
ip6_small (shortened ends) = ends_below ends

-- what a word means
stands_spellable : {word : List ℕ} {kind : TokenKind} → Spells word kind → fits kind ≡ true → IsSpellable kind
stands_spellable {word} {kind} (keyword found) fit = from_table kind (found_passes (λ _ k. table_test k) keywords word kind all_keywords found)
stands_spellable (number {n} w) fit = ltb-true n (2 ^ 32) fit
stands_spellable (dotted w) fit = dotted_small w
stands_spellable (range {first} {last} w) fit = grind (arith, and_parts, ltb-true)
stands_spellable (mac w) fit = omega (arith, whole_below w)
stands_spellable (ip6 w) fit = ip6_small w

piece_spellable : {inside : Bool} {place : ℕ} {piece : List ℕ} {kind : TokenKind} → PieceMeans inside place piece (Ok kind) → IsSpellable kind
piece_spellable (word_meaning w (known stands fit)) = stands_spellable stands fit
piece_spellable {inside} {place} {piece} {kind} (symbol_meaning found) =
    symbol_passes (λ _ _ k. IsSpellable k) tt (λ _ piece k is. from_table k (found_passes (λ _ k. table_test k) symbols piece k all_symbols is))
    inside piece kind found

-- and each token of a text
abbrev pub AllSpellable : Result (List Token) ExprFault → Type 0
AllSpellable (Ok tokens) = AllByRecursion IsSpellable (kinds_of tokens)
AllSpellable (Err refusal) = Unit {0}

spelled_before : (t : Token) (answer : Result (List Token) ExprFault) → IsSpellable t.kind → AllSpellable answer → AllSpellable (before t answer)
spelled_before t answer is all = grind arith

spelled_from : {text : List ℕ} {at : ℕ} {answer : Result (List Token) ExprFault} → TokensFrom text at answer → AllSpellable answer
spelled_from (at_end ended) = tt
spelled_from (blank is later) = spelled_from later
spelled_from (one_more {answer} is later) = grind (arith, spelled_before, piece_spellable, spelled_from later)
spelled_from (refused within other is) = tt

pub all_spellable : {text : List ℕ} {answer : Result (List Token) ExprFault} → Tokens text answer → AllSpellable answer
all_spellable h0 = grind (arith, spelled_from)

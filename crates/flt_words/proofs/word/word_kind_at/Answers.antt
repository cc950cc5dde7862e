-- A word that no reader accepts means nothing.
use Rattle.std.proofs.Common.{arith, ◌≡◌, ℕ, List, None}
use Rattle.flt_words.proofs.Common.{TokenKind, IsDotted, IsIp6, IsMac, IsNumber, IsRange, Spells, keyword, keyword_of, known, too_large, unknown}
use Rattle.flt_words.specs.Words.Spells.{number, dotted, range, mac, ip6}
use Rattle.flt_words.proofs.Tables.{keyword_is_plain}
use Rattle.flt_words.proofs.word.word_kind_at.Goals as goal

nothing : {word : List ℕ} → ((n : ℕ) → IsNumber word n → ⊥) → ((a parts : ℕ) → IsDotted word a parts → ⊥) → keyword_of word ≡ None
    → ((a : ℕ) → IsMac word a → ⊥)
    → ((a : ℕ) → IsIp6 word a → ⊥) → ((ends : ℕ × ℕ) → IsRange word ends.0 ends.1 → ⊥) → (kind : TokenKind) → Spells word kind → ⊥
nothing no_number no_dotted no_keyword no_mac no_ip6 no_range kind (keyword w) = cc
nothing no_number no_dotted no_keyword no_mac no_ip6 no_range kind (number w) = no_number _ w
nothing no_number no_dotted no_keyword no_mac no_ip6 no_range kind (dotted w) = no_dotted _ _ w
nothing no_number no_dotted no_keyword no_mac no_ip6 no_range kind (range {first} {last} w) = no_range (first, last) w
nothing no_number no_dotted no_keyword no_mac no_ip6 no_range kind (mac w) = no_mac _ w
nothing no_number no_dotted no_keyword no_mac no_ip6 no_range kind (ip6 w) = no_ip6 _ w

pub returns-in-Err-TooLarge : goal.returns-in-Err-TooLarge
returns-in-Err-TooLarge c = search (arith, too_large, number)

pub returns-in-Some-keyword_of : goal.returns-in-Some-keyword_of
returns-in-Some-keyword_of c = search (arith, known, keyword, keyword_is_plain)

pub returns-in-Err-TooLarge-parse_range : goal.returns-in-Err-TooLarge-parse_range
returns-in-Err-TooLarge-parse_range c = search (arith, too_large, range)

pub returns-in-Err-Unknown-parse_range : goal.returns-in-Err-Unknown-parse_range
returns-in-Err-Unknown-parse_range c = search (arith, unknown, nothing)

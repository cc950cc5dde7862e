-- A word means at most one token: its colons, points and dashes tell its kind.
use Rattle.std.proofs.Common.{◌≡◌, ℕ, ◌≤◌, List, [], ◌∷◌, ◌++◌, length, refl, ap, ◌∙◌, arith, Bool, true, false, ◌==◌, cond, lit<, lit≤, Some, ◌<◌, sym, nat_lt}
use Rattle.std.proofs.Common.{get_or, ◌+◌, ◌-◌, replicate}
use Rattle.flt_words.proofs.Common.{Group, TokenKind, AreGroups, IsDotted, IsGroup, IsIp6, IsMac, shortened, whole, has, IsNumber, IsRange, decimal, joined}
use Rattle.flt_words.proofs.Common.{keyword_of, Spells, known, keyword, nat_tests, AreIp6Ends, IsWholeIp6, group_values, WritesNumber}
use Rattle.flt_words.specs.Addresses.{separator_of, IsWholeAddress}
use Rattle.flt_words.specs.Numbers.IsNumber.{octal, hexadecimal, capital_hexadecimal}
use Rattle.flt_words.specs.Words.Spells.{number, dotted, range, mac, ip6}
use Rattle.flt_words.proofs.DoubleColons.{double_between, ends_from_ip6, no_double_colon, none_before_first}
use Rattle.flt_words.proofs.Numbers.{decimal_lacks, digits_lack, same, same_number, same_range}
use Rattle.flt_words.proofs.{AddressValues.same_groups, Tables.keyword_is_plain}
use Rattle.std.specs.{List.AllByRecursion, List.join_with_byte, Int.Digits.number_from_digits, Char.digit_value, Str.Parse.AllDigits}
use Rattle.std.proofs.{Math.Bool.or-true, lemmas.List.Folds.list_any-append, lemmas.Str.Parse.digit_from_value}
use Rattle.flt_words.specs.declared.address.Group.TheVariants as group
use Rattle.flt_words.specs.declared.token.TokenKind.TheVariants as token

digits_of_more : (radix : ℕ) (digits : List ℕ) → radix ≤ 36 → AllDigits radix digits → AllDigits 36 digits
digits_of_more radix [] few all = tt
digits_of_more radix (d ∷ digits) few all = (omega (arith, all.0), digits_of_more radix digits few all.1)

-- the digits of a number are letters and digits, the x among them too
number_digits : {word : List ℕ} {n : ℕ} → IsNumber word n → AllDigits 36 word
number_digits (decimal {word} w) = digits_of_more 10 word (lit≤ tt) w.writes.numeral.1
number_digits (octal {digits} w) = (lit< tt, digits_of_more 8 digits (lit≤ tt) w.numeral.1)
number_digits (hexadecimal {digits} w) = search (arith, digits_of_more)
number_digits (capital_hexadecimal {digits} w) = search (arith, digits_of_more)

number_lacks : {word : List ℕ} {n : ℕ} (c : ℕ) → 36 ≤ digit_value c → IsNumber word n → has c word ≡ false
number_lacks {word} c sign w = digits_lack c 36 word sign (number_digits w)

lacks_more : (b c : ℕ) (text : List ℕ) → (b == c) ≡ false → has c text ≡ false → has c (b ∷ text) ≡ false
lacks_more b c text other lacks = rw (other, lacks) refl

lacks_append : (c : ℕ) (front back : List ℕ) → has c front ≡ false → has c back ≡ false → has c (front ++ back) ≡ false
lacks_append c front back v w = search (arith, list_any-append)

has_append : (c : ℕ) (front back : List ℕ) → has c back ≡ true → has c (front ++ back) ≡ true
has_append c front back w = search (arith, list_any-append, or-true)

range_lacks : {word : List ℕ} {first last : ℕ} (c : ℕ) → 36 ≤ digit_value c → (45 == c) ≡ false → IsRange word first last → has c word ≡ false
range_lacks c sign other (joined {front} {back} v w) =
    lacks_append c front (45 ∷ back) (decimal_lacks c (omega arith) v) (lacks_more 45 c back other (decimal_lacks c (omega arith) w))

has_first : (c : ℕ) (text : List ℕ) → has c (c ∷ text) ≡ true
has_first c text = rw (same c) refl

range_has : {word : List ℕ} {first last : ℕ} → IsRange word first last → has 45 word ≡ true
range_has (joined {front} {back} v w) = has_append 45 front (45 ∷ back) (has_first 45 back)

joined_lacks : (c : ℕ) (groups : List (List ℕ)) → 36 ≤ digit_value c → (46 == c) ≡ false → AllByRecursion (IsGroup group.Octet) groups
    → has c (join_with_byte 46 groups) ≡ false
joined_lacks c [] sign other each = refl
joined_lacks c (g ∷ []) sign other each = decimal_lacks c (omega arith) each.0.1
joined_lacks c (g ∷ h ∷ groups) sign other each =
    lacks_append c g (46 ∷ join_with_byte 46 (h ∷ groups)) (decimal_lacks c (omega arith) each.0.1)
    (lacks_more 46 c (join_with_byte 46 (h ∷ groups)) other (joined_lacks c (h ∷ groups) sign other each.1))

joined_has : (c : ℕ) (groups : List (List ℕ)) → 2 ≤ length groups → has c (join_with_byte c groups) ≡ true
joined_has c [] two = absurd (omega arith)
joined_has c (g ∷ []) two = absurd (omega arith)
joined_has c (g ∷ h ∷ groups) two = search (arith, has_append, join_with_byte, has_first)

groups_have : {form : Group} {text : List ℕ} {groups : List (List ℕ)} → AreGroups form text groups → 2 ≤ length groups → has (separator_of form) text ≡ true
groups_have {form} {text} {groups} are two = search (arith, joined_has)

dotted_lacks : {word : List ℕ} {address parts : ℕ} (c : ℕ) → 36 ≤ digit_value c → (46 == c) ≡ false → IsDotted word address parts → has c word ≡ false
dotted_lacks c sign other d = search (arith, joined_lacks)

ip6_has : {word : List ℕ} {address : ℕ} → IsIp6 word address → has 58 word ≡ true
ip6_has (whole w) = groups_have w.are (omega (arith, w.all))
ip6_has (shortened {front} {back} ends) = search (arith, has_append, has_first)

-- the greatest of the signs that a word has
abbrev pub sign_of : List ℕ → ℕ
sign_of word = cond (has 58 word) 3 (cond (has 46 word) 2 (cond (has 45 word) 1 0))

unfoldable pub kind_sign : {word : List ℕ} {kind : TokenKind} → Spells word kind → ℕ
kind_sign (keyword {word} w) = cond (has 45 word) 1 0
kind_sign (number w) = 0
kind_sign (range w) = 1
kind_sign (dotted w) = 2
kind_sign (mac w) = 3
kind_sign (ip6 w) = 3

-- which is that of its kind
pub sign_is : {word : List ℕ} {kind : TokenKind} (s : Spells word kind) → sign_of word ≡ kind_sign s
unfolding kind_sign
sign_is {word} {kind} (keyword w) = let plain = keyword_is_plain word kind w in rw (plain.no_colon, plain.no_point) refl
sign_is (number w) = search (arith, number_lacks)
sign_is (range w) = search (arith, range_lacks, range_has)
sign_is (dotted w) = rw (dotted_lacks 58 (lit≤ tt) refl w, groups_have w.are w.at_least_two) refl
sign_is (mac w) = rw (groups_have w.are (omega (arith, w.all))) refl
sign_is (ip6 w) = rw (ip6_has w) refl

-- a keyword has a dash at most
at_most_one : (b : Bool) → cond b 1 0 ≤ 1
at_most_one true = lit≤ tt
at_most_one false = lit≤ tt

pub keyword_low : (word : List ℕ) (kind : TokenKind) → keyword_of word ≡ Some kind → sign_of word ≤ 1
unfolding kind_sign
keyword_low word kind w = omega (arith, sign_is (keyword w), at_most_one (has 45 word))

-- two readings of one kind
same_dotted : {word : List ℕ} {a b m n : ℕ} → IsDotted word a m → IsDotted word b n → (a ≡ b) × (m ≡ n)
same_dotted v w =
    let same = same_groups v.are w.are in (
      v.value ∙ ap (λ gs. number_from_digits 256 (group_values group.Octet gs ++ replicate (4 - length gs) 0)) same ∙ sym w.value,
      v.count
          ∙ ap length same ∙ sym w.count,
    )

same_whole : {form : Group} {base many a b : ℕ} {word : List ℕ} → IsWholeAddress form base many word a → IsWholeAddress form base many word b → a ≡ b
same_whole {form} {base} v w = search (arith, same_groups)

same_ends : {front back : List ℕ} {a b : ℕ} → AreIp6Ends front back a → AreIp6Ends front back b → a ≡ b
same_ends {front} {back} {a} {b} v w =
    let first = same_groups v.are_first w.are_first in
    let last = same_groups v.are_last w.are_last in
    let value : List (List ℕ) → List (List ℕ) → ℕ = λ fs ls. number_from_digits 65536
    (group_values group.Quad fs ++ (replicate (8 - (length fs + length ls)) 0 ++ group_values group.Quad ls)) in
    v.value ∙ ap (λ fs. value fs v.last) first ∙ ap (λ ls. value w.first ls) last ∙ sym w.value

no_whole_has_ends : {front back : List ℕ} {a b : ℕ} → IsWholeIp6 (front ++ 58 ∷ 58 ∷ back) a → AreIp6Ends front back b → ⊥
no_whole_has_ends {front} {back} v w = no_double_colon (length front) v.are (double_between front back)

same_ip6 : {word : List ℕ} {a b : ℕ} → IsIp6 word a → IsIp6 word b → a ≡ b
same_ip6 (whole v) (whole w) = same_whole v w
same_ip6 (whole v) (shortened w) = absurd (no_whole_has_ends v w)
same_ip6 (shortened {front} {back} v) w =
    let double = double_between front back in
    let first = none_before_first back v.are_first in
    same_ends (ends_from_ip6 (length front) double first (shortened v)) (ends_from_ip6 (length front) double first w)

bytes_are_quads : (groups : List (List ℕ)) → AllByRecursion (IsGroup group.Byte) groups → AllByRecursion (IsGroup group.Quad) groups
bytes_are_quads [] each = tt
bytes_are_quads (g ∷ groups) each = search (arith, (bytes_are_quads groups each.1))

six_are_no_ip6 : {word : List ℕ} {groups : List (List ℕ)} {b : ℕ} → AreGroups group.Quad word groups → length groups ≡ 6 → IsIp6 word b → ⊥
six_are_no_ip6 are six (whole w) = let same = ap length (same_groups are w.are) in omega (arith, w.all)
six_are_no_ip6 are six (shortened {front} {back} w) = no_double_colon (length front) are (double_between front back)

no_mac_is_ip6 : {word : List ℕ} {a b : ℕ} → IsMac word a → IsIp6 word b → ⊥
no_mac_is_ip6 v w = search (arith, six_are_no_ip6, joined, bytes_are_quads)

decimal_first : (digits : List ℕ) {n : ℕ} → WritesNumber 10 digits n → get_or digits 0 0 < 58
decimal_first [] w = absurd (omega (arith, w.numeral.0))
decimal_first (d ∷ digits) w = search (arith, digit_from_value)

number_first : {word : List ℕ} {n : ℕ} → IsNumber word n → get_or word 0 0 < 58
number_first {word} (decimal w) = decimal_first word w.writes
number_first (octal w) = lit< tt
number_first _ = lit< tt

range_first : {word : List ℕ} {first last : ℕ} → IsRange word first last → get_or word 0 0 < 58
range_first (joined {front = []} v w) = absurd (omega (arith, v.writes.numeral.0))
range_first (joined {front = d ∷ front} v w) = decimal_first (d ∷ front) v.writes

letter_is_no_digit : (b : ℕ) → nat_lt 57 b ≡ true → b < 58 → ⊥
letter_is_no_digit b letter digit = grind (arith, nat_tests)

no_keyword_is_number : {word : List ℕ} {kind : TokenKind} {n : ℕ} → keyword_of word ≡ Some kind → IsNumber word n → ⊥
no_keyword_is_number {word} {kind} v w = letter_is_no_digit (get_or word 0 0) (keyword_is_plain word kind v).letter (number_first w)

no_keyword_is_range : {word : List ℕ} {kind : TokenKind} {first last : ℕ} → keyword_of word ≡ Some kind → IsRange word first last → ⊥
no_keyword_is_range {word} {kind} v w = letter_is_no_digit (get_or word 0 0) (keyword_is_plain word kind v).letter (range_first w)

pub same_kind : {word : List ℕ} {a b : TokenKind} → Spells word a → Spells word b → a ≡ b
unfolding kind_sign
same_kind (keyword v) (keyword w) = cc
same_kind (keyword v) (number w) = absurd (no_keyword_is_number v w)
same_kind (number v) (keyword w) = absurd (no_keyword_is_number w v)
same_kind (keyword v) (range w) = absurd (no_keyword_is_range v w)
same_kind (range v) (keyword w) = absurd (no_keyword_is_range w v)
same_kind {word} {a} {b} (keyword v) w = absurd (omega (arith, keyword_low word a v, sign_is w))
same_kind {word} {a} {b} v (keyword w) = absurd (omega (arith, sign_is v, keyword_low word b w))
same_kind (number v) (number w) = ap token.Number (same_number v w)
same_kind (dotted v) (dotted w) = let same = same_dotted v w in rw (same.0, same.1) refl
same_kind (range v) (range w) = let same = same_range v w in rw (same.0, same.1) refl
same_kind (mac v) (mac w) = ap token.Mac (same_whole v w)
same_kind (mac v) (ip6 w) = absurd (no_mac_is_ip6 v w)
same_kind (ip6 v) (mac w) = absurd (no_mac_is_ip6 w v)
same_kind (ip6 v) (ip6 w) = ap token.Ip6 (same_ip6 v w)
same_kind v w = absurd (omega (arith, sign_is v, sign_is w))

-- what a reader of words finds
pub ruleset meanings = (known, number, dotted, range, mac, ip6)

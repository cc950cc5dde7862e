-- Numbers and ranges in words, and where a byte cuts a word.
use Rattle.std.proofs.Common.{◌≡◌, ◌≢◌, ℕ, ◌+◌, ◌<◌, ◌≤◌, List, [], ◌∷◌, ◌++◌, length, get_or, take, drop, refl, arith, Bool, true, false, ◌==◌, cond, nat_lt}
use Rattle.std.proofs.Common.{Option, Some, None, subst, ◌^◌, ◌⊎◌, ◌||◌, sym, lit≤, ◌∙◌}
use Rattle.flt_words.proofs.Common.{nat_tests, has, WritesNumber, is_word_sized, IsNumber, WritesDecimal, decimal, IsRange, joined, or_parts}
use Rattle.flt_words.specs.Numbers.IsNumber.{octal, hexadecimal, capital_hexadecimal}
use Rattle.std.proofs.Math.Seq.{take-append_seam, drop-append-add}
use Rattle.std.proofs.lemmas.List.{Sums.passes_at_first, Sums.split_at_first, length-append}
use Rattle.std.specs.{Str.Parse.AllDigits, Str.Parse.digits_value, Char.digit_value, List.position, List.position_or_len}
use Rattle.cap_octet.{specs.Digits.are_digits, proofs.Numerals.digits_from_test, proofs.Numerals.digits_pass}

pub same : (c : ℕ) → (c == c) ≡ true
same c = grind (arith, nat_tests)

pub differs : (b c : ℕ) → b ≢ c → (b == c) ≡ false
differs b c ne = grind (arith, nat_tests)

first_after : (c : ℕ) (front back : List ℕ) → has c front ≡ false → position_or_len (λ b. b == c) (front ++ c ∷ back) ≡ length front
first_after c [] back lacks = rw (same c) refl
first_after c (b ∷ front) back lacks = search (arith, or_parts, has, (first_after c front back (or_parts (b == c) (has c front) lacks).1))

pub digit_differs : (c radix d : ℕ) → radix ≤ digit_value c → digit_value d < radix → (d == c) ≡ false
digit_differs c radix d high low = search (arith, differs)

pub digits_lack : (c radix : ℕ) (digits : List ℕ) → radix ≤ digit_value c → AllDigits radix digits → has c digits ≡ false
digits_lack c radix [] high all = refl
digits_lack c radix (d ∷ digits) high all = rw (digit_differs c radix d high all.0) (digits_lack c radix digits high all.1)

ltb_is : (m n : ℕ) → m < n → nat_lt m n ≡ true
ltb_is m n h = grind (arith, nat_tests)

-- a separator that the front lacks is found after it
pub cut_at : (c : ℕ) (front back : List ℕ) → has c front ≡ false → position (λ b. b == c) (front ++ c ∷ back) ≡ Some (length front)
cut_at c front back lacks = search (arith, ltb_is, length-append, first_after)

found_within : (m n i : ℕ) (b : Bool) → nat_lt m n ≡ b → ◌≡◌ {A = Option ℕ} (cond b (Some m) None) (Some i) → (m < n) × (m ≡ i)
found_within m n i true test found = (grind (arith, nat_tests), cc)
found_within m n i false test found = absurd (cc)

equals : (b c : ℕ) → (b == c) ≡ true → b ≡ c
equals b c h = grind (arith, nat_tests)

-- and where one is found, the word is its front, the separator and the rest
pub joined_at : (c i : ℕ) (word : List ℕ) → position (λ b. b == c) word ≡ Some i → word ≡ take i word ++ c ∷ drop (i + 1) word
joined_at c i word found =
    let first = position_or_len (λ b. b == c) word in
    let at = found_within first (length word) i (nat_lt first (length word)) refl found in
    let is : get_or word first 0 ≡ c = equals (get_or word first 0) c (passes_at_first (λ b. b == c) word 0 at.0) in
    let cut : word ≡ take first word ++ get_or word first 0 ∷ drop (first + 1) word = split_at_first (λ b. b == c) word 0 at.0 in
    let P : ℕ → ℕ → Type 0 = λ b j. word ≡ take j word ++ b ∷ drop (j + 1) word in
    subst (λ j. P c j) at.1 (subst (λ b. P b first) is cut)

-- the tests on digits
pub writes_pass : {radix n : ℕ} {ds : List ℕ} → WritesNumber radix ds n → are_digits radix ds ≡ true
writes_pass {radix} {n} {ds} w = digits_pass radix ds w.numeral.1

pub fits : (n : ℕ) → n < 2 ^ 32 → is_word_sized n ≡ true
fits n h = grind (arith, nat_tests)

pub does_not_fit : (n : ℕ) → 2 ^ 32 ≤ n → is_word_sized n ≡ false
does_not_fit n h = grind (arith, nat_tests)

pub some_from_test : (n : ℕ) → 0 < n → (n == 0) ≡ true → ⊥
some_from_test n some empty = grind (arith, nat_tests)

pub some_unless_test : (n : ℕ) → (n == 0) ≡ false → 0 < n
some_unless_test n empty = grind (arith, nat_tests)

pub writes_from_tests : (radix : ℕ) (ds : List ℕ) → (length ds == 0) ≡ false → are_digits radix ds ≡ true → WritesNumber radix ds (digits_value radix ds)
writes_from_tests radix ds some pass = search (arith, some_unless_test, digits_from_test)

-- the front of a word
pub only_decimal : {word : List ℕ} {n : ℕ} → (length word < 2) ⊎ (get_or word 0 0 ≢ 48) → IsNumber word n → WritesDecimal word n
only_decimal either (decimal w) = w
only_decimal either (octal w) = search arith
only_decimal either (hexadecimal w) = search arith
only_decimal either (capital_hexadecimal w) = search arith

pub not_alone : {a b n : ℕ} {digits : List ℕ} → a ≡ 48 → WritesDecimal (a ∷ b ∷ digits) n → ⊥
not_alone {a} {b} {n} {digits} zero w = search arith

-- the radix that the prefix of a word means, and the digits after it
abbrev pub form_of : List ℕ → ℕ × List ℕ
form_of (a ∷ b ∷ digits) = cond (a == 48) (cond (b == 120 || b == 88) (16, digits) (8, b ∷ digits)) (10, a ∷ b ∷ digits)
form_of word = (10, word)

pub written : {word : List ℕ} {n : ℕ} → IsNumber word n → WritesNumber (form_of word).0 (form_of word).1 n
written (decimal {word = []} w) = w.writes
written (decimal {word = a ∷ []} w) = w.writes
written (decimal {word = a ∷ b ∷ digits} w) = rw (differs a 48 (λ zero. not_alone zero w)) w.writes
written (octal {digits = []} w) = absurd (omega (arith, w.numeral.0))
written (octal {digits = b ∷ digits} w) = search (arith, digit_differs)
written (hexadecimal w) = w
written (capital_hexadecimal w) = w

-- a word that is longer than its front
pub hexadecimal_by_front : (word : List ℕ) → 2 ≤ length word → get_or word 0 0 ≡ 48 → (get_or word 1 0 ≡ 120) ⊎ (get_or word 1 0 ≡ 88) → (n : ℕ)
    → (WritesNumber 16 (drop 2 word) n → IsNumber word n) × (IsNumber word n → WritesNumber 16 (drop 2 word) n)
hexadecimal_by_front [] long zero x n = absurd (omega arith)
hexadecimal_by_front (a ∷ []) long zero x n = absurd (omega arith)
hexadecimal_by_front (a ∷ b ∷ digits) long zero x n = search (arith, hexadecimal, capital_hexadecimal, written)

pub octal_by_front : (word : List ℕ) → 2 ≤ length word → get_or word 0 0 ≡ 48 → get_or word 1 0 ≢ 120 → get_or word 1 0 ≢ 88 → (n : ℕ)
    → (WritesNumber 8 (drop 1 word) n → IsNumber word n) × (IsNumber word n → WritesNumber 8 (drop 1 word) n)
octal_by_front [] long zero x y n = absurd (omega arith)
octal_by_front (a ∷ []) long zero x y n = absurd (omega arith)
octal_by_front (a ∷ b ∷ digits) long zero x y n = search (arith, octal, differs, written)

-- a range is cut at its first dash
pub decimal_lacks : {digits : List ℕ} {n : ℕ} (c : ℕ) → 10 ≤ digit_value c → WritesDecimal digits n → has c digits ≡ false
decimal_lacks {digits} c high w = digits_lack c 10 digits high w.writes.numeral.1

pub range_lacks_none : {word : List ℕ} {first last : ℕ} → position (λ b. b == 45) word ≡ None → IsRange word first last → ⊥
range_lacks_none none (joined {front} {back} v w) =
    let at = cut_at 45 front back (decimal_lacks 45 (lit≤ tt) v) in cc

pub range_parts : {word : List ℕ} {first last : ℕ} (dash : ℕ) → position (λ b. b == 45) word ≡ Some dash → IsRange word first last
    → WritesDecimal (take dash word) first × WritesDecimal (drop (dash + 1) word) last
range_parts {word} {first} {last} dash found (joined {front} {back} v w) =
    let at = cut_at 45 front back (decimal_lacks 45 (lit≤ tt) v) in
    let same : length front ≡ dash = cc in (
      subst (λ d. WritesDecimal (take d (front ++ 45 ∷ back)) first) same (rw take-append_seam v),
      subst (λ d. WritesDecimal (drop (d + 1) (front ++ 45 ∷ back)) last) same (rw drop-append-add w),
    )

pub range_from_parts : {word : List ℕ} {first last : ℕ} (dash : ℕ) → position (λ b. b == 45) word ≡ Some dash → WritesDecimal (take dash word) first
    × WritesDecimal (drop (dash + 1) word) last → IsRange word first last
range_from_parts {word} {first} {last} dash found parts = subst (λ w. IsRange w first last) (sym (joined_at 45 dash word found)) (joined parts.0 parts.1)

-- a word writes one number at most, and one range
pub same_decimal : {m n : ℕ} {digits : List ℕ} → WritesDecimal digits m → WritesDecimal digits n → m ≡ n
same_decimal v w = sym v.writes.value ∙ w.writes.value

pub same_number : {word : List ℕ} {m n : ℕ} → IsNumber word m → IsNumber word n → m ≡ n
same_number v w = sym (written v).value ∙ (written w).value

pub same_range : {word : List ℕ} {first last other_first other_last : ℕ} → IsRange word first last → IsRange word other_first other_last
    → (first ≡ other_first) × (last ≡ other_last)
same_range {word} {first} {last} {other_first} {other_last} (joined {front} {back} v w) x =
    let at = cut_at 45 front back (decimal_lacks 45 (lit≤ tt) v) in
    let mine = range_parts (length front) at (joined v w) in
    let other = range_parts (length front) at x in
    (same_decimal mine.0 other.0, same_decimal mine.1 other.1)

-- The range that is read from a word is the one that the word writes.
use Rattle.capkit.proofs.Common.{◌≡◌, ◌∙◌, ◌++◌, ap, arith, refl, subst, sym, ℕ, Bool, true, false, List, ◌∷◌, Option, Some, None, IfNone, if◌then◌else◌}
use Rattle.capkit.proofs.Common.{list_all, list_any, and_from, and_parts, lt-ltb, is_range, range_of}
use Rattle.std.proofs.lemmas.Str.Parse.{IsNumeralModel, not_in_digits, numerals_by_value}
use Rattle.capkit.specs.Range.{is_decimal, is_hyphen, range_number, range_between, sides_of}
use Rattle.capkit.proofs.Numbers.{any_by_place, test}
use Rattle.clap.proofs.CutLemmas.{Lacks, after_first-at, before_first-at, list_any-Lacks, list_any-at}
use Rattle.capkit.specs.inside.Range.{WritesNumbers, WritesRange, one, two}
use Rattle.std.specs.{Str.Parse.IsNumeral, Str.Parse.digits_value, Char.is_ascii_digit, List.after_first, List.before_first}
use Rattle.std.proofs.lemmas.{Bool.cond-true, Bool.eqb-true, Bool.ltb-true, List.Sums.passes_at_first, List.Sums.split_at_first}

-- ---- numbers

model : IsNumeralModel (λ ds. list_all is_ascii_digit ds ≡ true) (digits_value 10)
model = numerals_by_value _ test

decimal : (digits : List ℕ) → IsNumeral 10 digits → is_decimal digits ≡ true
decimal digits h = and_from _ _ (lt-ltb 0 _ h.0) (model.from digits h.1)

number_is : (digits : List ℕ) → IsNumeral 10 digits → range_number digits ≡ Some (digits_value 10 digits)
number_is digits h = cond-true _ _ None (decimal digits h)

only_number : (text : List ℕ) (n : ℕ) → range_number text ≡ Some n → IsNumeral 10 text × (digits_value 10 text ≡ n)
only_number text n same = go _ refl same
  where
    go : (b : Bool) → is_decimal text ≡ b → (if b then Some (digits_value 10 text) else None) ≡ Some n → IsNumeral 10 text × (digits_value 10 text ≡ n)
    go true is found =
        let parts = and_parts _ _ is in
        let value : digits_value 10 text ≡ n = cc in
        ((ltb-true 0 _ parts.0, model.to text parts.1), value)
    go false is found = cc

no_hyphen : (digits : List ℕ) → IsNumeral 10 digits → Lacks 45 digits
no_hyphen digits h i lt = grind (arith, not_in_digits, model)

-- ---- what a word writes is read

read_between : (a b : Option ℕ) (range : ℕ × ℕ) → a ≡ Some range.0 → b ≡ Some range.1 → is_range range.0 range.1 ≡ true → range_between a b ≡ Some range
read_between a b range first last proper = rw (first, last, proper) refl

sides_read : (word : List ℕ) (range : ℕ × ℕ) → WritesNumbers word range
    → (range_number (sides_of word).0 ≡ Some range.0) × (range_number (sides_of word).1 ≡ Some range.1)
sides_read word range (one digits h) =
    let none = list_any-Lacks 45 digits (no_hyphen digits h) in
    rw none (number_is digits h, number_is digits h)
sides_read word range (two first last h k) =
    let lacks = no_hyphen first h in
    let some = list_any-at 45 first last in
    rw (some, before_first-at, after_first-at) (number_is first h, number_is last k)

pub written_is_read : (word : List ℕ) (range : ℕ × ℕ) → WritesRange word range → range_of word ≡ Some range
written_is_read word range writes = grind (arith, sides_read, read_between)

-- ---- what is read, a word writes

pub between : (a b : Option ℕ) (range : ℕ × ℕ) → range_between a b ≡ Some range → (a ≡ Some range.0) × (b ≡ Some range.1) × (is_range range.0 range.1 ≡ true)
between None b range same = cc
between (Some n) None range same = cc
between (Some n) (Some m) range same = go _ refl same
  where
    go : (b : Bool) → is_range n m ≡ b → (if b then Some (n, m) else None) ≡ Some range
        → (Some n ≡ Some range.0) × (Some m ≡ Some range.1) × (is_range range.0 range.1 ≡ true)
    go true is found =
        let pair : (n, m) ≡ range = cc in
        (ap (λ r. Some r.0) pair, ap (λ r. Some r.1) pair, subst (λ r. is_range r.0 r.1 ≡ true) pair is)
    go false is found = cc

-- a word with a hyphen consists of the texts before and after its first one
around : (word : List ℕ) → list_any is_hyphen word ≡ true → before_first is_hyphen word ++ 45 ∷ after_first is_hyphen word ≡ word
around word some =
    let within = ltb-true _ _ (sym (any_by_place _ word) ∙ some) in
    let hyphen = eqb-true _ _ (passes_at_first _ word 0 within) in
    sym (split_at_first _ word 0 within ∙ ap (λ byte. before_first is_hyphen word ++ byte ∷ after_first is_hyphen word) hyphen)

writes_both : (first last word : List ℕ) (range : ℕ × ℕ) → first ++ 45 ∷ last ≡ word → range_number first ≡ Some range.0 → range_number last ≡ Some range.1
    → WritesNumbers word range
writes_both first last word range joined n m =
    let low = only_number first _ n in
    let high = only_number last _ m in
    let pair : (digits_value 10 first, digits_value 10 last) ≡ range = λ i. (low.1 i, high.1 i) in
    subst (λ w. WritesNumbers w range) joined (subst (WritesNumbers _) pair (two first last low.0 high.0))

writes_one : (word : List ℕ) (range : ℕ × ℕ) → range_number word ≡ Some range.0 → range_number word ≡ Some range.1 → WritesNumbers word range
writes_one word range n m =
    let low = only_number word _ n in
    let high = only_number word _ m in
    let pair : (digits_value 10 word, digits_value 10 word) ≡ range = λ i. (low.1 i, high.1 i) in
    subst (WritesNumbers word) pair (one word low.0)

abbrev sides_if : Bool → List ℕ → List ℕ × List ℕ
sides_if b word = if b then (before_first is_hyphen word, after_first is_hyphen word) else (word, word)

sides_written : (word : List ℕ) (range : ℕ × ℕ) → range_number (sides_of word).0 ≡ Some range.0 → range_number (sides_of word).1 ≡ Some range.1
    → WritesNumbers word range
sides_written word range = go _ refl
  where
    go : (b : Bool) → list_any is_hyphen word ≡ b → range_number (sides_if b word).0 ≡ Some range.0 → range_number (sides_if b word).1 ≡ Some range.1
        → WritesNumbers word range
    go true some n m = writes_both _ _ word range (around word some) n m
    go false none n m = writes_one word range n m

pub read_is_written : (word : List ℕ) (range : ℕ × ℕ) → range_of word ≡ Some range → WritesRange word range
read_is_written word range read = grind (arith, between, sides_written)

pub none_written : (word : List ℕ) → None ≡ range_of word → (range : ℕ × ℕ) → ¬ WritesRange word range
none_written word none range writes = grind (arith, written_is_read)

pub none_in : (word : List ℕ) (r : Option (ℕ × ℕ)) → None ≡ range_of word → IfNone r ((range : ℕ × ℕ) → ¬ WritesRange word range)
none_in word None none = none_written word none
none_in word (Some range) none = tt

-- Which numbers digits write, and where a word is split at its hyphen.
use Rattle.cap_octet.specs.Digits.{decimal_value, in_u64}
use Rattle.capkit.proofs.Common.{ap, IfNone, ◌+◌, ◌≤◌, ◌≡◌, ◌<◌, ℕ, Bool, true, false, List, [], ◌∷◌, length, refl, sym, ◌∙◌, rules, arith, nat_lt, ◌||◌}
use Rattle.capkit.proofs.Common.{if◌then◌else◌, Option, Some, None, list_all, list_any, Bor, le-ltb, lt-ltb, nat_tests}
use Rattle.std.proofs.Common.{◌==◌, lit<, suc, cond, ◌^◌, IfSome, not}
use Rattle.capkit.specs.Range.{is_hyphen, range_number, sides_of}
use Rattle.std.proofs.lemmas.Str.{Parse.IsDigitsTest, Pattern.IsSplitOnceResult, Pattern.split_once_first}
use Rattle.std.specs.{List.after_first, List.before_first, List.position_or_len, Char.digit_value, Char.is_ascii_digit, Option.MatchOption}

pub test : IsDigitsTest (λ ds. list_all is_ascii_digit ds ≡ true)
test = search rules

same_digit : (byte : ℕ) → nat_lt (digit_value byte) 10 ≡ is_ascii_digit byte
same_digit byte = grind (arith, nat_tests)

not_empty : (n : ℕ) → not (n == 0) ≡ nat_lt 0 n
not_empty n = grind arith

same_number : (text : List ℕ) → decimal_value text ≡ range_number text
same_number text = grind (arith, not_empty, same_digit)

-- the number that is read of a text of digits alone, below 2^64
pub is_read : (text : List ℕ) (r : Option ℕ) → r ≡ in_u64 (decimal_value text)
    → IfSome r (λ n. range_number text ≡ Some n) × IfNone r (IfSome (range_number text) (λ n. 2 ^ 64 ≤ n))
is_read text r is = go _ (is ∙ ap in_u64 (same_number text))
  where
    fits : (n : ℕ) (b : Bool) → nat_lt n (2 ^ 64) ≡ b → r ≡ (if b then Some n else None)
        → IfSome r (λ m. Some n ≡ Some m) × IfNone r (2 ^ 64 ≤ n)
    fits n true small same = rw same (refl, tt)
    fits n false large same = rw same (tt, grind arith)

    go : (q : Option ℕ) → r ≡ in_u64 q → IfSome r (λ n. q ≡ Some n) × IfNone r (IfSome q (λ n. 2 ^ 64 ≤ n))
    go None same = rw same (tt, tt)
    go (Some n) same = fits n _ refl same

lt_both : (n k : ℕ) → nat_lt n k ≡ nat_lt (1 + n) (suc k)
lt_both n k = grind arith

-- a word has an element for which a test is true if the first such index is within it
pub any_by_place : {X : Type 0} (p : X → Bool) (xs : List X) → list_any p xs ≡ nat_lt (position_or_len p xs) (length xs)
any_by_place p [] = refl
any_by_place p (x ∷ xs) = go (p x) (any_by_place p xs)
  where
    go : (b : Bool) → list_any p xs ≡ nat_lt (position_or_len p xs) (length xs)
        → (b || list_any p xs) ≡ nat_lt (cond (not b) (1 + position_or_len p xs) 0) (length (x ∷ xs))
    go true more = sym (lt-ltb 0 _ (omega arith))
    go false more = more ∙ lt_both _ _

-- a word is split around its first hyphen
pub is_split : (word : List ℕ) (r : Option (Bor (List ℕ) × Bor (List ℕ))) (first last : Bor (List ℕ)) → IsSplitOnceResult 45 word r → r ≡ Some (first, last)
    → (first.now ≡ (sides_of word).0) × (last.now ≡ (sides_of word).1)
is_split word r first last h is = grind (arith, split_once_first, any_by_place, lt-ltb)

-- a word that is not split has no hyphen
pub not_split : (word : List ℕ) (r : Option (Bor (List ℕ) × Bor (List ℕ))) → IsSplitOnceResult 45 word r → r ≡ None → list_any is_hyphen word ≡ false
not_split word r h is = any_by_place _ word ∙ go r (split_once_first 45 word r h (lit< tt)) is
  where
    go : (q : Option (Bor _ × Bor _)) → MatchOption q (position_or_len is_hyphen word ≡ length word)
        (λ x. (position_or_len is_hyphen word < length word) × (x.0.now ≡ before_first is_hyphen word) × (x.1.now ≡ after_first is_hyphen word))
        → q ≡ None → nat_lt (position_or_len is_hyphen word) (length word) ≡ false
    go None end same = le-ltb _ _ (omega arith)
    go _ end same = cc

-- The reader of numbers accepts exactly the written numbers.
use Rattle.std.proofs.Common.{◌≡◌, ℕ, ◌^◌, ◌<◌, ◌≤◌, List, [], ◌∷◌, true, false, Some, arith, ◌==◌, All, decimal}
use Rattle.flt_bpf.proofs.Common.{length, nat_tests, length-decimal-le}
use Rattle.std.specs.Str.Parse.{AllDigits, digits_value}
use Rattle.std.proofs.lemmas.{Str.Parse.digit_from_value, Fmt.decimal_is_IsNumeral, List.Elements.All-nil}
use Rattle.flt_bpf.specs.{Listing.IsWrittenNumber, inside.Reading.numeral}
use Rattle.cap_octet.{proofs.Numerals.digits_from_test, proofs.Numerals.digits_pass, specs.Digits.are_digits}

-- what is read as a number is one
numeral_parts : (ds : List ℕ) (n : ℕ) → numeral ds ≡ Some n → (length ds ≤ 10) × (0 < length ds) × (are_digits 10 ds ≡ true) × (digits_value 10 ds ≡ n)
numeral_parts ds n e = grind (arith, nat_tests)

pub numeral_is : (ds : List ℕ) (n : ℕ) → numeral ds ≡ Some n → IsWrittenNumber ds n
numeral_is ds n e = search (arith, numeral_parts, numeral, digits_from_test)

-- a number is read as itself
pub numeral_read : (ds : List ℕ) (n : ℕ) → IsWrittenNumber ds n → numeral ds ≡ Some n
numeral_read ds n h = search (arith, digits_pass)

-- digits have no byte below them
pub digits_lack : (c : ℕ) (ds : List ℕ) → c < 48 → AllDigits 10 ds → All (λ b. (b == c) ≡ false) ds
digits_lack c [] l h = All-nil (λ b. (b == c) ≡ false)
digits_lack c (b ∷ bs) l h = search (arith, digit_from_value, (digits_lack c bs l h.1))

pub number_lacks : (c : ℕ) (ds : List ℕ) (n : ℕ) → c < 48 → IsWrittenNumber ds n → All (λ b. (b == c) ≡ false) ds
number_lacks c ds n l h = digits_lack c ds l h.numeral.1

-- what is written of a number is a number
pub decimal_number : (n : ℕ) → n < 2 ^ 32 → IsWrittenNumber (decimal n) n
decimal_number n l =
    let d = decimal_is_IsNumeral n (omega arith) in
    record { numeral = d.0; short = length-decimal-le 10 n (omega arith) (omega arith) (omega arith); value = d.1 }

-- how many digits the fields of an instruction have at most
pub code_length : (n : ℕ) → n < 2 ^ 16 → length (decimal n) ≤ 5
code_length n l = length-decimal-le 5 n (omega arith) (omega arith) (omega arith)

pub offset_length : (n : ℕ) → n < 2 ^ 8 → length (decimal n) ≤ 3
offset_length n l = length-decimal-le 3 n (omega arith) (omega arith) (omega arith)

pub number_length : (n : ℕ) → n < 2 ^ 32 → length (decimal n) ≤ 10
number_length n l = length-decimal-le 10 n (omega arith) (omega arith) (omega arith)

pub ruleset field_lengths = (code_length, offset_length, number_length)

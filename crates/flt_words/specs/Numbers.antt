-- Numbers in words, and the range of two.
use Rattle.std.specs.Prelude.{◌≡◌, ◌^◌, ℕ, List, ◌++◌, Bool, nat_lt, length, slice_index, codes}
use Rattle.std.specs.Str.Parse.{IsNumeral, digits_value}

-- one or more digits mean the number in this radix
pub record WritesNumber (radix : ℕ) (digits : List ℕ) (n : ℕ) : Type 0 where
  pub numeral : IsNumeral radix digits
  pub value : digits_value radix digits ≡ n

-- the digits mean the number in decimal, without leading zeros
pub record WritesDecimal (digits : List ℕ) (n : ℕ) : Type 0 where
  pub writes : WritesNumber 10 digits n
  pub no_leading_zero : slice_index digits 0 ≡ 48 → length digits ≡ 1

-- the word is a number as C spells it, without a suffix: decimal, octal after `0`, or hexadecimal
-- after `0x` or `0X`
pub data IsNumber : List ℕ → ℕ → Type 0 where
  decimal : {word : List ℕ} {n : ℕ} → WritesDecimal word n → IsNumber word n
  octal : {digits : List ℕ} {n : ℕ} → WritesNumber 8 digits n → IsNumber (codes "0" ++ digits) n
  hexadecimal : {digits : List ℕ} {n : ℕ} → WritesNumber 16 digits n
      → IsNumber (codes "0x" ++ digits) n
  capital_hexadecimal : {digits : List ℕ} {n : ℕ} → WritesNumber 16 digits n
      → IsNumber (codes "0X" ++ digits) n

-- the word is two decimal numbers without leading zeros, joined by a dash; either may be the
-- greater
pub data IsRange : List ℕ → ℕ → ℕ → Type 0 where
  joined : {front back : List ℕ} {first last : ℕ} → WritesDecimal front first
      → WritesDecimal back last → IsRange (front ++ (codes "-" ++ back)) first last

-- whether a token may have a number: it is below 2^32
abbrev pub is_word_sized : ℕ → Bool
is_word_sized n = nat_lt n (2 ^ 32)

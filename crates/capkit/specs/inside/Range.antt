-- How a range is read from its numbers.
use Rattle.std.specs.Prelude.{◌≡◌, ◌++◌, ◌∷◌, ℕ, true, List}
use Rattle.std.specs.Str.Parse.{IsNumeral, digits_value}
use Rattle.cap_command.specs.Command.{is_range}

-- The word has these numbers in decimal digits: one, or two with a hyphen (45) between them.
pub data WritesNumbers : List ℕ → ℕ × ℕ → Type 0 where
  one : (digits : List ℕ) → IsNumeral 10 digits
      → WritesNumbers digits (digits_value 10 digits, digits_value 10 digits)
  two : (first last : List ℕ) → IsNumeral 10 first → IsNumeral 10 last
      → WritesNumbers (first ++ 45 ∷ last) (digits_value 10 first, digits_value 10 last)

-- The word has the numbers of a range.
pub record WritesRange (word : List ℕ) (range : ℕ × ℕ) : Type 0 where
  pub written : WritesNumbers word range
  pub is_range : is_range range.0 range.1 ≡ true

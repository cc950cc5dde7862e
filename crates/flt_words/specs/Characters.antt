-- The characters of tokens.
use Rattle.std.specs.Char.{is_ascii_alphanumeric}
use Rattle.std.specs.Prelude.{ℕ, List, Bool, ◌==◌, ◌&&◌, ◌||◌, not, nat_lt, count_by}

-- whether a byte is space, tab, line feed or carriage return
abbrev pub is_blank : ℕ → Bool
is_blank b = b == 32 || b == 9 || b == 10 || b == 13

-- whether a place is inside brackets: more `[` than `]` precede it
abbrev pub is_inside : List ℕ → Bool
is_inside front = nat_lt (count_by (λ b. b == 93) front) (count_by (λ b. b == 91) front)

-- whether a word may begin or end with a byte: a letter, a digit or, outside brackets, a colon
abbrev pub starts_word : Bool → ℕ → Bool
starts_word inside b = is_ascii_alphanumeric b || (not inside && b == 58)

-- whether a word may have a byte between its ends: also points and dashes
abbrev pub within_word : Bool → ℕ → Bool
within_word inside b = starts_word inside b || b == 46 || b == 45

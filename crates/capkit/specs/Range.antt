-- The ranges of packet numbers that words of a command line mean.
use Rattle.std.specs.{Char.is_ascii_digit, List.after_first, List.before_first, List.list_all, List.list_any}
use Rattle.std.specs.Prelude.{◌==◌, ◌&&◌, ℕ, Bool, List, length, nat_lt, Option, Some, None, if◌then◌else◌}
use Rattle.std.specs.Str.Parse.{digits_value}
use Rattle.cap_command.specs.Command.{is_range}

-- whether a text has one or more decimal digits, and nothing else
abbrev pub is_decimal : List ℕ → Bool
is_decimal text = nat_lt 0 (length text) && list_all is_ascii_digit text

-- the number that a text of only decimal digits means
abbrev pub range_number : List ℕ → Option ℕ
range_number text = if is_decimal text then Some (digits_value 10 text) else None

-- the byte of a hyphen
abbrev pub is_hyphen : ℕ → Bool
is_hyphen byte = byte == 45

-- the texts of the first and of the last number: those before and after the first hyphen; without
-- one, both are the word
abbrev pub sides_of : List ℕ → List ℕ × List ℕ
sides_of word =
    if list_any is_hyphen word then (before_first is_hyphen word, after_first is_hyphen word)
    else (word, word)

-- the two numbers, if they are a range
abbrev pub range_between : Option ℕ → Option ℕ → Option (ℕ × ℕ)
range_between (Some first) (Some last) = if is_range first last then Some (first, last) else None
range_between _ _ = None

-- the range that a word means: `N` or `N-M`; None for any other word
abbrev pub range_of : List ℕ → Option (ℕ × ℕ)
range_of word = range_between (range_number (sides_of word).0) (range_number (sides_of word).1)

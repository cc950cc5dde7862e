-- The names of inputs and outputs, and which of them are standard streams.
use Rattle.std.specs.{List.list_any, Option.option_map_or}
use Rattle.std.specs.Prelude.{◌&&◌, ◌||◌, ℕ, Bool, false, not, List, nat_lt, codes, count_by, Option}
use Rattle.std.specs.Str.{bytes_eq}

-- whether a name means a standard stream: `-`
abbrev pub is_standard : List ℕ → Bool
is_standard name = bytes_eq name (codes "-")

-- whether the output, unless it is standard output, is also an input, or standard input is an input
-- more than once
abbrev pub uses_name_twice : List (List ℕ) → Option (List ℕ) → Bool
uses_name_twice inputs output =
    option_map_or
    (λ name. not (is_standard name)
    && list_any (λ input. bytes_eq input name) inputs) output false
    || nat_lt 1 (count_by is_standard inputs)

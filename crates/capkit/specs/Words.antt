-- The words of the command line.
use Rattle.std.specs.Prelude.{ℕ, List, [], ◌∷◌, ◌++◌, codes, if◌then◌else◌}
use Rattle.std.specs.Str.{bytes_eq}

-- `help [COMMAND]` becomes `[COMMAND] --help`; other words are unchanged
abbrev pub with_help_option : List (List ℕ) → List (List ℕ)
with_help_option [] = []
with_help_option (first ∷ words) =
    if bytes_eq first (codes "help") then words ++ (codes "--help" ∷ []) else first ∷ words

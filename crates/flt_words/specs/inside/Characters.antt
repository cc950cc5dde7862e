-- The characters that separate words.
use Rattle.std.specs.{List.list_any, Prelude.ℕ, Prelude.List, Prelude.Bool, Prelude.◌==◌}

-- whether a text has a byte
abbrev pub has : ℕ → List ℕ → Bool
has c text = list_any (λ b. b == c) text

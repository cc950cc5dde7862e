-- The padding of data and of values to a multiple of four bytes.
use Rattle.std.specs.Prelude.{ℕ, ◌+◌, ◌*◌, ◌/◌}

-- a length, rounded up to a multiple of four
abbrev pub padded_length : ℕ → ℕ
padded_length n = (n + 3) / 4 * 4

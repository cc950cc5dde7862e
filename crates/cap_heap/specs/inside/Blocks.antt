-- The one block of a region.
use Rattle.std.specs.Prelude.{ℕ, ◌*◌, ◌/◌, ◌^◌, ◌<◌, ◌≤◌}
use Rattle.cap_heap.specs.Lending.{Place}

-- memory has whole units, and they hold a block of n bytes that is aligned to a
abbrev pub HoldsBlock : Place → ℕ → ℕ → Type 0
HoldsBlock memory n a = (0 < memory.1 / 16) × (n ≤ memory.1 / 16 * 16) × (n < 2 ^ 63) × (a ≤ 16)

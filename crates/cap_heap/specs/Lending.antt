-- Memory that a caller lends: what it means to own it, and what is owned after a call.
use Rattle.std.specs.Prelude.{◌≡◌, ℕ, zero, suc, ◌/◌, ◌<◌}
use mir.Syntax.{Ty, w128, ty_int, ty_array}
use base.Fml.{Fml, ftrue, fwand, fex}
use denote.RawPtr.{Ptr, room_for}

-- the start of memory, and its size in bytes
abbrev pub Place : Type 0
Place = Ptr × ℕ

-- the type of n units of 16 bytes, which are aligned to 16
abbrev pub units : ℕ → Ty
units n = ty_array (ty_int w128) n

-- room for n units at p; nothing if n is 0
abbrev pub units_at : ℕ → Ptr → Fml
units_at zero p = ftrue
units_at (suc n) p = room_for (units (suc n)) p

-- what owning memory of n bytes at p means: room for the whole units in it
abbrev pub bytes_at : Ptr → ℕ → Fml
bytes_at p n = units_at (n / 16) p

-- the right to give back all of the memory, whose start is a block for a τ at p
abbrev pub block_token : Place → Ty → Ptr → Fml
block_token lent τ p = fex (p ≡ lent.0) (λ _. fwand (room_for τ p) (bytes_at p lent.1))

-- what is owned of the lent memory after a call: all of it, or no byte
abbrev pub IsGivenBack : Place → Place → Type 0
IsGivenBack lent had = 0 < had.1 → had ≡ lent

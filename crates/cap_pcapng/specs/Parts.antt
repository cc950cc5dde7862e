-- The parts of a block that is handed to a function of the caller.
use Rattle.std.specs.Prelude.{◌≡◌, ℕ, List, length}
use Rattle.std.specs.{Borrow.Bor, Borrow.MutBor, List.flat_map}

-- the parts of a block, as they are lent
abbrev pub LentParts : Type 0
LentParts = Bor (List (Bor (List ℕ)))

-- the bytes of all parts, one part after another
abbrev pub joined_bytes : LentParts → List ℕ
joined_bytes parts = flat_map (λ part. part.now) parts.now

-- a function may be called with any parts of these bytes, and their length
abbrev pub TakesParts : {T : Type 0} → (MutBor T → LentParts → ℕ → Type 0) → List ℕ → Type 0
TakesParts {T} pre text =
    (target : MutBor T) (parts : LentParts) (size : ℕ) → joined_bytes parts ≡ text → size ≡ length text
    → pre target parts size

-- a function was called with some parts of these bytes, and their length, and left this result and
-- this target
pub record PutsParts {T R : Type 0} (post : MutBor T → LentParts → ℕ → R → MutBor T → Type 0)
    (text : List ℕ) (old : T) (result : R) (new : T) : Type 0 where
  pub shown : MutBor T
  pub shows : shown.now ≡ old
  pub parts : LentParts
  pub joins : joined_bytes parts ≡ text
  pub size : ℕ
  pub sized : size ≡ length text
  pub left : MutBor T
  pub leaves : left.now ≡ new
  pub met : post shown parts size result left

-- Which input comes next.
use Rattle.std.specs.Prelude.{ℕ, List}
use Rattle.cap_inputs.specs.declared.queue.Waiting.{Waiting}

-- the view of a queue: the entries of the inputs whose packets wait, in any order, and the number
-- of entries that it has room for
pub record Queue : Type 0 where
  pub waiting : List Waiting
  pub room : ℕ

-- the queue with these entries and this room
abbrev pub queue : List Waiting → ℕ → Queue
queue ws n = record { waiting = ws; room = n }

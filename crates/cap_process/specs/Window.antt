-- What contracts see of a window.
use Rattle.std.specs.Prelude.{ℕ, List}
use Rattle.cap_process.specs.declared.mark.Mark.{Mark}

-- the marks, the oldest first, and the most that there may be
pub record WindowView : Type 0 where
  pub marks : List Mark
  pub capacity : ℕ

-- the window with these marks and this capacity
abbrev pub window : List Mark → ℕ → WindowView
window marks capacity = record { marks = marks; capacity = capacity }

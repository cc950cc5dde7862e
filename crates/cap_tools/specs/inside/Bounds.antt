-- The number of steps is bounded by the number of bytes read.
use Rattle.std.specs.Prelude.{ℕ, ◌+◌, ◌≤◌, List, [], ◌∷◌, Option, None, Some}
use Rattle.cap_tools.specs.Bounds.{most_turns}
use Rattle.cap_inputs.specs.{Inputs.InputView, Inputs.InputsView, inside.Inputs.owed_by}

-- the steps that follow without another byte
abbrev pub owed_in : List InputView → ℕ
owed_in [] = 0
owed_in (h ∷ hs) = owed_by h + owed_in hs

-- the steps of all inputs that follow without another byte
abbrev pub steps_owed_in_all : InputsView → ℕ
steps_owed_in_all f = owed_in f.cursors

-- a step that goes on was one of those still due, or it read enough bytes to account for itself and
-- for those now due
abbrev pub IsPaid : InputsView → InputsView → Type 0
IsPaid old new = steps_owed_in_all new + 1 + most_turns old ≤ steps_owed_in_all old + most_turns new

-- the steps that were made and those still due are at most those that the bytes read account for;
-- nothing is stated for a job that ended
abbrev pub HasFewTurns : Option ℕ → ℕ → InputsView → Type 0
HasFewTurns None turns inputs = turns + steps_owed_in_all inputs ≤ most_turns inputs
HasFewTurns (Some status) turns inputs = Unit {0}

-- The heap of waiting inputs: its order, and its entries.
use Rattle.std.specs.List.{All, IsDistinct, list_any}
use Rattle.std.specs.Prelude.{◌≡◌, ℕ, ◌<◌, ◌≤◌, ◌⊎◌, ◌==◌, ◌&&◌, Bool, IsTrue, List, map}
use Rattle.cap_inputs.specs.declared.queue.Waiting.{Waiting}

-- a comes before b: its time is less, or the times are equal and its input's number is lower
abbrev pub Precedes : Waiting → Waiting → Type 0
Precedes a b = (a.time < b.time) ⊎ ((a.time ≡ b.time) × (a.input < b.input))

-- a does not come after b
abbrev pub NotAfter : Waiting → Waiting → Type 0
NotAfter a b = (a.time < b.time) ⊎ ((a.time ≡ b.time) × (a.input ≤ b.input))

-- whether this input waits with a packet of this time
abbrev pub is_entered : List Waiting → ℕ → ℕ → Bool
is_entered ws time input = list_any (λ w. (w.time == time) && (w.input == input)) ws

-- this entry waits, and no other comes before it
abbrev pub IsFirstWaiting : Waiting → List Waiting → Type 0
IsFirstWaiting w ws = IsTrue (is_entered ws w.time w.input) × All (NotAfter w) ws

-- the inputs that wait
abbrev pub inputs_of : List Waiting → List ℕ
inputs_of ws = map (λ w. w.input) ws

-- no input waits twice
abbrev pub IsOnceEach : List Waiting → Type 0
IsOnceEach ws = IsDistinct (λ a b. a == b) (inputs_of ws)

-- Helpers on the inputs of a job: what remains of them, and which is next.
use Rattle.std.specs.{List.AllByRecursion, Option.option_map, Option.option_or}
use Rattle.std.specs.Prelude.{◌≡◌, ◌⊎◌, ◌≤◌, ℕ, ◌+◌, ◌^◌, Bool, true, false, List, [], ◌∷◌, length, Option, None, unwrap_or}
use Rattle.cap_io.specs.Capture.{items_from, first_link_of}
use Rattle.cap_io.specs.{Sequence.PacketOrder, Sequence.InTurn, Sequence.ByTime, Source.SourceView, Source.Ended}
use Rattle.cap_inputs.specs.Inputs.{InputView, InputsView, Future, IsInput, key_of, steps_left_in, steps_owed}
use Rattle.cap_inputs.specs.declared.inputs.Next.{Next}

-- whether inputs are read in turn
abbrev pub is_in_turn : PacketOrder → Bool
is_in_turn InTurn = true
is_in_turn ByTime = false

-- the items after a source's current packet, from its unread bytes
abbrev pub actual_future : SourceView → Future
actual_future s = record {
  items = items_from s.declared (s.offset + length s.block) s.unread;
  size = s.offset + length s.block + length s.unread;
}

-- the most steps of a job
abbrev pub most_steps : ℕ
most_steps = 2 ^ 80

-- the first link type that the inputs declare, in their order
abbrev pub first_declared_link : List InputView → Option ℕ
first_declared_link [] = None
first_declared_link (h ∷ hs) = option_or (first_link_of h.source.declared) (first_declared_link hs)

-- ---- the next action, part by part

-- if a packet waits, its key is at least this
abbrev pub KeysFrom : ℕ → List InputView → Type 0
KeysFrom k hs = AllByRecursion (λ (h : InputView). h.waiting ≡ true → k ≤ key_of h) hs

-- the current packets are all decided
abbrev pub NoneWaits : List InputView → Type 0
NoneWaits hs = AllByRecursion (λ (h : InputView). h.waiting ≡ false) hs

-- among the packets that wait, that of input i has the least key, and among equal keys the lowest
-- index
pub record IsLeast (cursors : List InputView) (i : ℕ) : Type 0 where
  pub cursor : InputView
  pub among : IsInput cursors i cursor
  pub waits : cursor.waiting ≡ true
  pub over : KeysFrom (key_of cursor + 1) among.front
  pub from : KeysFrom (key_of cursor) among.back

-- an input isn't at its clean end
abbrev pub IsOpen : InputView → Type 0
IsOpen h = h.source.phase ≡ Ended → ⊥

-- all inputs are at their clean ends
abbrev pub AllEnded : List InputView → Type 0
AllEnded hs = AllByRecursion (λ (h : InputView). h.source.phase ≡ Ended) hs

-- no input is at its clean end
abbrev pub NoneEnded : List InputView → Type 0
NoneEnded hs = AllByRecursion IsOpen hs

-- an input is ready: its current packet waits, or it is at its clean end
abbrev pub IsReady : InputView → Type 0
IsReady h = (h.waiting ≡ true) ⊎ (h.source.phase ≡ Ended)

-- each input is ready
abbrev pub AllReady : List InputView → Type 0
AllReady hs = AllByRecursion IsReady hs

-- It is this input's turn: those before it are at their clean ends, it and those after it aren't.
pub record IsAtTurn (cursors : List InputView) (i : ℕ) (waiting : Bool) : Type 0 where
  pub cursor : InputView
  pub among : IsInput cursors i cursor
  pub waits : cursor.waiting ≡ waiting
  pub unended : IsOpen cursor
  pub front : AllEnded among.front
  pub back : NoneEnded among.back

-- the next action on inputs in turn
abbrev pub IsNextInTurn : List InputView → Next → Type 0
IsNextInTurn cursors (Next.Read i) = IsAtTurn cursors i false
IsNextInTurn cursors (Next.Decide i) = IsAtTurn cursors i true
IsNextInTurn cursors Next.Finish = AllEnded cursors

-- the input with index i is the first that is neither at its clean end nor has a packet that waits
pub record IsFirstUnready (cursors : List InputView) (i : ℕ) : Type 0 where
  pub cursor : InputView
  pub among : IsInput cursors i cursor
  pub waits : cursor.waiting ≡ false
  pub unended : IsOpen cursor
  pub front : AllReady among.front

-- by time, every input is read on to its next packet or its clean end first; then the packet with
-- the least key is decided
abbrev pub IsNextByTime : List InputView → Next → Type 0
IsNextByTime cursors (Next.Read i) = IsFirstUnready cursors i
IsNextByTime cursors (Next.Decide i) = AllReady cursors × IsLeast cursors i
IsNextByTime cursors Next.Finish = NoneWaits cursors × AllEnded cursors

-- the next action in either order
abbrev pub IsNextIn : PacketOrder → List InputView → Next → Type 0
IsNextIn InTurn cursors r = IsNextInTurn cursors r
IsNextIn ByTime cursors r = IsNextByTime cursors r

-- the next action on the inputs, in the order of their packets
abbrev pub IsNext : InputsView → Next → Type 0
IsNext inputs r = IsNextIn inputs.order inputs.cursors r

-- ---- steps

-- the steps that an input still needs without another byte
abbrev pub owed_by : InputView → ℕ
owed_by h = steps_owed h.waiting h.source.phase

-- the most steps that are left
abbrev pub steps_left : InputsView → ℕ
steps_left f = steps_left_in f.cursors

-- the offset of an input's current unit, or of the next one if no packet is current; 0 without an
-- input
abbrev pub offset_of : Option InputView → ℕ
offset_of o = unwrap_or (option_map (λ (h : InputView). h.source.offset) o) 0

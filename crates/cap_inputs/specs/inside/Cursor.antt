-- Which input is read on, waits or has the next packet, by the schedule.
use Rattle.std.specs.List.{All, slice_get, sum_by, Sorted.IsPermutation}
use Rattle.std.specs.Option.{option_map}
use Rattle.std.specs.Prelude.{◌≡◌, ◌≢◌, ◌⊎◌, if◌then◌else◌, ℕ, ◌+◌, ◌<◌, ◌≤◌, Bool, true, false, List, [], ◌∷◌, length, Option, None, Some, Result, Ok, Err}
use Rattle.cap_octet.specs.declared.fault.Fault.{Fault}
use Rattle.cap_io.specs.{Sequence.PacketOrder, Sequence.InTurn, Sequence.ByTime, Source.Ended}
use Rattle.cap_inputs.specs.{Inputs.InputView, Inputs.key_of, Queue.Queue, declared.inputs.Next.Next}
use Rattle.cap_inputs.specs.declared.inputs.Schedule.{Schedule, TheVariants.Turn, TheVariants.Merge}
use Rattle.cap_inputs.specs.declared.queue.Waiting.{Waiting}
use Rattle.cap_inputs.specs.inside.Inputs.{IsLeast, IsOpen, IsReady, NoneWaits}
use Rattle.cap_inputs.specs.inside.Queue.{Precedes}

-- the schedule before any read: in turn, the first input has its turn; in a merge, all must be read
abbrev pub first_schedule : PacketOrder → ℕ → Schedule
first_schedule InTurn count = Turn 0
first_schedule ByTime count = Merge 0 count

-- the schedule after an input was read on; if that failed nothing changes
abbrev pub schedule_after : Schedule → ℕ → Result Bool Fault → Schedule
schedule_after (Turn turn) i (Ok true) = Turn turn
schedule_after (Turn turn) i (Ok false) = Turn (i + 1)
schedule_after (Turn turn) i (Err fault) = Turn turn
schedule_after (Merge next last) i (Ok found) = Merge (i + 1) last
schedule_after (Merge next last) i (Err fault) = Merge next last

-- the schedule after a packet of an input was decided: in a merge only that input must be read
-- on; in turn nothing changes
abbrev pub schedule_after_decided : Schedule → ℕ → Schedule
schedule_after_decided (Turn turn) i = Turn turn
schedule_after_decided (Merge next last) i = Merge i (i + 1)

-- this holds of each input, by its index
abbrev pub EachAt : (ℕ → InputView → Type 0) → List InputView → Type 0
EachAt P cursors = (i : ℕ) (h : InputView) → slice_get cursors i ≡ Some h → P i h

-- in turn: an input before number `turn` is at its clean end, any other isn't
abbrev pub IsOfTurn : ℕ → ℕ → InputView → Type 0
IsOfTurn turn i h = (i < turn → h.source.phase ≡ Ended) × (turn ≤ i → IsOpen h)

-- by time: the inputs from `next` to before `last` must be read on; every other is ready
abbrev pub IsOfMerge : ℕ → ℕ → ℕ → InputView → Type 0
IsOfMerge next last i h =
    (next ≤ i → i < last → (h.waiting ≡ false) × IsOpen h) × (i < next ⊎ last ≤ i → IsReady h)

-- the inputs agree with the schedule
abbrev pub IsScheduled : Schedule → List InputView → Type 0
IsScheduled (Turn turn) cursors = EachAt (IsOfTurn turn) cursors
IsScheduled (Merge next last) cursors = EachAt (IsOfMerge next last) cursors

-- the sum of a function over the entries of the inputs whose packets wait; the first has number
-- `input`
abbrev pub sum_waiting : (Waiting → ℕ) → ℕ → List InputView → ℕ
sum_waiting f input [] = 0
sum_waiting f input (h ∷ hs) =
    (if h.waiting then f (record { time = key_of h; input = input }) else 0)
    + sum_waiting f (input + 1) hs

-- the queue of a merge has exactly the entries of the inputs whose packets wait: every function has
-- the same sum over both
pub record IsQueued (cursors : List InputView) (q : Queue) : Type 0 where
  pub entered : (f : Waiting → ℕ) → sum_by f q.waiting ≡ sum_waiting f 0 cursors
  pub room : length cursors ≤ q.room

-- a job whose inputs come in turn doesn't use the queue
abbrev pub HoldsQueue : PacketOrder → List InputView → Queue → Type 0
HoldsQueue InTurn cursors q = Unit {0}
HoldsQueue ByTime cursors q = IsQueued cursors q

-- whether packets come by time
abbrev pub is_merge : Schedule → Bool
is_merge (Turn turn) = false
is_merge (Merge next last) = true

-- there is room for the entry of an input, and none of its own is in it
abbrev pub HasPlaceFor : Queue → ℕ → Type 0
HasPlaceFor q input = (length q.waiting < q.room) × All (λ w. w.input ≢ input) q.waiting

-- an entry was added to the others, and the room isn't less (true); or nothing changed (false)
abbrev pub EntersQueue : Bool → Waiting → Queue → Queue → Type 0
EntersQueue true entry old new =
    IsPermutation (entry ∷ old.waiting) new.waiting × (old.room ≤ new.room)
EntersQueue false entry old new = new ≡ old

-- the first entry was removed from a queue, or there was none
abbrev pub TakesFirst : Option Waiting → Queue → Queue → Type 0
TakesFirst None old new = old.waiting ≡ []
TakesFirst (Some w) old new =
    IsPermutation old.waiting (w ∷ new.waiting) × All (Precedes w) new.waiting

-- the first entry was removed from a queue, if there was one (true); or nothing changed (false)
abbrev pub Leaves : Bool → Queue → Queue → Type 0
Leaves true old new = (taken : Option Waiting) × TakesFirst taken old new × (old.room ≤ new.room)
Leaves false old new = new ≡ old

-- whether the packet of the input with this index waits
abbrev pub waits_at : List InputView → ℕ → Option Bool
waits_at cursors i = option_map (λ (h : InputView). h.waiting) (slice_get cursors i)

-- the next action in turn: that on the input at the cursor, or nothing past the last one
abbrev pub IsAtCursor : List InputView → ℕ → Next → Type 0
IsAtCursor cursors turn (Next.Read i) = (i ≡ turn) × (waits_at cursors turn ≡ Some false)
IsAtCursor cursors turn (Next.Decide i) = (i ≡ turn) × (waits_at cursors turn ≡ Some true)
IsAtCursor cursors turn Next.Finish = length cursors ≤ turn

-- the next action of a merge: to read an input, if one must be read; else to decide the packet with
-- the least key, if one waits; else to finish
abbrev pub IsNextOfMerge : List InputView → ℕ → ℕ → Next → Type 0
IsNextOfMerge cursors first last (Next.Read i) =
    (i ≡ first) × (first < last) × (first < length cursors)
IsNextOfMerge cursors first last (Next.Decide i) =
    (last ≤ first ⊎ length cursors ≤ first) × IsLeast cursors i
IsNextOfMerge cursors first last Next.Finish =
    (last ≤ first ⊎ length cursors ≤ first) × NoneWaits cursors

-- the next action by the schedule
abbrev pub IsNextAt : Schedule → List InputView → Next → Type 0
IsNextAt (Turn turn) cursors r = IsAtCursor cursors turn r
IsNextAt (Merge next last) cursors r = IsNextOfMerge cursors next last r

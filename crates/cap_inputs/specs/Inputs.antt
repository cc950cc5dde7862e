-- The view of a job's inputs, with their positions in their captures.
use Rattle.std.specs.List.{list_all, list_any, position_or_len, slice_get, slice_set}
use Rattle.std.specs.Option.{option_map, option_map_or, option_to_list}
use Rattle.std.specs.Prelude.{◌≡◌, ◌&&◌, ◌||◌, if◌then◌else◌, ℕ, ◌+◌, ◌*◌, ◌-◌, ◌^◌, Bool, true, false, max, nat_le, not, List, [], ◌∷◌, ◌++◌, length, drop, map, Option, None, Some, Result, Ok, Err, unwrap_or}
use Rattle.cap_octet.specs.{Packet.Captured, declared.fault.Fault.Fault}
use Rattle.cap_io.specs.Capture.{Placed, placed_at, Items, End, after_packets}
use Rattle.cap_io.specs.Position.{IsAt, given_in_all}
use Rattle.cap_io.specs.Sequence.{InputItems, Event, Sequence, PacketOrder, InTurn, ByTime, sequence_of, sequence_in_turn, sequence_by_time, with_front}
use Rattle.cap_io.specs.Source.{SourceView, Phase, Ended, Advances, SectionFits, Steps, phase_after}
use Rattle.cap_inputs.specs.declared.inputs.Next.{Next}

-- the view of an input
pub record InputView : Type 0 where
  pub source : SourceView
  -- whether the current packet isn't decided yet
  pub waiting : Bool
  -- the greatest time of the decided packets; 0 if there is none
  pub greatest : ℕ

-- the view of the inputs: the order of their packets, and the position of each
pub record InputsView : Type 0 where
  pub order : PacketOrder
  pub cursors : List InputView

-- the future of an input: the items after its current packet, and the size of the whole input
pub record Future : Type 0 where
  pub items : Items
  pub size : ℕ

-- the current packet, if it waits to be decided; else none
abbrev pub waiting_packets : Bool → SourceView → List Placed
waiting_packets true s = placed_at s.offset (option_to_list s.packet)
waiting_packets false s = []

-- what remains of an input for the job: the packet that waits, and the items after it
abbrev pub items_left : InputView → Future → InputItems
items_left h f = record {
  greatest = h.greatest;
  items = after_packets (waiting_packets h.waiting h.source) f.items;
  size = f.size;
}

-- what remains of each input for the job
abbrev pub inputs_left : List InputView → List Future → List InputItems
inputs_left (h ∷ hs) (f ∷ fs) = items_left h f ∷ inputs_left hs fs
inputs_left hs fs = []

-- whether an input in this phase isn't at its clean end
abbrev pub is_open : Phase → Bool
is_open Ended = false
is_open phase = true

-- the number of inputs at their clean ends before the first that isn't
abbrev pub ended_count : List InputView → ℕ
ended_count cursors = position_or_len (λ (h : InputView). is_open h.source.phase) cursors

-- the order of what remains: in turn, the first input that isn't at its clean end and then those
-- after it; by time, all inputs
abbrev pub sequence_left : PacketOrder → List InputView → List InputItems → Sequence
sequence_left InTurn cursors rs =
    sequence_in_turn (ended_count cursors) (drop (ended_count cursors) rs)
sequence_left ByTime cursors rs = sequence_by_time rs

-- an input's bytes, which of them are done, and the packets in these
pub record InputPast : Type 0 where
  pub text : List ℕ
  pub done : List ℕ
  pub packets : List Placed

-- all items of an input: those that are done, and those that remain
abbrev pub input_items : InputPast → InputView → Future → InputItems
input_items s h f =
    record (items_left h f) { greatest = 0; items = after_packets s.packets (items_left h f).items }

-- all items of each input
abbrev pub inputs_with : List InputPast → List InputView → List Future → List InputItems
inputs_with (s ∷ ss) (h ∷ hs) (f ∷ fs) = input_items s h f ∷ inputs_with ss hs fs
inputs_with ss hs fs = []

-- each cursor is just past the done part of its capture
abbrev pub AreInputsAfter : List InputPast → List InputView → Type 0
AreInputsAfter [] [] = Unit {0}
AreInputsAfter (s ∷ ss) (h ∷ hs) =
    IsAt s.text s.done s.packets h.waiting h.source × AreInputsAfter ss hs
AreInputsAfter ss hs = ⊥

-- the greatest time of packets; 0 if there is none
abbrev pub greatest_of : List Placed → ℕ
greatest_of [] = 0
greatest_of (x ∷ xs) = max x.packet.time (greatest_of xs)

-- for each input the greatest time of its done packets is known
abbrev pub KnowGreatest : List InputPast → List InputView → Type 0
KnowGreatest (s ∷ ss) (h ∷ hs) = (h.greatest ≡ greatest_of s.packets) × KnowGreatest ss hs
KnowGreatest ss hs = Unit {0}

-- the future of an input at its clean end: no packet, and the end
abbrev pub no_future : SourceView → Future
no_future s =
    record { items = record { packets = []; declared = s.declared; ending = End }; size = s.offset }

-- possible futures of the inputs: at its clean end an input has nothing more
abbrev pub AreFutures : List InputView → List Future → Type 0
AreFutures [] [] = Unit {0}
AreFutures (h ∷ hs) (f ∷ fs) = (h.source.phase ≡ Ended → f ≡ no_future h.source) × AreFutures hs fs
AreFutures hs fs = ⊥

-- These events have come: whatever follows the current packets, in the job's order these events are
-- before all that remains.
abbrev pub AreSettled : List InputPast → InputsView → List Event → Type 0
AreSettled ss inputs es = (fs : List Future) → AreFutures inputs.cursors fs
    → sequence_of inputs.order (inputs_with ss inputs.cursors fs)
    ≡ with_front es (sequence_left inputs.order inputs.cursors (inputs_left inputs.cursors fs))

-- the input with index i is h, as i inputs are before it
pub record IsInput (cursors : List InputView) (i : ℕ) (h : InputView) : Type 0 where
  pub front : List InputView
  pub back : List InputView
  pub place : length front ≡ i
  pub splits : cursors ≡ front ++ h ∷ back

-- whether a read found a packet; false at the clean end and after a failure
abbrev pub is_packet_found : Result Bool Fault → Bool
is_packet_found (Ok b) = b
is_packet_found (Err fault) = false

-- an input after a read by which its source came this far: a packet that was found waits
abbrev pub input_after : InputView → Result Bool Fault → SourceView → InputView
input_after h r source =
    record { source = source; waiting = is_packet_found r; greatest = h.greatest }

-- whether a read found the clean end
abbrev pub is_clean_end : Result Bool Fault → Bool
is_clean_end (Ok false) = true
is_clean_end result = false

-- the inputs with another cursor instead of this one
abbrev pub with_cursor : InputsView → ℕ → InputView → InputsView
with_cursor inputs i h = record { order = inputs.order; cursors = slice_set inputs.cursors i h }

-- The input with index i was read on, and no other changed: its source advanced, and a packet that
-- was found waits. This is for devices whose bytes contracts know.
pub record ReadsInput (old : InputsView) (i : ℕ) (r : Result Bool Fault)
    (new : InputsView) : Type 0 where
  pub cursor : InputView
  pub among : IsInput old.cursors i cursor
  pub source : SourceView
  pub advances : Advances cursor.source.phase cursor.source r source
  pub steps : Steps cursor.source.phase cursor.source r source
  pub is : new ≡ with_cursor old i (input_after cursor r source)

-- The input with index i was read on, and no other changed: the effect on counts, on the phase, and
-- on the number of interfaces. This is for all devices.
pub record ReadSteps (old : InputsView) (i : ℕ) (r : Result Bool Fault)
    (new : InputsView) : Type 0 where
  pub cursor : InputView
  pub among : IsInput old.cursors i cursor
  pub source : SourceView
  pub steps : Steps cursor.source.phase cursor.source r source
  pub phase : source.phase ≡ phase_after r
  pub upper_bound : SectionFits source.declared
  pub is : new ≡ with_cursor old i (input_after cursor r source)

-- The steps that follow without another byte: to decide a packet that waits and then to read its
-- input on, or to read an input on that isn't at its end.
abbrev pub steps_owed : (waiting : Bool) → Phase → ℕ
steps_owed true phase = 2
steps_owed false Ended = 0
steps_owed false phase = 1

-- An upper bound of an input's remaining steps, which each step decreases except one that fails:
-- each byte that the device may still give counts two, as a packet is read once and decided once.
abbrev pub input_steps_left : InputView → ℕ
input_steps_left h =
    2 * (2 ^ 63 - h.source.given) + steps_owed h.waiting h.source.phase

-- an upper bound of the remaining steps of some inputs
abbrev pub steps_left_in : List InputView → ℕ
steps_left_in [] = 0
steps_left_in (h ∷ hs) = input_steps_left h + steps_left_in hs

-- the time of the current packet; 0 if there is none
abbrev pub packet_time : Option Captured → ℕ
packet_time packet = option_map_or (λ (p : Captured). p.time) packet 0

-- the greatest time of an input's packets up to the current one, by which a merge orders inputs
abbrev pub key_of : InputView → ℕ
key_of h = max h.greatest (packet_time h.source.packet)

-- ---- what is next

-- whether an input must be read on before any packet can be decided by time: it isn't at its clean
-- end, and none of its packets waits
abbrev pub is_unready : InputView → Bool
is_unready h = is_open h.source.phase && not h.waiting

-- whether an input's packet waits, and no packet that waits has a lower key
abbrev pub has_least_key : List InputView → InputView → Bool
has_least_key cursors h =
    h.waiting
    && list_all
    (λ (other : InputView). not other.waiting || nat_le (key_of h) (key_of other)) cursors

-- The index of the next input, or the number of inputs if all are at their clean ends. In turn it
-- is the first that isn't at its clean end; by time the first that must be read on, or, if there is
-- none, the first whose packet has the least key.
abbrev pub place_next : PacketOrder → List InputView → ℕ
place_next InTurn cursors = ended_count cursors
place_next ByTime cursors =
    if list_any is_unready cursors
    then position_or_len is_unready cursors
    else position_or_len (has_least_key cursors) cursors

-- the next action: to read the next input on, or to decide its packet if one waits; to finish if
-- there is no next input
abbrev pub next_at : ℕ → Option InputView → Next
next_at place None = Next.Finish
next_at place (Some h) = if h.waiting then Next.Decide place else Next.Read place

-- the next action on the inputs
abbrev pub next_of : InputsView → Next
next_of inputs =
    next_at (place_next inputs.order inputs.cursors)
    (slice_get inputs.cursors (place_next inputs.order inputs.cursors))

-- an input after its current packet is decided: none waits, and `greatest` includes the packet's
-- time
abbrev pub input_after_decided : InputView → InputView
input_after_decided h = record h { waiting = false; greatest = key_of h }

-- the current packet of an input was decided, and no other input changed
pub record MarksDecided (old : InputsView) (i : ℕ) (new : InputsView) : Type 0 where
  pub cursor : InputView
  pub among : IsInput old.cursors i cursor
  pub is : new ≡ with_cursor old i (input_after_decided cursor)

-- the offset of an input's current unit, or of the next one if no packet is current; 0 if no input
-- has this index
abbrev pub offset_at : List InputView → ℕ → ℕ
offset_at cursors i =
    unwrap_or (option_map (λ (h : InputView). h.source.offset) (slice_get cursors i)) 0

-- The limits of an input's device, which no step changes: how many bytes it gives at least before
-- it first fails (None: it never fails), and how many in all if no read fails.
pub record DeviceLimits : Type 0 where
  pub sure : Option ℕ
  pub in_all : ℕ

-- the limits of a source's device
abbrev pub limits_of : SourceView → DeviceLimits
limits_of s = record { sure = s.sure; in_all = given_in_all s }

-- the limits of each input's device
abbrev pub device_limits : List InputView → List DeviceLimits
device_limits hs = map (λ h. limits_of h.source) hs

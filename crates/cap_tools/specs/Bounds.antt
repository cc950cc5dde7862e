-- The bounds of a step, for all devices: what it reads, how many steps were made, and how much
-- memory the job holds.
use Rattle.std.specs.List.{All, slice_get}
use Rattle.std.specs.Prelude.{◌≡◌, ℕ, ◌+◌, ◌*◌, ◌≤◌, ◌&&◌, Bool, IsTrue, true, false, List, [], ◌∷◌, length, map, Some, Result, Ok, Err}
use Rattle.cap_octet.specs.{Packet.Captured, declared.fault.Fault.Fault}
use Rattle.cap_io.specs.Capture.{Declared, PcapngFile}
use Rattle.cap_io.specs.{Reading.most_in_unit, Source.SectionFits, Source.end_offset, Text.most_output_interfaces}
use Rattle.cap_process.specs.Output.{Target, Capture, HasFewOutputInterfaces}
use Rattle.cap_process.specs.Selector.{most_spent, places, spent_by_verdict, window_of}
use Rattle.cap_inputs.specs.Inputs.{InputView, InputsView, ReadsInput, ReadSteps, MarksDecided, is_clean_end, next_of}
use Rattle.cap_inputs.specs.declared.inputs.Next.{Next}
use Rattle.cap_filter.specs.Programs.{spent_in}
use Rattle.cap_tools.specs.{Jobs.JobView, Packets.JobState, Packets.asks_report}

-- The next input was read on, to its next packet, its end or a fault, but not further. No packet is
-- decided, and nothing is written unless the input is at its end and must be reported.
pub record ReadsOn (tells : Bool) (old : JobView) (input : ℕ) (answer : Result Bool Fault)
    (new : JobView) : Type 0 where
  pub next : next_of old.state.inputs ≡ Next.Read input
  pub fetches : ReadSteps old.state.inputs input answer new.state.inputs
  -- if contracts know the input's bytes: it was read to its next packet, its clean end or its fault
  pub exact : IsTrue tells → ReadsInput old.state.inputs input answer new.state.inputs
  pub decided : new.state.decided ≡ old.state.decided
  pub output : (is_clean_end answer && asks_report old.state.inputs.order old.state.policy)
      ≡ false → new.state.output ≡ old.state.output
  pub programs : new.programs ≡ old.programs

-- The current packet of the next input was judged, by at most one run of a program.
pub record JudgesOne (old : JobView) (input : ℕ) (new : JobView) : Type 0 where
  pub next : next_of old.state.inputs ≡ Next.Decide input
  pub cursor : InputView
  pub among : slice_get old.state.inputs.cursors input ≡ Some cursor
  pub packet : Captured
  pub held : cursor.source.packet ≡ Some packet
  pub programs : new.programs
      ≡ spent_by_verdict old.state.policy (old.state.decided + 1) packet old.programs
  pub cost : spent_in new.programs ≤ spent_in old.programs + most_spent old.state.policy

-- nothing is read, no packet is decided, and no program runs
pub record ReadsNothing (old new : JobView) : Type 0 where
  pub inputs : new.state.inputs ≡ old.state.inputs
  pub decided : new.state.decided ≡ old.state.decided
  pub programs : new.programs ≡ old.programs

-- whether reading an input on failed
abbrev pub is_fault : Result Bool Fault → Bool
is_fault (Ok found) = false
is_fault (Err fault) = true

-- A step reads one input on, or decides one packet, or fails to, or does neither. The job goes on
-- only after an input was read on without a fault, or a packet was decided; it may also end then.
pub data StepReads (tells goes : Bool) (old new : JobView) : Type 0 where
  reads_on : (input : ℕ) → (answer : Result Bool Fault) → (goes ≡ true → is_fault answer ≡ false)
      → ReadsOn tells old input answer new → StepReads tells goes old new
  decides_one : (input : ℕ) → JudgesOne old input new
      → MarksDecided old.state.inputs input new.state.inputs
      → new.state.decided ≡ old.state.decided + 1 → StepReads tells goes old new
  -- the packet is refused, or couldn't be written
  leaves_one : (input : ℕ) → goes ≡ false → JudgesOne old input new
      → new.state.inputs ≡ old.state.inputs
      → new.state.decided ≡ old.state.decided → StepReads tells goes old new
  reads_nothing : goes ≡ false → ReadsNothing old new → StepReads tells goes old new

-- the number of bytes read from the inputs: the skipped ones and those of current units
abbrev pub reads_of : List InputView → ℕ
reads_of [] = 0
reads_of (h ∷ hs) = end_offset h.source + reads_of hs

-- the most steps of a job that hasn't ended: two for each byte read, one for each input, and one to
-- read a filter
abbrev pub most_turns : InputsView → ℕ
most_turns f = 2 * reads_of f.cursors + length f.cursors + 1

-- the bytes of interfaces with these names, at 19 bytes besides each name
abbrev pub names_weight : List (List ℕ) → ℕ
names_weight [] = 0
names_weight (name ∷ names) = 19 + length name + names_weight names

-- the bytes of the declared interfaces; 0 for pcap
abbrev pub declared_weight : Declared → ℕ
declared_weight (PcapngFile first section) = names_weight (map (λ i. i.name) section.interfaces)
declared_weight declared = 0

-- the bytes held for an input: the buffer with its unit, its section's interfaces, and 40 for
-- everything else
abbrev pub input_weight : InputView → ℕ
input_weight h = h.source.room + declared_weight h.source.declared + 40

-- the bytes held for all inputs
abbrev pub inputs_weight : List InputView → ℕ
inputs_weight [] = 0
inputs_weight (h ∷ hs) = input_weight h + inputs_weight hs

-- the bytes held for the output: those of its interfaces
abbrev pub target_weight : Target → ℕ
target_weight (Capture sink) = names_weight (map (λ i. i.name) sink.interfaces)
target_weight target = 0

-- the bytes that a job holds: for its inputs and its output, 20 for each mark in its window, and
-- 128 for its counters
abbrev pub weight : JobState → ℕ
weight m =
    inputs_weight m.inputs.cursors + target_weight m.output + 20 * length m.state.window
    + 128

-- an upper bound of these bytes: a unit for each input, 280 for each interface that inputs and
-- output may have, the marks, and the counters
abbrev pub most_weight : ℕ → ℕ → ℕ
most_weight inputs marks =
    inputs * most_in_unit + (256 * inputs + most_output_interfaces) * 280 + 20 * marks + 128

-- for an input no more bytes are held than its buffer has room for, that room is at most the length
-- of the longest unit, and the number of its interfaces is bounded
pub record IsSmall (h : InputView) : Type 0 where
  pub held : length h.source.block ≤ h.source.room
  pub block : h.source.room ≤ most_in_unit
  pub section : SectionFits h.source.declared

-- what is held of each input and of the output is bounded
abbrev pub IsBounded : InputsView → Target → Type 0
IsBounded inputs target = All IsSmall inputs.cursors × HasFewOutputInterfaces target

-- What a job holds for each input is bounded, and so is the sum; a window for n packets counts as
-- n - 1 marks, and as none if duplicates aren't searched for.
pub record IsLight (m : JobState) : Type 0 where
  pub each : IsBounded m.inputs m.output
  pub all : weight m ≤ most_weight (length m.inputs.cursors) (places (window_of m.policy))

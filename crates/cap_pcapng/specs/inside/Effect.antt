-- Helpers next to specs/Effect, for the crate's own functions and proofs.
use Rattle.std.specs.List.{slice_get}
use Rattle.std.specs.Prelude.{◌≡◌, ℕ, ◌+◌, ◌-◌, ◌^◌, ◌<◌, ◌≤◌, ◌⊎◌, List, length, take, drop, None, Some, true, is_some, if◌then◌else◌, nat_lt}
use Rattle.cap_octet.specs.{Checks.first_failing, Packet.Captured, declared.fault.Fault.Fault}
use Rattle.cap_octet.specs.declared.fault.Fault.TheVariants.{BadOption, BadTimeResolution, NoMemory, TooManyInterfaces}
use Rattle.cap_octet.specs.declared.number.Order.{Order}
use Rattle.cap_pcapng.specs.Block.{Parts, block_checks, parts_in}
use Rattle.cap_pcapng.specs.Effect.{is_interface, held_packet, IsBlockFault, LieAsSaid}
use Rattle.cap_pcapng.specs.{Interface.Described, Interface.most_interfaces, Unit.checks_among, Unit.packet_by}
use Rattle.cap_pcapng.specs.declared.{effect.PacketSpans.PacketSpans, frames.Frame.Frame}

-- The spans of the packet of a block of this size: its data begins at `start` in the block, and is
-- the prefix of the remainder of the body (`rest`), in which its options are too.
pub record PacketFound (order : Order) (interfaces : List Described) (parts : Parts)
    (start size : ℕ) (rest : List ℕ) (spans : PacketSpans) : Type 0 where
  pub whole : spans.size ≡ size
  pub known : is_some (slice_get interfaces spans.interface) ≡ true
  pub from : spans.bytes.start ≡ start
  pub packet : Captured
  pub stands : packet_by interfaces parts ≡ Some packet
  pub is_lent : held_packet order interfaces spans (take spans.bytes.length rest)
      (take spans.options.length (drop (spans.options.start - spans.bytes.start) rest))
      ≡ Some packet
  pub there : spans.bytes.length ≤ length rest
  pub following : spans.bytes.start ≤ spans.options.start
  pub options : spans.options.start - spans.bytes.start + spans.options.length ≤ length rest
  pub time : spans.time < 2 ^ 63
  pub lies : LieAsSaid parts spans

-- The block fails no check after those of its frame, and describes an interface.
pub record AddsInterface (frame : Frame) (interfaces : List Described)
    (block : List ℕ) : Type 0 where
  pub passes : first_failing (block_checks frame block) ≡ None
  pub among : first_failing (checks_among interfaces (parts_in frame block)) ≡ None
  pub describes : is_interface (parts_in frame block) ≡ true

-- the first check that a block fails after those of its frame, or the lack of memory for the
-- interface that it describes
abbrev pub IsEntryFault : Frame → List Described → List ℕ → Fault → Type 0
IsEntryFault frame interfaces block fault =
    IsBlockFault frame interfaces block fault
    ⊎ ((fault ≡ NoMemory) × AddsInterface frame interfaces block)

-- The fault to report for a block whose own checks failed with this one, after these interfaces: if
-- there is no room for another interface, that fault comes before one of options.
abbrev pub fault_among : List Described → Fault → Fault
fault_among interfaces BadOption =
    if nat_lt (length interfaces) most_interfaces then BadOption else TooManyInterfaces
fault_among interfaces BadTimeResolution =
    if nat_lt (length interfaces) most_interfaces then BadTimeResolution else TooManyInterfaces
fault_among interfaces fault = fault

-- The effect of a block: its packet, and the interfaces of its section after it.
use Rattle.std.specs.{List.slice_get, Option.option_map}
use Rattle.std.specs.Prelude.{◌≡◌, ℕ, ◌+◌, ◌-◌, length, ◌^◌, ◌<◌, ◌≤◌, ◌⊎◌, Bool, false, List, [], ◌∷◌, ◌++◌, take, drop, Option, None, Some, true, is_some}
use Rattle.cap_octet.specs.{Checks.first_failing, Packet.Captured}
use Rattle.cap_octet.specs.declared.{fault.Fault.Fault, number.Order.Order}
use Rattle.cap_pcapng.specs.Block.{Parts, InterfaceParts, EnhancedParts, SimpleParts, block_checks, parts_in}
use Rattle.cap_pcapng.specs.{Comment.comment_in, Interface.Described, Interface.description_of, Padding.padded_length}
use Rattle.cap_pcapng.specs.Unit.{Section, checks_among, packet_by, packet_of, section_by}
use Rattle.cap_pcapng.specs.declared.effect.{BlockEffect.BlockEffect, PacketSpans.PacketSpans, Span.Span}
use Rattle.cap_pcapng.specs.declared.frames.Frame.{Frame}

-- the bytes of a span
abbrev pub span_bytes : Span → List ℕ → List ℕ
span_bytes span text = take span.length (drop span.start text)

-- whether a block describes an interface
abbrev pub is_interface : Parts → Bool
is_interface (InterfaceParts link snap order options) = true
is_interface parts = false

-- a section of this byte order with these interfaces
abbrev pub section_of : Order → List Described → Section
section_of order interfaces = record { order = order; interfaces = interfaces }

-- the packet with these data and options, in this byte order, with the interface, time and original
-- length that its spans name; None if that interface isn't declared
abbrev pub held_packet : Order → List Described → PacketSpans → (bytes options : List ℕ)
    → Option Captured
held_packet order interfaces spans bytes options =
    option_map
    (λ (i : Described). packet_of i spans.time spans.orig bytes (comment_in order options))
    (slice_get interfaces spans.interface)

-- A block has a packet, and these are its spans.
pub record PacketStands (order : Order) (interfaces : List Described) (parts : Parts)
    (block : List ℕ) (spans : PacketSpans) : Type 0 where
  pub packet : Captured
  pub stands : packet_by interfaces parts ≡ Some packet
  pub is_lent : held_packet order interfaces spans (span_bytes spans.bytes block)
      (span_bytes spans.options block) ≡ Some packet

-- The interface number of a packet, and the offsets of its data and options in the block. In an
-- enhanced packet the data is at offset 28, and the options follow its padding; a simple packet is
-- of interface 0, has its data at offset 12, and has no options.
abbrev pub LieAsSaid : Parts → PacketSpans → Type 0
LieAsSaid (EnhancedParts number ticks captured orig order rest) spans =
    (spans.interface ≡ number) × (spans.bytes ≡ record { start = 28; length = captured })
    × (spans.options
    ≡ record {
      start = 28 + padded_length captured;
      length = length rest - padded_length captured;
    })
LieAsSaid (SimpleParts orig rest) spans =
    (spans.interface ≡ 0) × (spans.bytes.start ≡ 12)
    × (spans.options ≡ record { start = 12; length = 0 })
LieAsSaid parts spans = ⊥

-- the block has no packet, or these are its packet's spans
abbrev pub PacketIfAny : Order → List Described → Parts → List ℕ → Option PacketSpans → Type 0
PacketIfAny order interfaces parts block None = packet_by interfaces parts ≡ None
PacketIfAny order interfaces parts block (Some spans) =
    PacketStands order interfaces parts block spans

-- if the block has a packet, its spans lie in the block, and its time is below 2^63
abbrev pub FitsIfAny : Option PacketSpans → ℕ → Type 0
FitsIfAny None size = Unit {0}
FitsIfAny (Some spans) size =
    (spans.size ≡ size) × (spans.bytes.start + spans.bytes.length ≤ size) × (spans.time < 2 ^ 63)
    × (spans.options.start + spans.options.length ≤ size)

-- if the block has a packet, its interface is known
abbrev pub KnowsIfAny : List Described → Option PacketSpans → Type 0
KnowsIfAny interfaces None = Unit {0}
KnowsIfAny interfaces (Some spans) = is_some (slice_get interfaces spans.interface) ≡ true

-- a block fails none of its checks after those of its frame, and the table has the interfaces of
-- the section after it
pub record Enters (frame : Frame) (interfaces : List Described) (block : List ℕ)
    (spans : Option PacketSpans) (interfaces' : List Described) : Type 0 where
  pub passes : first_failing (block_checks frame block) ≡ None
  pub among : first_failing (checks_among interfaces (parts_in frame block)) ≡ None
  pub section : section_by (Some (section_of frame.order interfaces)) frame.order
      (parts_in frame block) ≡ section_of frame.order interfaces'
  pub packet : PacketIfAny frame.order interfaces (parts_in frame block) block spans
  pub fits : FitsIfAny spans frame.length
  pub known : KnowsIfAny interfaces' spans

-- the place of a block's packet, by the block's effect; None if it has no packet
abbrev pub packet_in_effect : BlockEffect → Option PacketSpans
packet_in_effect (BlockEffect.Packet spans) = Some spans
packet_in_effect other = None

-- the interfaces of the section after a block, by the block's effect
abbrev pub interfaces_after : BlockEffect → List Described → List Described
interfaces_after BlockEffect.Section interfaces = []
interfaces_after (BlockEffect.Interface i) interfaces = interfaces ++ description_of i ∷ []
interfaces_after other interfaces = interfaces

-- a block fails none of its checks after those of its frame, and has this effect
abbrev pub HasEffect : Frame → List Described → List ℕ → BlockEffect → Type 0
HasEffect frame interfaces block does =
    Enters frame interfaces block (packet_in_effect does) (interfaces_after does interfaces)

-- if the block has a packet, its spans are those of the data and options in the block
abbrev pub LiesAsSaid : Parts → BlockEffect → Type 0
LiesAsSaid parts (BlockEffect.Packet spans) = LieAsSaid parts spans
LiesAsSaid parts other = Unit {0}

-- the first check that a block fails after those of its frame: its own come first, then those that
-- need the interfaces before it
abbrev pub IsBlockFault : Frame → List Described → List ℕ → Fault → Type 0
IsBlockFault frame interfaces block fault =
    (first_failing (block_checks frame block) ≡ Some fault)
    ⊎ ((first_failing (block_checks frame block) ≡ None)
    × (first_failing (checks_among interfaces (parts_in frame block)) ≡ Some fault))

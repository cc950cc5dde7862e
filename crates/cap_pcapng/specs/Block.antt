-- The bodies of blocks: their checks, in order, and their parts (draft-ietf-opsawg-pcapng, "Block
-- Types").
use Rattle.std.specs.Prelude.{ℕ, ◌+◌, ◌-◌, ◌*◌, ◌==◌, ◌&&◌, ◌||◌, if◌then◌else◌, min, Bool, false, List, [], ◌∷◌, ◌++◌, length, take, drop, nat_le, Option}
use Rattle.cap_octet.specs.{Checks.first_failing, Number.u16_in, Number.u32_in, declared.fault.Fault.Fault}
use Rattle.cap_octet.specs.declared.fault.Fault.TheVariants.{BadVersion, BadBlockLength, BadBody, ObsoletePacketBlock, Truncated}
use Rattle.cap_octet.specs.declared.number.Order.{Order}
use Rattle.cap_pcapng.specs.Interface.{IsDescribed}
use Rattle.cap_pcapng.specs.{InterfaceOptions.list_checks, OptionList.options_in, Padding.padded_length}
use Rattle.cap_pcapng.specs.declared.blocks.{Block.Block, InterfaceBlock.InterfaceBlock}
use Rattle.cap_pcapng.specs.declared.frames.{BlockType.BlockType, Frame.Frame}

-- the body of the block that these bytes begin with: the bytes between its two total lengths
abbrev pub body_in : Frame → List ℕ → List ℕ
body_in frame text = take (frame.length - 12) (drop 8 text)

-- ---- the checks

-- the checks of a body, in order: it is long enough for its type, and a section's version is known;
-- an obsolete packet block fails always
abbrev pub body_checks : BlockType → Order → List ℕ → List (Bool × Fault)
body_checks BlockType.Section order body =
    (nat_le 16 (length body), BadBody)
    ∷ (
      (u16_in order body 4 == 1)
          && ((u16_in order body 6 == 0) || (u16_in order body 6 == 2)),
      BadVersion,
    )
    ∷ []
body_checks BlockType.Interface order body = (nat_le 8 (length body), BadBody) ∷ []
body_checks BlockType.ObsoletePacket order body = (false, ObsoletePacketBlock) ∷ []
body_checks BlockType.SimplePacket order body = (nat_le 4 (length body), BadBody) ∷ []
body_checks BlockType.EnhancedPacket order body = (nat_le 20 (length body), BadBody) ∷ []
body_checks BlockType.Other order body = []

-- the checks of a whole block, in order, on bytes that begin with it: its second total length
-- equals the first, and its body's checks; options and earlier interfaces aren't checked here
abbrev pub block_checks : Frame → List ℕ → List (Bool × Fault)
block_checks frame text =
    (u32_in frame.order text (frame.length - 4) == frame.length, BadBlockLength)
    ∷ body_checks frame.block_type frame.order (body_in frame text)

-- the checks of a block's length, in order: it has room for the header and the end, and all its
-- bytes are present
abbrev pub size_checks : Frame → List ℕ → List (Bool × Fault)
size_checks frame text =
    (nat_le 12 frame.length, BadBlockLength) ∷ (nat_le frame.length (length text), Truncated) ∷ []

-- ---- a packet's data

-- the captured length of a simple packet of an interface with this snap length; 0 means no limit
abbrev pub simple_captured : (orig snap : ℕ) → ℕ
simple_captured orig snap = if snap == 0 then orig else min orig snap

-- the check that this many captured bytes and their padding fit the remainder of a body
abbrev pub data_checks : ℕ → List ℕ → List (Bool × Fault)
data_checks captured rest = (nat_le (padded_length captured) (length rest), BadBody) ∷ []

-- ---- the parts

-- The parts of a block. What follows them in the body is a packet's padded data, and in an enhanced
-- packet block the options after it.
pub data Parts : Type 0 where
  SectionParts : Parts
  InterfaceParts : (link snap : ℕ) → (order : Order) → (options : List ℕ) → Parts
  EnhancedParts : (interface ticks captured orig : ℕ) → (order : Order) → (rest : List ℕ) → Parts
  SimpleParts : (orig : ℕ) → (rest : List ℕ) → Parts
  -- any other block
  SkippedParts : Parts

-- the parts in the body of a block of this type
abbrev pub parts_in_body : BlockType → Order → List ℕ → Parts
parts_in_body BlockType.Section order body = SectionParts
parts_in_body BlockType.Interface order body =
    InterfaceParts (u16_in order body 0) (u32_in order body 4) order (drop 8 body)
parts_in_body BlockType.SimplePacket order body = SimpleParts (u32_in order body 0) (drop 4 body)
parts_in_body BlockType.EnhancedPacket order body =
    EnhancedParts (u32_in order body 0) (u32_in order body 4 * 4294967296 + u32_in order body 8)
    (u32_in order body 12) (u32_in order body 16) order (drop 20 body)
parts_in_body kind order body = SkippedParts

-- the parts of the block with this frame at the start of these bytes
abbrev pub parts_in : Frame → List ℕ → Parts
parts_in frame text = parts_in_body frame.block_type frame.order (body_in frame text)

-- the parts of an interface description block that was read, without places in memory
abbrev pub parts_of_interface : InterfaceBlock → Parts
parts_of_interface b =
    InterfaceParts b.interface.link b.interface.snap b.options.order b.options.rest.now

-- the parts of a block that was read, without places in memory
abbrev pub parts_of : Block → Parts
parts_of Block.Section = SectionParts
parts_of (Block.Interface b) = parts_of_interface b
parts_of (Block.Enhanced b) = EnhancedParts b.interface b.ticks b.captured b.orig b.order b.rest.now
parts_of (Block.Simple b) = SimpleParts b.orig b.rest.now
parts_of Block.Skipped = SkippedParts

-- if the block is an interface description, its interface is the one that its options describe
abbrev pub IsDescribedIfAny : Block → Type 0
IsDescribedIfAny (Block.Interface b) = IsDescribed b
IsDescribedIfAny block = Unit {0}

-- ---- all checks of a block by itself

-- the checks of an interface's options; none for any other block
abbrev pub option_checks : Parts → List (Bool × Fault)
option_checks (InterfaceParts link snap order options) = list_checks [] (options_in order options)
option_checks parts = []

-- The first check, after those of its frame, that fails for the block at the start of these bytes;
-- None if none does. The checks that need the interfaces before it are in `Unit`: that of the
-- number of interfaces comes before those of options.
abbrev pub block_fault : Frame → List ℕ → Option Fault
block_fault frame text =
    first_failing
    (size_checks frame text ++ block_checks frame text ++ option_checks (parts_in frame text))

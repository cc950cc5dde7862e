-- The steps of skipping a refused unit.
use Rattle.std.specs.Prelude.{◌≡◌, ℕ, ◌+◌, ◌<◌, ◌≤◌, ◌⊎◌, List, [], length, drop, Option, Some, None}
use Rattle.cap_octet.specs.{Checks.first_failing, declared.fault.Fault.Fault, declared.number.Order.Order}
use Rattle.cap_io.specs.Capture.{first_link_of}
use Rattle.cap_io.specs.{Reading.declared_by, declared.file_state.FileState.FileState}
use Rattle.cap_pcapng.specs.{Block.InterfaceParts, Block.parts_in, Frame.frame_checks, Interface.description_of}
use Rattle.cap_pcapng.specs.Unit.{Section, frame_after, order_before, unit_fault}
use Rattle.cap_pcapng.specs.declared.{frames.Frame.Frame, interface.Interface.Interface}
use Rattle.capkit_c.specs.Layout.{HasLink, reader_form}
use Rattle.capkit_c.specs.Skipping.{past_interface, refused_part, unread_interface}
use Rattle.capkit_c.specs.declared.memory.{layout.Reader.Reader, reader.Found.Found}
use Rattle.capkit_c.specs.declared.memory.skip.{RefusedPart.RefusedPart, Skip.Skip}

-- the reader is past a unit of this size, and its file is in this state
pub record HasMoved (capture : List ℕ) (size : ℕ) (form : FileState) (count : ℕ)
    (r r' : Reader) : Type 0 where
  pub there : size ≤ length (drop r.offset capture)
  pub offset : r'.offset ≡ r.offset + size
  pub state : reader_form r' ≡ form
  pub interfaces : r'.interfaces ≡ count
  pub link : HasLink (first_link_of (declared_by form [])) r'

-- the same; or the unit is incomplete, and the reader is unchanged
abbrev pub Moves : List ℕ → (size : ℕ) → FileState → (count : ℕ) → (r r' : Reader) → Skip → Type 0
Moves capture size form count r r' Skip.Past = HasMoved capture size form count r r'
Moves capture size form count r r' (Skip.Not found) =
    (length (drop r.offset capture) < size) × (found ≡ Found.Fault Fault.Truncated) × (r' ≡ r)

-- the fault of a block is one of its form
abbrev pub RefusesForm : Option Section → List ℕ → Type 0
RefusesForm before text =
    (fault : Fault) → unit_fault before text ≡ Some fault → refused_part fault ≡ RefusedPart.Form

-- this is the frame of the block at the start of these bytes, which fails none of its checks
pub record IsFramed (before : Option Section) (text : List ℕ) (frame : Frame) : Type 0 where
  pub passes : first_failing (frame_checks (order_before before) text) ≡ None
  pub says : frame_after before text ≡ frame

-- the frame of the complete block at the start of these bytes, in a section of this byte order;
-- None if its form is refused
abbrev pub IsWholeFrame : Order → List ℕ → Option Frame → Type 0
IsWholeFrame order text None =
    (before : Option Section) → order_before before ≡ Some order → RefusesForm before text
IsWholeFrame order text (Some frame) =
    (12 ≤ frame.length) × (frame.length ≤ length text)
    × ((before : Option Section) → order_before before ≡ Some order → IsFramed before text frame)

-- the description block with this frame at the start of these bytes describes this interface,
-- except for its options, which aren't read
pub record Describes (frame : Frame) (text : List ℕ) (i : Interface) : Type 0 where
  pub described : description_of i ≡ unread_interface i.link i.snap
  pub order : Order
  pub options : List ℕ
  pub parts : parts_in frame text ≡ InterfaceParts i.link i.snap order options

-- the interface of the block with this frame at the start of these bytes; None if the block isn't a
-- description, or its form is refused
abbrev pub IsUnread : Frame → List ℕ → Option Interface → Type 0
IsUnread frame text None =
    (before : Option Section) → IsFramed before text frame
    → RefusesForm before text
    ⊎ ((first : Option ℕ) (section : Section) (size : ℕ)
    → past_interface first section size (parts_in frame text) ≡ None)
IsUnread frame text (Some i) = Describes frame text i

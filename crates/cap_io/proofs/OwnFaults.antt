-- Checks never report that the device failed, or that memory ran out.
use Rattle.std.proofs.Common.{◌≡◌, ◌<◌, ◌++◌, [], ◌∷◌, length, None, ap, ℕ, inl, inr, Bool, true, false, List, Option, Some, Err, refl}
use Rattle.cap_io.proofs.Common.{length-append, ltb-true, most_interfaces, arith, first_failing, Fault, NoMemory, ReadFailed, Order, Head, header_fault}
use Rattle.cap_io.proofs.Common.{Described, Frame, AddsInterface, IsEntryFault}
use Rattle.cap_pcapng.specs.Effect.{is_interface, section_of, Enters, IsBlockFault}
use Rattle.cap_pcapng.specs.Block.{Parts, SectionParts, InterfaceParts, EnhancedParts, SimpleParts, SkippedParts, block_checks, body_checks, parts_in}
use Rattle.cap_pcapng.proofs.Faults.{AreAll, all_failing, all_of_options}
use Rattle.cap_pcapng.specs.{Unit.section_by, Unit.Section, Unit.checks_among, Frame.frame_checks, declared.frames.BlockType.BlockType}
use Rattle.{cap_pcap.specs.Record.field_checks, cap_io.specs.Reading.read_failures}

-- ---- no check reports that the device failed, or that memory ran out

-- a fault that bytes have
abbrev pub is_own : Fault → Bool
is_own ReadFailed = false
is_own NoMemory = false
is_own fault = true

abbrev pub IsOwn : Fault → Type 0
IsOwn fault = is_own fault ≡ true

-- it counts no failure
pub own-unfailed : (X : Type 0) (fault : Fault) → IsOwn fault → read_failures {X = X} (Err fault) ≡ 0
own-unfailed X fault own = grind arith

abbrev AreOwn : List (Bool × Fault) → Type 0
AreOwn rows = AreAll IsOwn rows

-- ---- a block

own_among : (interfaces : List Described) (parts : Parts) → AreOwn (checks_among interfaces parts)
own_among interfaces SectionParts = tt
own_among interfaces (InterfaceParts link snap order options) = (refl, all_of_options IsOwn refl refl (InterfaceParts link snap order options))
own_among interfaces (EnhancedParts number ticks captured orig own rest) = (refl, (refl, (refl, tt)))
own_among interfaces (SimpleParts orig rest) = (refl, (refl, tt))
own_among interfaces SkippedParts = tt

own_body : (kind : BlockType) (order : Order) (body : List ℕ) → AreOwn (body_checks kind order body)
own_body kind order body = grind arith

own-block : (frame : Frame) (block : List ℕ) (fault : Fault) → first_failing (block_checks frame block) ≡ Some fault → IsOwn fault
own-block frame block fault fails = grind (arith, all_failing, own_body)

own-entered : (frame : Frame) (interfaces : List Described) (block : List ℕ) (fault : Fault)
    → first_failing (checks_among interfaces (parts_in frame block)) ≡ Some fault → IsOwn fault
own-entered frame interfaces block fault fails = grind (arith, all_failing, parts_in, own_among)

own-fault : (frame : Frame) (interfaces : List Described) (block : List ℕ) (fault : Fault) → IsBlockFault frame interfaces block fault → IsOwn fault
own-fault frame interfaces block fault is =
    elim is [
      | inl blocked ↦ own-block frame block fault blocked
      | inr among ↦ own-entered frame interfaces block fault among.1
    ]

pub entry-own : (frame : Frame) (interfaces : List Described) (block : List ℕ) (fault : Fault) → IsEntryFault frame interfaces block fault
    → read_failures {X = ℕ} (Err fault) ≡ 0
entry-own frame interfaces block fault is =
    elim is [
      | inl fails ↦ own-unfailed ℕ fault (own-fault frame interfaces block fault fails)
      | inr memory ↦ rw memory.0 refl
    ]

pub own-not_failed : (fault : Fault) → IsOwn fault → fault ≡ ReadFailed → ⊥
own-not_failed fault own failed = grind arith

pub own-not_memory : (fault : Fault) → IsOwn fault → fault ≡ NoMemory → ⊥
own-not_memory fault own memory = grind arith

-- memory runs out for an interface alone
pub entry-adds : (frame : Frame) (interfaces : List Described) (block : List ℕ) (fault : Fault) → IsEntryFault frame interfaces block fault
    → fault ≡ NoMemory → AddsInterface frame interfaces block
entry-adds frame interfaces block fault is memory =
    elim is [
      | inl fails ↦ absurd (own-not_memory fault (own-fault frame interfaces block fault fails) memory)
      | inr adds ↦ adds.1
    ]

pub own-fields : (head : Head) (text : List ℕ) (fault : Fault) → first_failing (field_checks head text) ≡ Some fault → IsOwn fault
own-fields head text fault fails = grind (arith, all_failing)

pub own-frame : (section : Option Order) (text : List ℕ) (fault : Fault) → first_failing (frame_checks section text) ≡ Some fault → IsOwn fault
own-frame section text fault fails = grind (arith, all_failing)

pub own-header : (text : List ℕ) (fault : Fault) → header_fault text ≡ Some fault → IsOwn fault
own-header text fault fails = grind (arith, all_failing)

pub entry-not_failed : (frame : Frame) (interfaces : List Described) (block : List ℕ) (fault : Fault) → IsEntryFault frame interfaces block fault
    → fault ≡ ReadFailed → ⊥
entry-not_failed frame interfaces block fault is failed = let own : read_failures {X = ℕ} (Err ReadFailed) ≡ 0 =
    rw failed at (entry-own frame interfaces block fault is) in omega (arith, own)

-- ---- a fault of an interface that fails no check

first_met : (met : Bool) (fault : Fault) (rows : List (Bool × Fault)) → first_failing ((met, fault) ∷ rows) ≡ None → met ≡ true
first_met met fault rows none = grind arith

pub one_more : (order : Order) (interfaces : List Described) (d : Described) (parts : Parts) → section_by (Some (section_of order interfaces)) order
    parts ≡ section_of order (interfaces ++ d ∷ [])
    → first_failing (checks_among interfaces parts) ≡ None → (length interfaces < most_interfaces) × (is_interface parts ≡ true)
one_more order interfaces d (InterfaceParts link snap own options) section among = grind (arith, ltb-true, first_met)
one_more order interfaces d parts section among =
    absurd (omega (arith, ap (λ (s : Section). length s.interfaces) section, length-append interfaces (d ∷ [])))

pub adds-one : (frame : Frame) (interfaces : List Described) (block : List ℕ) (d : Described) (fault : Fault) → Enters frame interfaces block None
    (interfaces ++ d ∷ []) → (length interfaces < most_interfaces → fault ≡ NoMemory)
    → IsEntryFault frame interfaces block fault
adds-one frame interfaces block d fault enters memory = grind (arith, one_more, parts_in)

-- How far a source has read the bytes that its device gives.
use Rattle.std.specs.Prelude.{◌≡◌, ℕ, ◌+◌, ◌<◌, ◌≤◌, Bool, true, false, List, [], ◌∷◌, ◌++◌, length, None, Some}
use Rattle.cap_octet.specs.{Device.HasGiven, Packet.Captured, declared.fault.Fault.Fault}
use Rattle.cap_io.specs.Capture.{Declared, Nothing, IsUnit, Placed, AreUnits, Items, FaultAt, NoUnit, front_of}
use Rattle.cap_io.specs.Reading.{FitUnits, TakesMemory, decisive_length}
use Rattle.cap_io.specs.Source.{SourceView, Reading, Ended, Failed}

-- the bytes that are read but not decided: the current unit if its packet waits, else none
abbrev pub pending : Bool → List ℕ → List ℕ
pending true block = block
pending false block = []

-- there is a current packet
pub record HasPacket (s : SourceView) : Type 0 where
  pub packet : Captured
  pub held : s.packet ≡ Some packet
  pub unit : IsUnit s.declared s.block (packet ∷ []) s.declared
  pub phase : s.phase ≡ Reading

-- a source is at the clean end: no bytes remain
pub record IsOver (s : SourceView) : Type 0 where
  pub ends : front_of s.declared [] ≡ NoUnit None
  pub unread : s.unread ≡ []
  pub block : s.block ≡ []
  pub packet : s.packet ≡ None

-- A source is past these done bytes of the capture, and may have a current packet. It met no fault.
pub record IsAt (text done : List ℕ) (packets : List Placed) (waiting : Bool)
    (s : SourceView) : Type 0 where
  -- the capture is the done, then the pending, then the unread bytes
  pub whole : text ≡ done ++ (pending waiting s.block ++ s.unread)
  -- the done bytes are complete units with these packets
  pub units : AreUnits Nothing 0 done packets s.declared
  -- the source counts the done bytes and the pending ones
  pub place : s.offset + length s.block ≡ length (done ++ pending waiting s.block)
  pub waits : waiting ≡ true → HasPacket s
  pub ended : s.phase ≡ Ended → IsOver s
  pub sound : (fault : Fault) → s.phase ≡ Failed fault → ⊥
  -- the buffer has room for each done unit, except the file header of pcap, and for the current one
  pub fit : FitUnits s.room Nothing done s.declared
  pub held : length s.block ≤ s.room

-- These items are those of the complete units at the start of a capture, and end with a fault at
-- the offset of the next unit.
pub record IsCutShort (text : List ℕ) (fault : Fault) (items : Items) : Type 0 where
  pub done : List ℕ
  pub rest : List ℕ
  pub joined : text ≡ done ++ rest
  pub units : AreUnits Nothing 0 done items.packets items.declared
  pub ending : items.ending ≡ FaultAt fault (length done)

-- the number of bytes that a device gives in all, if no read fails
abbrev pub given_in_all : SourceView → ℕ
given_in_all s = s.given + length s.unread

-- A read failed after these complete units, when `rest` remained: the device had given at least as
-- many bytes as it was sure to, and fewer than are needed to decide what comes next.
pub record ReadFailsAt (old new : SourceView) (text done rest : List ℕ)
    (declared : Declared) : Type 0 where
  pub failed : old.failures < new.failures
  pub enough : HasGiven old.sure new.given
  pub few : new.given + length text
      < given_in_all old + length done + decisive_length declared rest

-- Memory is needed after these complete units: the next unit's header states more bytes than a
-- buffer has room for that held each unit before (except the file header of pcap); or it describes
-- an interface.
pub record MemoryEndsAt (done rest : List ℕ) (declared : Declared) : Type 0 where
  pub room : ℕ
  pub fit : FitUnits room Nothing done declared
  pub takes : TakesMemory room declared rest

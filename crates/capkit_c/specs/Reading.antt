-- The result of reading the units of a capture in memory, in numbers for C.
use Rattle.std.specs.Prelude.{◌≡◌, ℕ, ◌+◌, List}
use Rattle.cap_octet.specs.Fault.{fault_number}
use Rattle.capkit_c.specs.{Texts.FOUND, Units.NextLeaves, Units.PacketLeaves, declared.memory.layout.Interface.Interface}
use Rattle.capkit_c.specs.declared.memory.{layout.Packet.Packet, layout.Reader.Reader, reader.Found.Found}

-- the number of what a call found
abbrev pub found_number : Found → ℕ
found_number Found.Packet = 0
found_number (Found.Fault fault) = FOUND + fault_number fault
found_number Found.End = 222
found_number Found.Unit = 223
found_number Found.NoRoom = 224

-- a call found the next packet, or why there is none: its effect is that of a search with this
-- result, and it returns the result's number
pub record CallLeaves (capture : List ℕ) (r r' : Reader) (t t' : List Interface) (p p' : Packet)
    (number : ℕ) : Type 0 where
  pub found : Found
  pub leaves : PacketLeaves capture r r' t t' p p' found
  pub exact : number ≡ found_number found

-- a call found something: its effect is that of a call with this result, and it returns the
-- result's number
pub record UnitLeaves (capture : List ℕ) (r r' : Reader) (t t' : List Interface) (p p' : Packet)
    (number : ℕ) : Type 0 where
  pub found : Found
  pub leaves : NextLeaves capture r r' t t' p p' found
  pub exact : number ≡ found_number found

-- The result of writes for C, in numbers.
use Rattle.std.specs.Prelude.{◌≡◌, ℕ, ◌+◌, List, Option}
use Rattle.cap_octet.specs.{Fault.fault_number, declared.fault.Fault.Fault}
use Rattle.capkit_c.specs.{Buffers.WriteLeaves, Texts.FOUND, declared.memory.writing.Written.Written}

-- the number for the result of a write
abbrev pub written_number : Written → ℕ
written_number (Written.Whole count) = 0
written_number (Written.NoRoom count) = 225
written_number (Written.Refused fault) = FOUND + fault_number fault

-- the number of bytes that are written, or would be if there were room; 0 if they are refused
abbrev pub written_length : Written → ℕ
written_length (Written.Whole count) = count
written_length (Written.NoRoom count) = count
written_length (Written.Refused fault) = 0

-- the bytes are written, or there is no room, or they are refused; number and length state which
pub record WriteTells (refusal : Option Fault) (bytes old new : List ℕ)
    (length number : ℕ) : Type 0 where
  pub written : Written
  pub leaves : WriteLeaves refusal bytes old new written
  pub exact : number ≡ written_number written
  pub counted : length ≡ written_length written

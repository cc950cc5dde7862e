-- What a device over a reader or writer of std returns, by what that reader or writer returned.
use Rattle.std.specs.Io.{ReadsAtMost, StartsWith, WritesAtMost}
use Rattle.std.specs.Io.KnownBytes.{Consumes, ReadConsumes, WriteAppends}
use Rattle.std.specs.IoError.{error_kind}
use Rattle.std.specs.Prelude.{◌≡◌, ◌⊎◌, ℕ, ◌+◌, ◌^◌, ◌≤◌, ◌<◌, Bool, true, false, if◌then◌else◌, nat_lt, List, [], length, take, Option, Some, Result, Ok, Err}
use Rattle.std.specs.declared.io.{Error.Error, ErrorKind.ErrorKind, ErrorKind.TheVariants.WriteZero}
use Rattle.cap_octet.specs.declared.device.DeviceFault.{DeviceFault}

-- The device returns what the reader returned; `given` bytes were given before. If it fails though
-- the reader didn't, the read would have reached 2^63 bytes in all.
abbrev pub HandsOver : ℕ → Result ℕ Error → Result ℕ DeviceFault → Type 0
HandsOver given (Ok n) (Ok count) = count ≡ n
HandsOver given (Ok n) (Err fault) = 2 ^ 63 ≤ given + n
HandsOver given (Err e) (Ok count) = ⊥
HandsOver given (Err e) (Err fault) = Unit {0}

-- The reader was read once in this call. Or it wasn't read, and the device's buffer has the first
-- bytes that the reader's own buffer held; so a device that fails has read its reader.
abbrev pub ReadsOnce : (held : List ℕ) (calls : ℕ) → Result ℕ DeviceFault → (buf' : List ℕ)
    (calls' : ℕ) → Type 0
ReadsOnce held calls (Ok n) buf' calls' =
    (calls' ≡ calls + 1) ⊎ ((calls' ≡ calls) × (n ≡ length buf') × StartsWith held buf')
ReadsOnce held calls (Err fault) buf' calls' = calls' ≡ calls + 1

-- One read of a reader into this buffer, and what the device returns for what the reader returned
-- (`answer`). All that std states of a read is known: no byte is lost of a reader whose bytes are
-- known, unless the read reaches 2^63 bytes in all, which is a failure.
pub record IsOneRead (held : List ℕ) (remaining : Option (List ℕ)) (given calls : ℕ)
    (result : Result ℕ DeviceFault) (remaining' : Option (List ℕ)) (buf' : List ℕ)
    (calls' : ℕ) : Type 0 where
  pub once : ReadsOnce held calls result buf' calls'
  pub answer : Result ℕ Error
  pub bound : ReadsAtMost answer buf'
  pub bytes : ReadConsumes remaining remaining' answer buf'
  pub hands : HandsOver given answer result

-- The bytes at hand of a device that has given this many: those that its reader's buffer holds, or
-- none if 2^63 in all would be reached by them.
abbrev pub bytes_at_hand : (given : ℕ) (buffer : List ℕ) → List ℕ
bytes_at_hand given buffer = if nat_lt (given + length buffer) (2 ^ 63) then buffer else []

-- The next `count` bytes, which the reader's buffer held, are consumed as by a read (true); or no
-- bytes are, and the same remain as before (false).
abbrev pub IsPassed : (held : List ℕ) (remaining : Option (List ℕ)) (count : ℕ) → Bool
    → (remaining' : Option (List ℕ)) → Type 0
IsPassed held remaining count true remaining' =
    (count ≤ length held) × Consumes remaining remaining' (take count held)
IsPassed held remaining count false remaining' = remaining' ≡ remaining

-- The device returns what the writer returned. If it fails though the writer didn't, the writer
-- accepted 0 of one or more bytes.
abbrev pub TakesOver : List ℕ → Result ℕ Error → Result ℕ DeviceFault → Type 0
TakesOver buf (Ok n) (Ok count) = count ≡ n
TakesOver buf (Ok n) (Err fault) = (n ≡ 0) × (0 < length buf)
TakesOver buf (Err e) (Ok count) = ⊥
TakesOver buf (Err e) (Err fault) = Unit {0}

-- Why the writer last failed: by its own error, or because it accepted 0 of one or more bytes; None
-- if it never failed. A write that succeeds doesn't change this.
abbrev pub cause_after : Option ErrorKind → Result ℕ Error → Result ℕ DeviceFault → Option ErrorKind
cause_after cause answer (Ok count) = cause
cause_after cause (Ok n) (Err fault) = Some WriteZero
cause_after cause (Err e) (Err fault) = Some (error_kind e)

-- one write of these bytes to a writer, and what the device returns for what the writer returned
-- (`answer`)
pub record IsOneWrite (contents : Option (List ℕ)) (cause : Option ErrorKind) (calls : ℕ)
    (buf : List ℕ) (result : Result ℕ DeviceFault) (contents' : Option (List ℕ))
    (cause' : Option ErrorKind) (calls' : ℕ) : Type 0 where
  pub once : calls' ≡ calls + 1
  pub answer : Result ℕ Error
  pub bound : WritesAtMost answer buf
  pub bytes : WriteAppends contents contents' answer buf
  pub hands : TakesOver buf answer result
  pub why : cause' ≡ cause_after cause answer result

-- Bytes of captures in the caller's buffer, and packets that can't be written.
use Rattle.std.specs.Prelude.{◌≡◌, ℕ, ◌<◌, ◌≤◌, Bool, List, [], ◌∷◌, ◌++◌, length, drop, nat_lt, nat_le, Option, None, Some}
use Rattle.cap_octet.specs.{Date.TIME_END, Packet.Captured, declared.fault.Fault.Fault}
use Rattle.cap_octet.specs.declared.fault.Fault.TheVariants.{BadOption, TimeOutOfRange, TooManyOutputInterfaces}
use Rattle.cap_io.specs.Text.{most_output_interfaces}
use Rattle.cap_pcap.specs.Encoding as pcap
use Rattle.cap_pcapng.specs.Encoding as pcapng
use Rattle.capkit_c.specs.declared.memory.writing.Written.{Written}

-- a packet with the fields of its record or block
abbrev pub written_packet : (time orig : ℕ) → (bytes comment : List ℕ) → Captured
written_packet time orig bytes comment =
    record {
      link = 0;
      snap = 0;
      name = [];
      time = time;
      orig = orig;
      bytes = bytes;
      comment = comment;
    }

-- the checks of a packet before it is written, in order: those that every packet read meets, and
-- then those of the format
abbrev pub written_record_checks : Captured → List (Bool × Fault)
written_record_checks p = (nat_lt p.time TIME_END, TimeOutOfRange) ∷ pcap.record_fit_checks p

-- the checks of a packet before it is written as a block, if its interface has this number
abbrev pub written_block_checks : (number : ℕ) → Captured → List (Bool × Fault)
written_block_checks number p =
    (nat_lt p.time TIME_END, TimeOutOfRange)
    ∷ (nat_le (length p.comment) 65535, BadOption)
    ∷ pcapng.block_fit_checks p
    ++ (nat_lt number most_output_interfaces, TooManyOutputInterfaces)
    ∷ []

-- the checks of an interface before it is described
abbrev pub interface_checks : (name : List ℕ) → List (Bool × Fault)
interface_checks name = (nat_le (length name) 255, BadOption) ∷ []

-- all bytes are at the start of the buffer, and what is after them is unchanged
pub record StandWhole (bytes old new : List ℕ) (count : ℕ) : Type 0 where
  pub counted : count ≡ length bytes
  pub fits : length bytes ≤ length old
  pub put : new ≡ bytes ++ drop (length bytes) old

-- the buffer has room for fewer bytes, and is unchanged
pub record FindNoRoom (bytes old new : List ℕ) (count : ℕ) : Type 0 where
  pub counted : count ≡ length bytes
  pub short : length old < length bytes
  pub kept : new ≡ old

-- the result of writing into a buffer: the bytes, unless a check fails or the buffer is too small
abbrev pub WriteLeaves : Option Fault → (bytes old new : List ℕ) → Written → Type 0
WriteLeaves refusal bytes old new (Written.Whole count) =
    (refusal ≡ None) × StandWhole bytes old new count
WriteLeaves refusal bytes old new (Written.NoRoom count) =
    (refusal ≡ None) × FindNoRoom bytes old new count
WriteLeaves refusal bytes old new (Written.Refused fault) = (refusal ≡ Some fault) × (new ≡ old)

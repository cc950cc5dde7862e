-- A record of a pcap file: its checks, in their order, and its packet (draft-ietf-opsawg-pcap,
-- "Packet Record").
use Rattle.std.specs.Prelude.{◌≡◌, ℕ, ◌+◌, ◌*◌, Bool, List, [], ◌∷◌, ◌++◌, length, drop, nat_lt, nat_le, Option, None}
use Rattle.cap_octet.specs.Checks.{first_failing}
use Rattle.cap_octet.specs.{Date.NANOS_PER_SECOND, Number.u32_in, Packet.Captured, declared.fault.Fault.Fault}
use Rattle.cap_octet.specs.declared.fault.Fault.TheVariants.{Truncated, TooLong, TimeOutOfRange}
use Rattle.cap_pcap.specs.declared.header.{Head.Head, RecordHead.RecordHead, Resolution.Resolution}
use Rattle.cap_pcap.specs.declared.header.Resolution.TheVariants.{Microseconds, Nanoseconds}

-- the greatest captured length of a record
abbrev pub most_captured : ℕ
most_captured = 262144

-- the fractions per second of a resolution
abbrev pub parts_of_second : Resolution → ℕ
parts_of_second Microseconds = 1000000
parts_of_second Nanoseconds = NANOS_PER_SECOND

-- the nanoseconds per fraction of a resolution
abbrev pub nanoseconds_of_part : Resolution → ℕ
nanoseconds_of_part Microseconds = 1000
nanoseconds_of_part Nanoseconds = 1

-- the captured length in a record's header
abbrev pub captured_len : Head → List ℕ → ℕ
captured_len head text = u32_in head.order text 8

-- the length of the record that these bytes begin with, as its header states it
abbrev pub record_size : Head → List ℕ → ℕ
record_size head text = 16 + captured_len head text

-- the checks of a record's header, in order: the captured length, and the fraction of a second
abbrev pub field_checks : Head → List ℕ → List (Bool × Fault)
field_checks head text =
    (nat_le (captured_len head text) most_captured, TooLong)
    ∷ (nat_lt (u32_in head.order text 4) (parts_of_second head.resolution), TimeOutOfRange)
    ∷ []

-- the checks of a record, in order, on bytes that begin with it
abbrev pub record_checks : Head → List ℕ → List (Bool × Fault)
record_checks head text =
    (nat_le 16 (length text), Truncated)
    ∷ field_checks head text
    ++ (nat_le (record_size head text) (length text), Truncated)
    ∷ []

-- the first check of a record that these bytes fail; None if they begin with one
abbrev pub record_fault : Head → List ℕ → Option Fault
record_fault head text = first_failing (record_checks head text)

-- the time of a record in nanoseconds since 1970-01-01 00:00:00 UTC, from its seconds and fraction
abbrev pub record_time : Head → List ℕ → ℕ
record_time head text =
    u32_in head.order text 0 * NANOS_PER_SECOND
    + u32_in head.order text 4 * nanoseconds_of_part head.resolution

-- the original length in a record's header
abbrev pub orig_in : Head → List ℕ → ℕ
orig_in head text = u32_in head.order text 12

-- the fields of a record's header, which is 16 bytes long
abbrev pub record_header_in : Head → List ℕ → RecordHead
record_header_in head text = record {
  time = record_time head text;
  captured = captured_len head text;
  orig = orig_in head text;
}

-- These bytes are one record, which fails no check.
pub record IsRecord (head : Head) (bytes : List ℕ) : Type 0 where
  pub passes : record_fault head bytes ≡ None
  pub whole : length bytes ≡ record_size head bytes

-- the packet in a record
abbrev pub record_packet : Head → List ℕ → Captured
record_packet head bytes = record {
  link = head.link;
  snap = head.snap;
  name = [];
  time = record_time head bytes;
  orig = orig_in head bytes;
  bytes = drop 16 bytes;
  comment = [];
}

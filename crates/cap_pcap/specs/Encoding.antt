-- Pcap files as they are written: their headers, and which packets they can hold.
use Rattle.std.specs.Prelude.{ℕ, ◌^◌, ◌/◌, ◌%◌, Bool, List, [], ◌∷◌, ◌++◌, length, nat_lt, nat_le}
use Rattle.byteorder.specs.Endian.{little_bytes}
use Rattle.cap_octet.specs.{Date.NANOS_PER_SECOND, Packet.Captured}
use Rattle.cap_octet.specs.declared.fault.Fault.{Fault, TheVariants.TooLong, TheVariants.TimeOutOfRange}
use Rattle.cap_octet.specs.declared.format.Format.{Format, TheVariants.Pcap, TheVariants.NsecPcap, TheVariants.Pcapng}
use Rattle.cap_pcap.specs.{Header.magic, Record.most_captured, Record.nanoseconds_of_part}
use Rattle.cap_pcap.specs.declared.header.Resolution.{Resolution, TheVariants.Microseconds, TheVariants.Nanoseconds}

-- the formats whose headers are defined here
abbrev pub IsPcap : Format → Type 0
IsPcap Pcap = Unit {0}
IsPcap NsecPcap = Unit {0}
IsPcap Pcapng = ⊥

-- the resolution of a format's times; arbitrary for pcapng, which doesn't use it
abbrev pub resolution_of : Format → Resolution
resolution_of Pcap = Microseconds
resolution_of NsecPcap = Nanoseconds
resolution_of Pcapng = Nanoseconds

-- the file header, little-endian: magic number, version 2.4, two reserved numbers, snap length,
-- link type; the snap length is always 262,144, the greatest captured length of a record
abbrev pub file_header : Resolution → ℕ → List ℕ
file_header resolution link =
    little_bytes 4 (magic resolution) ++ little_bytes 2 2 ++ little_bytes 2 4 ++ little_bytes 4 0
    ++ little_bytes 4 0
    ++ little_bytes 4 most_captured ++ little_bytes 4 link

-- the fields before a packet's data, little-endian: seconds, fraction of a second (cut off to
-- microseconds in `pcap`), captured length, original length
abbrev pub record_header : Resolution → Captured → List ℕ
record_header resolution p =
    little_bytes 4 (p.time / NANOS_PER_SECOND)
    ++ little_bytes 4 (p.time % NANOS_PER_SECOND / nanoseconds_of_part resolution)
    ++ little_bytes 4 (length p.bytes) ++ little_bytes 4 p.orig

-- the checks of a packet before it is written, in order: its captured length, and the second of its
-- time
abbrev pub record_fit_checks : Captured → List (Bool × Fault)
record_fit_checks p =
    (nat_le (length p.bytes) most_captured, TooLong)
    ∷ (nat_lt (p.time / NANOS_PER_SECOND) (2 ^ 32), TimeOutOfRange)
    ∷ []

-- From the ticks of an interface to a time (draft-ietf-opsawg-pcapng, options if_tsresol and
-- if_tsoffset).
use Rattle.std.specs.Prelude.{ℕ, ◌*◌, ◌/◌, ◌^◌, ◌-◌, ℤ, pos, negsuc, ◌+ℤ◌, ◌*ℤ◌, if◌then◌else◌, Bool, nat_le, nat_lt, Option, Some, None}
use Rattle.cap_octet.specs.Date.{NANOS_PER_SECOND, TIME_END}

-- The nanoseconds since 1970 of these ticks, of which `units` are a second, after an offset in
-- seconds is added. Fractions of a nanosecond are cut off.
abbrev pub nanoseconds : ℕ → ℕ → ℤ → ℤ
nanoseconds ticks units offset =
    pos (ticks * NANOS_PER_SECOND / units) +ℤ (offset *ℤ pos NANOS_PER_SECOND)

-- nanoseconds that are a time: from 0 to 2^63 - 1; else None
abbrev pub time_by : ℤ → Option ℕ
time_by (pos n) = if nat_lt n TIME_END then Some n else None
time_by (negsuc n) = None

-- the time of these ticks, of which `units` are a second, after an offset in seconds is added; None
-- if it isn't from 0 to 2^63 - 1
abbrev pub representable_time : ℕ → ℕ → ℤ → Option ℕ
representable_time ticks units offset = time_by (nanoseconds ticks units offset)

-- whether a byte is a resolution: the exponent of a negative power of ten, at most 12; or, if its
-- top bit is set, that of a negative power of two, at most 32
abbrev pub is_resolution : ℕ → Bool
is_resolution byte = if nat_lt byte 128 then nat_le byte 12 else nat_le (byte - 128) 32

-- the ticks per second of this resolution
abbrev pub units_per_second : ℕ → ℕ
units_per_second byte = if nat_lt byte 128 then 10 ^ byte else 2 ^ (byte - 128)

-- the ticks per second if no resolution is given
abbrev pub microseconds : ℕ
microseconds = 1000000

-- The file header of a pcap file: its checks, in their order, and its fields
-- (draft-ietf-opsawg-pcap, "File Header").
use Rattle.std.specs.Prelude.{◌≡◌, ℕ, ◌==◌, ◌&&◌, if◌then◌else◌, Bool, List, [], ◌∷◌, length, nat_lt, nat_le, Option, Some, None, is_some, unwrap_or}
use Rattle.cap_octet.specs.{Checks.first_failing, Number.u16_in, Number.u32_in, declared.fault.Fault.Fault}
use Rattle.cap_octet.specs.declared.fault.Fault.TheVariants.{NotACaptureFile, Truncated, BadVersion, BadLinkTypeField}
use Rattle.cap_octet.specs.declared.number.Order.{Order, TheVariants.Little, TheVariants.Big}
use Rattle.cap_pcap.specs.declared.header.{Head.Head, Resolution.Resolution}
use Rattle.cap_pcap.specs.declared.header.Resolution.TheVariants.{Microseconds, Nanoseconds}

-- the magic number of a file of this resolution, which its first four bytes hold
abbrev pub magic : Resolution → ℕ
magic Microseconds = 0xa1b2c3d4
magic Nanoseconds = 0xa1b23c4d

-- the byte order in which the first four bytes are a magic number, and the resolution that this
-- number means; None if they are one in neither order
abbrev pub form_in : List ℕ → Option (Order × Resolution)
form_in text =
    if u32_in Little text 0 == magic Microseconds then Some (Little, Microseconds)
    else (if u32_in Little text 0 == magic Nanoseconds then Some (Little, Nanoseconds)
    else (if u32_in Big text 0 == magic Microseconds then Some (Big, Microseconds)
    else (if u32_in Big text 0 == magic Nanoseconds then Some (Big, Nanoseconds)
    else None)))

-- byte order and resolution of a file; arbitrary without a magic number, since the first check
-- fails then
abbrev pub form_of : List ℕ → Order × Resolution
form_of text = unwrap_or (form_in text) (Little, Microseconds)

-- the checks of a file header, in order, on bytes that begin with it
abbrev pub header_checks : List ℕ → List (Bool × Fault)
header_checks text =
    let order = (form_of text).0 in
    (nat_le 4 (length text) && is_some (form_in text), NotACaptureFile)
    ∷ (nat_le 24 (length text), Truncated)
    ∷ (u16_in order text 4 == 2 && u16_in order text 6 == 4, BadVersion)
    ∷ (nat_lt (u32_in order text 20) 65536, BadLinkTypeField)
    ∷ []

-- the first check of a file header that these bytes fail; None if they begin with one
abbrev pub header_fault : List ℕ → Option Fault
header_fault text = first_failing (header_checks text)

-- the fields of a file header
abbrev pub header_in : List ℕ → Head
header_in text =
    let form = form_of text in
    record {
      order = form.0;
      resolution = form.1;
      snap = u32_in form.0 text 16;
      link = u32_in form.0 text 20;
    }

-- These bytes are a file header, which fails no check and has these fields.
pub record IsHeader (bytes : List ℕ) (head : Head) : Type 0 where
  pub passes : header_fault bytes ≡ None
  pub whole : length bytes ≡ 24
  pub says : head ≡ header_in bytes

-- The first 24 bytes determine the file header and its first failing check.
use Rattle.std.proofs.Common.{◌≡◌, ℕ, ◌<◌, ◌≤◌, true, List, ◌++◌, length, Some, None, is_some, arith}
use Rattle.std.proofs.lemmas.{Bool.leb-true, List.length-append}
use Rattle.cap_octet.specs.declared.fault.Fault.TheVariants.{NotACaptureFile, Truncated}
use Rattle.cap_octet.proofs.{Checks.all_met, Numbers.number_in-append}
use Rattle.cap_pcap.specs.Header.{form_in, header_checks, header_fault, header_in}

-- ---- more bytes after

pub form_in-append : (front more : List ℕ) → 4 ≤ length front → form_in (front ++ more) ≡ form_in front
form_in-append front more enough = grind (arith, number_in-append)

pub header_in-append : (front more : List ℕ) → 24 ≤ length front → header_in (front ++ more) ≡ header_in front
header_in-append front more enough = grind (arith, number_in-append, form_in-append front more (omega arith))

pub header_fault-append : (front more : List ℕ) → 24 ≤ length front → header_fault (front ++ more) ≡ header_fault front
header_fault-append front more enough =
    grind (arith, number_in-append, length-append {A = ℕ}, form_in-append front more (omega arith))

-- ---- the first checks

pub header_fault-no_magic : (text : List ℕ) → form_in text ≡ None → header_fault text ≡ Some NotACaptureFile
header_fault-no_magic text none = grind arith

pub header_fault-short : (text : List ℕ) → is_some (form_in text) ≡ true → 4 ≤ length text → length text < 24 → header_fault text ≡ Some Truncated
header_fault-short text some enough short = grind arith

-- ---- all checks

pub header_fault-none : (text : List ℕ) → header_fault text ≡ None → 24 ≤ length text
header_fault-none text none =
    let met = all_met (header_checks text) none in
    leb-true 24 (length text) met.1.0

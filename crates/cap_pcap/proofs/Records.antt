-- The bytes of a record determine its packet and its first failing check, whatever follows them.
use Rattle.std.proofs.Common.{◌≡◌, ℕ, ◌+◌, ◌<◌, ◌≤◌, List, ◌++◌, length, take, drop, Some, None, arith}
use Rattle.std.proofs.lemmas.List.{length-append, length-take-le, take-append-drop}
use Rattle.cap_octet.specs.Checks.{first_failing}
use Rattle.cap_octet.specs.declared.fault.Fault.{Fault, TheVariants.Truncated}
use Rattle.cap_octet.proofs.{Numbers.number_in-append}
use Rattle.cap_pcap.specs.Record.{captured_len, record_size, field_checks, record_fault, record_header_in, IsRecord}
use Rattle.cap_pcap.specs.declared.header.Head.{Head}

-- ---- more bytes after

pub captured_len-append : (head : Head) (front more : List ℕ) → 16 ≤ length front → captured_len head (front ++ more) ≡ captured_len head front
captured_len-append head front more enough = number_in-append head.order 4 front more 8 (omega arith)

pub field_checks-append : (head : Head) (front more : List ℕ) → 16 ≤ length front → field_checks head (front ++ more) ≡ field_checks head front
field_checks-append head front more enough = grind (arith, number_in-append)

pub record_header_in-append : (head : Head) (front more : List ℕ) → 16 ≤ length front → record_header_in head (front ++ more) ≡ record_header_in head front
record_header_in-append head front more enough = grind (arith, number_in-append)

-- ---- the checks, one after another

pub record_fault-fields : (head : Head) (text : List ℕ) (fault : Fault) → 16 ≤ length text → first_failing (field_checks head text) ≡ Some fault
    → record_fault head text ≡ Some fault
record_fault-fields head text fault enough fails = grind arith

pub record_fault-short : (head : Head) (text : List ℕ) → 16 ≤ length text → first_failing (field_checks head text) ≡ None → length text < record_size
    head text → record_fault head text ≡ Some Truncated
record_fault-short head text enough none short = grind arith

pub record_fault-whole : (head : Head) (text : List ℕ) → 16 ≤ length text → first_failing (field_checks head text) ≡ None → record_size head text ≤
    length text → record_fault head text ≡ None
record_fault-whole head text enough none whole = grind arith

-- ---- the checks on bytes

pub record Passes (head : Head) (text : List ℕ) : Type 0 where
  pub enough : 16 ≤ length text
  pub fields : first_failing (field_checks head text) ≡ None
  pub whole : record_size head text ≤ length text

pub passes : (head : Head) (text : List ℕ) → record_fault head text ≡ None → Passes head text
passes head text none = grind arith

-- a record at the front of a text
pub IsRecord-front : (head : Head) (bytes more : List ℕ) → IsRecord head bytes → (record_fault head (bytes ++ more) ≡ None)
    × (record_size head (bytes ++ more) ≡ length bytes)
IsRecord-front head bytes more is = grind (arith, number_in-append, length-append {A = ℕ}, passes head bytes is.passes)

-- bytes that were read one after another are a record
pub IsRecord-came : (head : Head) (bytes : List ℕ) → 16 ≤ length bytes → first_failing (field_checks head (take 16 bytes)) ≡ None
    → length bytes ≡ 16 + captured_len head (take 16 bytes) → IsRecord head bytes
IsRecord-came head bytes enough none size =
    let front : length (take 16 bytes) ≡ 16 = length-take-le 16 bytes enough in
    let joined : take 16 bytes ++ drop 16 bytes ≡ bytes = take-append-drop 16 bytes in
    grind (arith, number_in-append)

-- the record at the start of bytes that fail no check
pub IsRecord-take : (head : Head) (text : List ℕ) → record_fault head text ≡ None → IsRecord head (take (record_size head text) text)
IsRecord-take head text none =
    let p = passes head text none in
    let size : length (take (record_size head text) text) ≡ record_size head text = length-take-le (record_size head text) text p.whole in
    let joined : take (record_size head text) text ++ drop (record_size head text) text ≡ text = take-append-drop (record_size head text) text in
    grind (arith, number_in-append)

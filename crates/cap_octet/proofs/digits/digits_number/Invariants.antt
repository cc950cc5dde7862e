-- The number so far, followed by the remaining digits, is the whole number.
use Rattle.std.proofs.Common.{◌≡◌, drop}
use Rattle.std.specs.Str.Parse.{digits_value, digits_value_after}
use Rattle.cap_octet.proofs.digits.digits_number.Given as goal

abbrev pub invariant-loop-byte : goal.invariant-loop-byte
invariant-loop-byte l = digits_value_after l.radix l.number (drop l.byte-index l.digits) ≡ digits_value l.radix l.digits

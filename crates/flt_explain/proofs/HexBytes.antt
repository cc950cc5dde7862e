-- A byte in two hexadecimal digits.
use Rattle.std.proofs.Common.{◌≡◌, ℕ, ◌<◌, ◌^◌, ◌-◌, [], false}
use Rattle.std.proofs.lemmas.Fmt.{hex_byte}
use Rattle.std.specs.Fmt.{digits, format_spec, padded_integral}
use Rattle.flt_explain.specs.Texts as texts

pub hex_byte_is : (n : ℕ) → n < 256 → padded_integral (format_spec 32 0 4 2 (2 ^ 64 - 1)) false [] (digits 16 false n) ≡ texts.hex_byte n
hex_byte_is n small = hex_byte false n small

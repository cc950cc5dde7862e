-- Numbers in bytes, in either order.
use Rattle.std.specs.Prelude.{ℕ, List, drop}
use Rattle.byteorder.specs.Endian.{big_number, little_number}
use Rattle.cap_octet.specs.declared.number.Order.{Order, TheVariants.Little, TheVariants.Big}

-- the number in the `width` bytes from place `at`
unfoldable pub number_in : Order → ℕ → List ℕ → ℕ → ℕ
number_in Little width bytes at = little_number width (drop at bytes)
number_in Big width bytes at = big_number width (drop at bytes)

-- the number in the two bytes from place `at`
abbrev pub u16_in : Order → List ℕ → ℕ → ℕ
u16_in order bytes at = number_in order 2 bytes at

-- the number in the four bytes from place `at`
abbrev pub u32_in : Order → List ℕ → ℕ → ℕ
u32_in order bytes at = number_in order 4 bytes at

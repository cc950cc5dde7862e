-- Sixteen digits are twice eight.
use Rattle.std.proofs.Common.{refl}
use Rattle.cap_print.specs.Hexadecimal.{hex_four, hex_eight, hex_sixteen}
use Rattle.cap_print.proofs.hexadecimal.hex_sixteen.Goals as goal

pub returns : goal.returns
unfolding hex_sixteen hex_eight hex_four
returns c = rw (c.hex_eight-high.ensures, c.hex_eight-low.ensures) refl

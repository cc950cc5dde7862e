-- Each range of numbers has its count of digits.
use Rattle.std.proofs.Common.{refl, arith}
use Rattle.cap_print.specs.Hexadecimal.{hex_four}
use Rattle.cap_print.proofs.Digits.{group_of_one, group_of_two, group_of_three, group_of_four}
use Rattle.cap_print.proofs.hexadecimal.push_hex_group.Goals as goal

pub returns-in_default-clause-value : goal.returns-in_default-clause-value
unfolding hex_four
returns-in_default-clause-value c =
    rw (group_of_one c.args.number (omega arith), c.push.ensures, c.hex_four.ensures) refl

pub returns-in-16-to-65535-clause-value : goal.returns-in-16-to-65535-clause-value
unfolding hex_four
returns-in-16-to-65535-clause-value c =
    rw (group_of_two c.args.number (omega arith) (omega arith), c.push_all.ensures, c.hex_four.ensures) refl

pub returns-in-256-to-65535-clause-value : goal.returns-in-256-to-65535-clause-value
unfolding hex_four
returns-in-256-to-65535-clause-value c =
    rw (group_of_three c.args.number (omega arith) (omega arith), c.push_all-in-256-to-65535.ensures, c.hex_four.ensures) refl

pub returns-in-4096-to-65535-clause-value : goal.returns-in-4096-to-65535-clause-value
unfolding hex_four
returns-in-4096-to-65535-clause-value c =
    rw (group_of_four c.args.number (omega arith), c.push_all-in-4096-to-65535.ensures, c.hex_four.ensures) refl

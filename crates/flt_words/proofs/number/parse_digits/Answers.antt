-- The tests on the digits find their number, or that it doesn't fit.
use Rattle.std.proofs.Common.{arith}
use Rattle.flt_words.proofs.Numbers.{does_not_fit, fits, some_from_test, writes_from_tests, writes_pass}
use Rattle.flt_words.proofs.number.parse_digits.Goals as goal

pub returns-then-is_empty : goal.returns-then-is_empty
returns-then-is_empty c = search (arith, some_from_test, writes_pass)

pub returns-in-Some-2 : goal.returns-in-Some-2
returns-in-Some-2 c = search (arith, writes_from_tests, fits)

-- the number is there, and too large
pub returns-in-Some : goal.returns-in-Some
returns-in-Some c = search (arith, writes_from_tests, does_not_fit)

pub returns-in-None : goal.returns-in-None
returns-in-None c = search (arith, writes_from_tests, does_not_fit)

-- Pairs of digits, the highest first, are the decimal number.
use Rattle.std.proofs.Common.{refl, arith, append_assoc}
use Rattle.cap_print.proofs.Digits.{decimal_pair, decimal_two_pairs}
use Rattle.cap_print.proofs.text.Text.push_decimal.Goals as goal

pub returns-then-number-lt10000-clause-value : goal.returns-then-number-lt10000-clause-value
returns-then-number-lt10000-clause-value c =
    rw (
      decimal_pair c.args.number (omega arith) (omega arith),
      c.push_all.ensures,
      c.push_below_100-then-number-lt10000.ensures.value,
      c.two_digits.ensures,
      append_assoc,
    ) refl

pub returns-then-number-lt1000000-clause-value : goal.returns-then-number-lt1000000-clause-value
returns-then-number-lt1000000-clause-value c =
    rw (
      decimal_two_pairs c.args.number (omega arith) (omega arith),
      c.push_all-then-number-lt1000000-2.ensures,
      c.push_all-then-number-lt1000000.ensures,
      c.push_below_100-then-number-lt1000000.ensures.value,
      c.two_digits-then-number-lt1000000.ensures,
      c.two_digits-then-number-lt1000000-2.ensures,
    )
    (simp append_assoc)

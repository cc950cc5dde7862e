-- A number below 100 has one digit or two.
use Rattle.std.proofs.{Common.refl, Common.arith, lemmas.Fmt.decimal_digit}
use Rattle.cap_print.proofs.Digits.{decimal_two}
use Rattle.cap_print.proofs.text.Text.push_below_100.Goals as goal

pub returns-then-number-lt10-clause-value : goal.returns-then-number-lt10-clause-value
returns-then-number-lt10-clause-value c = rw (decimal_digit c.args.number c.if-number-lt10.true, c.push.ensures) refl

pub returns-else-number-lt10-clause-value : goal.returns-else-number-lt10-clause-value
returns-else-number-lt10-clause-value c =
    rw (decimal_two c.args.number (omega arith) c.requires.short, c.push_all.ensures, c.two_digits.ensures) refl

-- A number is read if and only if the word is one and fits 64 bits.
use Rattle.capkit.proofs.Numbers.{is_read}
use Rattle.capkit.proofs.range.number_in.Goals as goal

pub returns-clause-number : goal.returns-clause-number
returns-clause-number c = (is_read c.args.text.now _ (rw c.as_bytes.ensures.value at c.decimal_value.ensures)).0

pub returns-clause-none : goal.returns-clause-none
returns-clause-none c = (is_read c.args.text.now _ (rw c.as_bytes.ensures.value at c.decimal_value.ensures)).1

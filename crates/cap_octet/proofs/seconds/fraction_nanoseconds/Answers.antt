-- Up to nine digits of a fraction, filled with zeros, are its nanoseconds.
use Rattle.std.proofs.Common.{◌≡◌, ◌∙◌, sym, arith, Some, None}
use Rattle.cap_octet.{specs.Digits.decimal_value, proofs.Numerals.few_in_u64, proofs.Spans.part_below, proofs.Spans.part_none}
use Rattle.cap_octet.proofs.seconds.fraction_nanoseconds.Goals as goal

pub returns-in_err-number : goal.returns-in_err-number
returns-in_err-number c =
    let none : decimal_value c.args.text.now ≡ None = sym (few_in_u64 c.args.text.now (omega arith)) ∙ sym c.decimal_value.ensures ∙ c.in_err-number.was in
    c.from_residual.ensures ∙ sym (part_none c.args.text.now none)

pub overflow_mul-result : goal.overflow_mul-result
overflow_mul-result c =
    let some : decimal_value c.args.text.now ≡ Some c.in_ok-number.number = sym (few_in_u64 c.args.text.now (omega arith))
    ∙ sym c.decimal_value.ensures ∙ c.in_ok-number.was in
    rw c.pow.ensures (let small = part_below c.args.text.now c.in_ok-number.number (omega arith) some in omega arith)

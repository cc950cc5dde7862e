-- The parts before and after the point make up the duration, and without a point the fraction is 0.
use Rattle.std.proofs.Common.{◌≡◌, ◌∙◌, sym, Some, None, ◌==◌, ◌+◌, take, drop, position}
use Rattle.std.proofs.lemmas.List.{take_rest}
use Rattle.cap_octet.{specs.Seconds.fraction_nanoseconds, specs.Seconds.duration_value, specs.Digits.decimal_value, proofs.Spans.duration_of_parts_in_u64}
use Rattle.cap_octet.proofs.seconds.span_of.Goals as goal

pub returns-in-None : goal.returns-in-None
unfolding duration_value
returns-in-None c =
    let text = c.as_bytes-bytes.result.now in
    let no_point : position (λ b. b == 46) text ≡ None = sym c.find_point.ensures.value ∙ c.in-None.is in
    let whole = duration_of_parts_in_u64 (decimal_value text) (Some 0) in
    rw (← c.as_bytes-bytes.ensures.value, no_point, c.duration_of_parts.ensures, c.decimal_value.ensures) whole

pub returns-in-Some : goal.returns-in-Some
unfolding duration_value
returns-in-Some c =
    let text = c.as_bytes-bytes.result.now in
    let at = c.in-Some.point in
    let point : position (λ b. b == 46) text ≡ Some at = sym c.find_point.ensures.value ∙ c.in-Some.is in
    let fraction : c.fraction_nanoseconds.result ≡ fraction_nanoseconds (drop (at + 1) text) = rw take_rest at c.fraction_nanoseconds.ensures in
    let both = duration_of_parts_in_u64 (decimal_value (take at text)) (fraction_nanoseconds (drop (at + 1) text)) in
    rw (← c.as_bytes-bytes.ensures.value, point, c.duration_of_parts-in-Some.ensures, c.decimal_value-in-Some.ensures, fraction) both

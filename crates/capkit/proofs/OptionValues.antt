-- The values of the options of `edit` and `print` are within their bounds.
use Rattle.capkit.proofs.Common.{◌≡◌, ◌≤◌, ◌∙◌, ap, refl, ℕ, Bool, true, false, Option, Some, None, Result, Ok, Err, arith, nat_lt, if◌then◌else◌, position}
use Rattle.capkit.proofs.Common.{option_and_then, option_map_or, and_from, and_parts, le-leb, is_time, ReadsOne, Text, number_between, ValueParser}
use Rattle.std.proofs.Common.{◌^◌, ◌-◌, ◌==◌, ◌&&◌, IfSome, nat_le}
use Rattle.std.specs.Str.Parse.{ParsesUnsigned, digits_value, without_leading_plus}
use Rattle.cap_command.specs.Command.{is_at_least_one, is_window, least_window, most_window}
use Rattle.cap_octet.specs.Seconds.{duration_at, duration_value, duration_of_parts, time_below_end}
use Rattle.clap.specs.ValueTests.{is_numeral, is_unsigned_in}
use Rattle.clap.proofs.ValueTestLemmas.{Accepts-accepts, accepts-Accepts}
use Rattle.cap_octet.specs.{Digits.decimal_value, Timestamp.date_time_value, Timestamp.time_value, Timestamp.time_of_parts}

-- ---- numbers

abbrev pub kept : (least most : ℕ) → ℕ → Option ℕ
kept least most n = if nat_le least n && nat_le n most then Some n else None

-- a text that is read as a number has that number's digits, and one that isn't has none below 2^64
pub number_read : (E : Type 0) (G : Text → Result ℕ E → Type 0) → ((t : Text) (r : Result ℕ E) → G t r → ParsesUnsigned 64 10 t r)
    → (least most : ℕ) (text : Option Text) (r : Option ℕ) → (text ≡ None → r ≡ None) → ((t : Text) → text ≡ Some t → ReadsOne G t r)
    → option_and_then (kept least most) r ≡ option_and_then (number_between least most) text
number_read E G parses least most None r none some = ap (option_and_then (kept least most)) (none refl)
number_read E G parses least most (Some t) r none some = go r (some t refl)
  where
    value : ℕ
    value = digits_value 10 (without_leading_plus t)

    refused : (b : Bool) → is_unsigned_in least most t ≡ b → ((is_unsigned_in least most t ≡ true) → ⊥) → None ≡ (if b then Some value else None)
    refused true is none = absurd (none is)
    refused false is none = refl

    go : (o : Option ℕ) → ReadsOne G t o → option_and_then (kept least most) o ≡ number_between least most t
    go (Some n) given =
        let read = parses t (Ok n) given in
        let passes : is_unsigned_in 0 value t ≡ true = Accepts-accepts false (ValueParser.Unsigned 0 value) t (read.0.0, read.0.1, omega arith, omega arith) in
        let numeral : is_numeral (without_leading_plus t) ≡ true = (and_parts _ _ passes).0 in
        let fits : nat_lt value (2 ^ 64) ≡ true = (and_parts _ _ (and_parts _ _ passes).1).0 in
        ap (kept least most) read.1 ∙ rw (numeral, fits) refl
    go None given = refused (is_unsigned_in least most t) refl (λ is.
        let accepted = accepts-Accepts false (ValueParser.Unsigned least most) t is in
        parses t (Err given.0) given.1 (accepted.0, accepted.1))

pub one_or_more : (most : ℕ) (number : Option ℕ) → IfSome number (λ n. (1 ≤ n) × (n ≤ most)) → option_map_or is_at_least_one number true ≡ true
one_or_more most None some = refl
one_or_more most (Some n) some = le-leb 1 n some.0

pub proper_window : (number : Option ℕ) → IfSome number (λ n. (least_window ≤ n) × (n ≤ most_window)) → option_map_or is_window number true ≡ true
proper_window None some = refl
proper_window (Some n) some = grind (arith, and_from, le-leb)

-- ---- times

within : (n : ℕ) → option_map_or is_time (time_below_end n) true ≡ true
within n = go (nat_lt n (2 ^ 63)) refl
  where
    go : (b : Bool) → nat_lt n (2 ^ 63) ≡ b → option_map_or is_time (if b then Some n else None) true ≡ true
    go true is = is
    go false is = refl

then_within : {X : Type 0} (f : X → Option ℕ) (o : Option X) → ((x : X) → option_map_or is_time (f x) true ≡ true)
    → option_map_or is_time (option_and_then f o) true ≡ true
then_within f None each = refl
then_within f (Some x) each = each x

span_within : (seconds fraction : Option ℕ) → option_map_or is_time (duration_of_parts seconds fraction) true ≡ true
span_within seconds fraction = simp (then_within, within)

at_within : (text : Text) (point : Option ℕ) → option_map_or is_time (duration_at text point) true ≡ true
at_within text None = span_within (decimal_value text) (Some 0)
at_within text (Some point) = simp span_within

-- a number of seconds is less than 2^63 nanoseconds
pub proper_span : (text : Text) → option_map_or is_time (duration_value text) true ≡ true
unfolding duration_value
proper_span text = at_within text (position (λ b. b == 46) text)

moment_within : (day clock fraction : Option ℕ) → option_map_or is_time (time_of_parts day clock fraction) true ≡ true
moment_within day clock fraction = grind (arith, then_within, within)

date_within : (text : Text) → option_map_or is_time (date_time_value text) true ≡ true
unfolding date_time_value
date_within text = simp moment_within

-- so does a time
pub proper_time : (text : Text) → option_map_or is_time (time_value text) true ≡ true
unfolding time_value
proper_time text = go _
  where
    go : (b : Bool) → option_map_or is_time (if b then date_time_value text else duration_value text) true ≡ true
    go true = date_within text
    go false = proper_span text

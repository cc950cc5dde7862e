-- A text is at most one list of groups of digits, and the groups determine the address.
use Rattle.std.proofs.Common.{◌≡◌, ℕ, ◌^◌, ◌<◌, ◌≤◌, List, [], ◌∷◌, ◌++◌, length, refl, sym, ap, ◌∙◌, arith, false, ◌==◌, Result, Ok, Err, lit<, lit≤}
use Rattle.std.proofs.Common.{MatchOption, suc, zero, ◌+◌, ◌*◌, get_or, add-one, pow-add, pow-suc, ◌-◌, ◌%◌, length-append, replicate, Some}
use Rattle.std.proofs.Math.Nat.{pow-le-pow_right, add_assoc, mul-le-mul_right, mul-lt-mul_of_pos_right, mul_assoc, pow-zero, mul-mod_left}
use Rattle.flt_words.proofs.Common.{nat_tests, Group, WordFault, AreGroups, IsGroup, base_of, WritesNumber, is_word_sized, FindsMeaning, has, group_values}
use Rattle.flt_words.proofs.Common.{AreIp6Ends, IsDotted, or_parts, JoinedGroups}
use Rattle.std.proofs.lemmas.Int.Digits.{digits_value-lt, number_push, number_after_append, number_lt}
use Rattle.std.specs.Str.Parse.{AllDigits, IsNumeral, digits_value}
use Rattle.std.specs.Int.Digits.{number_from_digits, AllBelowBase, number_from_digits_after}
use Rattle.flt_words.proofs.Numbers.{digits_lack, same}
use Rattle.std.proofs.lemmas.List.{length-map, map-append, Splits.join_with_byte-slice_split}
use Rattle.std.specs.{List.AllByRecursion, List.join_with_byte, List.slice_split, Result.result_ok}
use Rattle.flt_words.specs.{Addresses.group_value, Addresses.separator_of, Addresses.IsWholeAddress, inside.Addresses.ReadsGroups}
use Rattle.flt_words.specs.declared.address.Group.TheVariants as group
use Rattle.flt_words.specs.declared.number.WordFault.TheVariants as fault

not_small : (n : ℕ) → n < 2 ^ 32 → is_word_sized n ≡ false → ⊥
not_small n small large = grind (arith, nat_tests)

pub small_hexadecimal : (digits : List ℕ) (most : ℕ) → AllDigits 16 digits → length digits ≤ most → digits_value 16 digits < 16 ^ most
small_hexadecimal digits most all upper_bound = search (arith, digits_value-lt, pow-le-pow_right)

pub group_lacks : (form : Group) (digits : List ℕ) → IsGroup form digits → has (separator_of form) digits ≡ false
group_lacks group.Octet digits g = digits_lack 46 10 digits (lit≤ tt) g.1.writes.numeral.1
group_lacks _ digits g = digits_lack 58 16 digits (lit≤ tt) g.0.1

pub group_some : (form : Group) (digits : List ℕ) → IsGroup form digits → 0 < length digits
group_some group.Octet digits g = g.1.writes.numeral.0
group_some _ digits g = g.0.0

pub group_below : (form : Group) (digits : List ℕ) → IsGroup form digits → group_value form digits < base_of form
group_below group.Octet digits g = omega (arith, g.1.writes.value, g.2)
group_below group.Byte digits g = small_hexadecimal digits 2 g.0.1 g.1
group_below group.Quad digits g = small_hexadecimal digits 4 g.0.1 g.1

split_none : (c : ℕ) (text : List ℕ) → has c text ≡ false → slice_split (λ b. b == c) text ≡ text ∷ []
split_none c [] lacks = refl
split_none c (b ∷ text) lacks =
    let parts = or_parts (b == c) (has c text) lacks in
    rw (parts.0, split_none c text parts.1) refl

split_at : (c : ℕ) (front back : List ℕ) → has c front ≡ false → slice_split (λ b. b == c) (front ++ c ∷ back) ≡ front ∷ slice_split (λ b. b == c) back
split_at c [] back lacks = rw (same c) refl
split_at c (b ∷ front) back lacks =
    let parts = or_parts (b == c) (has c front) lacks in
    rw (parts.0, split_at c front back parts.1) refl

pub split_joined : (form : Group) (first : List ℕ) (groups : List (List ℕ)) → AllByRecursion (IsGroup form) (first ∷ groups)
    → slice_split (λ b. b == separator_of form) (join_with_byte (separator_of form) (first ∷ groups)) ≡ first ∷ groups
split_joined form first [] each = search (arith, split_none, group_lacks)
split_joined form first (second ∷ groups) each = search (arith, split_at, join_with_byte, group_lacks, (split_joined form second groups each.1))

parts_are : (form : Group) (text : List ℕ) (groups : List (List ℕ)) → text ≡ join_with_byte (separator_of form) groups → AllByRecursion (IsGroup form)
    groups → 0 < length text → groups ≡ slice_split (λ b. b == separator_of form) text
parts_are form text [] joined each some = absurd (omega (arith, ap length joined))
parts_are form text (first ∷ groups) joined each some = search (arith, slice_split, split_joined)

-- the groups of a text are its parts
pub groups_are_parts : {form : Group} {text : List ℕ} {groups : List (List ℕ)} → AreGroups form text groups → 0 < length text
    → groups ≡ slice_split (λ b. b == separator_of form) text
groups_are_parts {form} {text} {groups} are some = parts_are form text groups are.joined are.each some

-- the result for digits few of which are read
pub small_answer : (digits : List ℕ) (most : ℕ) (r : Result ℕ WordFault) → most ≤ 4 → length digits ≤ most → FindsMeaning (WritesNumber 16 digits)
    is_word_sized r
    → MatchOption (result_ok r) (IsNumeral 16 digits × (length digits ≤ most) → ⊥) (λ n. IsNumeral 16 digits × (length digits ≤ most)
    × (n ≡ digits_value 16 digits))
small_answer digits most (Ok n) low upper_bound h = (h.0.numeral, upper_bound, sym h.0.value)
small_answer digits most (Err fault.TooLarge) low upper_bound h = search (arith, small_hexadecimal, pow-le-pow_right, not_small)
small_answer digits most (Err fault.Unknown) low upper_bound h = λ g. h (digits_value 16 digits) (record { numeral = g.0; value = refl })

-- reading the parts of a text
abbrev pub parts_of : Group → List ℕ → List (List ℕ)
parts_of form text = slice_split (λ b. b == separator_of form) text

each_at : (P : List ℕ → Type 0) (groups : List (List ℕ)) (k : ℕ) (d : List ℕ) → AllByRecursion P groups → k < length groups → P (get_or groups k d)
each_at P [] k d each within = absurd (omega arith)
each_at P (g ∷ groups) zero d each within = each.0
each_at P (g ∷ groups) (suc k) d each within = each_at P groups k d each.1 (omega arith)

pub each_pushed : (P : List ℕ → Type 0) (groups : List (List ℕ)) (g : List ℕ) → AllByRecursion P groups → P g → AllByRecursion P (groups ++ g ∷ [])
each_pushed P [] g each last = (last, tt)
each_pushed P (h ∷ groups) g each last = (each.0, each_pushed P groups g each.1 last)

-- a part that is no group
pub bad_part : {form : Group} {text digits : List ℕ} (k : ℕ) → 0 < length text → (k < length (parts_of form text))
    × (digits ≡ get_or (parts_of form text) k digits) → (IsGroup form digits → ⊥)
    → (groups : List (List ℕ)) → AreGroups form text groups → length groups ≤ 8 → ⊥
bad_part {form} {text} {digits} k some at bad groups are upper_bound = search (arith, groups_are_parts, each_at)

-- a ninth part
pub too_many : {form : Group} {text : List ℕ} (k : ℕ) → 0 < length text → k < length (parts_of form text) → k ≡ 8
    → (groups : List (List ℕ)) → AreGroups form text groups → length groups ≤ 8 → ⊥
too_many {form} {text} k some within eight groups are upper_bound = search (arith, groups_are_parts)

-- no part was left
pub all_read : {form : Group} {text : List ℕ} (groups : List (List ℕ)) → AllByRecursion (IsGroup form) groups → groups ≡ parts_of form text
    → AreGroups form text groups
all_read {form} {text} groups each same = search (arith, join_with_byte, same, join_with_byte-slice_split)

pub next_power : (base i : ℕ) → base ^ (i + 1) ≡ base ^ i * base
next_power base i = rw (add-one, pow-suc) refl

-- one more digit in a base
pub below_next : (base count value digit : ℕ) → value < base ^ count → digit < base → value * base + digit < base ^ (count + 1)
below_next base count value digit h k =
    let times : (value + 1) * base ≤ base ^ count * base = mul-le-mul_right base (omega arith) in
    omega (arith, next_power base count)

pub base_fits : (form : Group) (count : ℕ) → count < 8 → base_of form ^ (count + 1) ≤ 2 ^ 128
base_fits group.Quad count h = pow-le-pow_right (lit< tt) {j = 8} (omega arith)
base_fits _ count h = search (arith, pow-le-pow_right)

-- the state after one more part is read
pub step_small : (form : Group) (digits : List ℕ) (value count digit base : ℕ) → base ≡ base_of form → IsGroup form digits
    × (digit ≡ group_value form digits) → value < base_of form ^ count → value * base + digit < base_of form ^ (count + 1)
step_small form digits value count digit base same g small = search (arith, same, below_next, group_below)

pub step_fits : (form : Group) (digits : List ℕ) (value count digit base : ℕ) → base ≡ base_of form → IsGroup form digits
    × (digit ≡ group_value form digits) → value < base_of form ^ count → count < 8 → value * base + digit < 2 ^ 128
step_fits form digits value count digit base same g small upper_bound =
    let below = step_small form digits value count digit base same g small in
    let fits = base_fits form count upper_bound in
    omega arith

pub step_value : (form : Group) (seen : List (List ℕ)) (digits : List ℕ) (value digit base : ℕ) → base ≡ base_of form → IsGroup form digits
    × (digit ≡ group_value form digits) → value ≡ number_from_digits (base_of form) (group_values form seen)
    → value * base + digit ≡ number_from_digits (base_of form) (group_values form (seen ++ digits ∷ []))
step_value form seen digits value digit base same g v = rw (same, map-append, number_push, v, g.1)

-- one more zero digit
base_some : (form : Group) → 0 < base_of form
base_some group.Octet = lit< tt
base_some _ = lit< tt

pub shifted_small : (form : Group) (value count i : ℕ) → value < base_of form ^ count → value * base_of form ^ i < base_of form ^ (count + i)
shifted_small form value count i small = search (arith, pow-le-pow_right, base_some, pow-zero, pow-add, mul-lt-mul_of_pos_right)

pub zero_fits : (form : Group) (value count i : ℕ) → value < base_of form ^ count → count + i < 8 → value * base_of form ^ i * base_of form < 2 ^ 128
zero_fits form value count i small upper_bound =
    let shifted = shifted_small form value count (i + 1) small in
    let same : value * base_of form ^ i * base_of form ≡ value * base_of form ^ (i + 1) = rw next_power (mul_assoc value (base_of form ^ i) (base_of form)) in
    let fits : base_of form ^ (count + (i + 1)) ≤ 2 ^ 128 = rw (← add_assoc) (base_fits form (count + i) upper_bound) in
    omega arith

pub zero_value : (base start i value : ℕ) → value ≡ start * base ^ i → value * base ≡ start * base ^ (i + 1)
zero_value base start i value same = rw (same, next_power) (mul_assoc start (base ^ i) base)

-- a text is one list of groups at most
some_joined : (form : Group) (first : List ℕ) (groups : List (List ℕ)) → IsGroup form first → 0 < length (join_with_byte (separator_of form) (first ∷ groups))
some_joined form first [] g = group_some form first g
some_joined form first (second ∷ groups) g = simp length-append (omega (arith, group_some form first g))

none_in_empty : (form : Group) (text : List ℕ) (groups : List (List ℕ)) → length text ≡ 0 → text ≡ join_with_byte (separator_of form) groups
    → AllByRecursion (IsGroup form) groups → groups ≡ []
none_in_empty form text [] empty joined each = refl
none_in_empty form text (first ∷ groups) empty joined each = search (arith, some_joined)

-- a text is one list of groups at most
pub same_groups : {form : Group} {text : List ℕ} {xs ys : List (List ℕ)} → AreGroups form text xs → AreGroups form text ys → xs ≡ ys
same_groups {form} {text} {xs} {ys} v w = by_length (length text) refl
  where
    by_length : (n : ℕ) → length text ≡ n → xs ≡ ys
    by_length zero e = none_in_empty form text xs e v.joined v.each ∙ sym (none_in_empty form text ys e w.joined w.each)
    by_length (suc n) e = groups_are_parts v (omega arith) ∙ sym (groups_are_parts w (omega arith))

values_below : (form : Group) (groups : List (List ℕ)) → AllByRecursion (IsGroup form) groups → AllBelowBase (base_of form) (group_values form groups)
values_below form [] each = tt
values_below form (g ∷ groups) each = (group_below form g each.0, values_below form groups each.1)

pub groups_below : (form : Group) (groups : List (List ℕ)) → AllByRecursion (IsGroup form) groups → number_from_digits (base_of form)
    (group_values form groups) < base_of form ^ length groups
groups_below form groups each = search (arith, number_lt, values_below, length-map)

pub reads_below : (form : Group) (text : List ℕ) (joined : JoinedGroups) → ReadsGroups form text (Some joined) → joined.value < base_of form ^ joined.count
reads_below form text joined r = rw (r.3, r.4) (groups_below form r.0 r.1.each)

-- digits after a number
number_after : (base n : ℕ) (digits : List ℕ) → number_from_digits_after base n digits ≡ n * base ^ length digits + number_from_digits base digits
number_after base n [] = rw pow-zero (omega arith)
number_after base n (d ∷ digits) =
    rw (number_after base (n * base + d) digits, number_after base (0 * base + d) digits, pow-suc) (omega arith)

zeros_after : (base n k : ℕ) → number_from_digits_after base n (replicate k 0) ≡ n * base ^ k
zeros_after base n zero = rw pow-zero (omega arith)
zeros_after base n (suc k) = rw (zeros_after base (n * base + 0) k, pow-suc) (omega arith)

-- a number with zeros after it
pub number_zeros : (base k : ℕ) (digits : List ℕ) → number_from_digits base (digits ++ replicate k 0) ≡ number_from_digits base digits * base ^ k
number_zeros base k digits = search (arith, number_after_append, zeros_after)

-- and with other digits after those
pub number_between : (base k : ℕ) (digits others : List ℕ) → number_from_digits base (digits ++ (replicate k 0 ++ others)) ≡ number_from_digits base
    digits * base ^ (k + length others) + number_from_digits base others
number_between base k digits others =
    number_after_append base 0 digits (replicate k 0 ++ others)
    ∙ number_after_append base (number_from_digits base digits) (replicate k 0) others
    ∙ number_after base (number_from_digits_after base (number_from_digits base digits) (replicate k 0)) others
    ∙ rw (zeros_after base (number_from_digits base digits) k, pow-add) (omega arith)

-- eight groups fit, with those left out between the first and the last
pub ends_fit : (first count last last_count : ℕ) → first < 65536 ^ count → last < 65536 ^ last_count → count + last_count ≤ 7
    → first * 65536 ^ (8 - count) + last < 2 ^ 128
ends_fit first count last last_count below last_below upper_bound =
    let times : (first + 1) * 65536 ^ (8 - count) ≤ 65536 ^ count * 65536 ^ (8 - count) = mul-le-mul_right (65536 ^ (8 - count)) (omega arith) in
    let whole = pow-add 65536 count (8 - count) in
    let eight : count + (8 - count) ≡ 8 = omega arith in
    let all : 65536 ^ (count + (8 - count)) ≡ 2 ^ 128 = ap (λ k. 65536 ^ k) eight in
    let room : 65536 ^ last_count ≤ 65536 ^ (8 - count) = pow-le-pow_right (lit< tt) (omega arith) in
    omega arith

pub whole_below : {form : Group} {many a : ℕ} {word : List ℕ} → IsWholeAddress form (base_of form) many word a → a < base_of form ^ many
whole_below {form} w = search (arith, groups_below)

pub ends_value : (form : Group) (first last : List (List ℕ)) → length first + length last ≤ 7
    → number_from_digits 65536 (group_values form first) * 65536 ^ (8 - length first) + number_from_digits 65536 (group_values form last)
    ≡ number_from_digits 65536 (group_values form first ++ (replicate (8 - (length first + length last)) 0 ++ group_values form last))
ends_value form first last upper_bound = search (arith, number_between, length-map)

pub ends_below : {front back : List ℕ} {a : ℕ} → AreIp6Ends front back a → a < 2 ^ 128
ends_below e = search (arith, ends_value, ends_fit, groups_below)

-- two to four parts are 32 bits; missing ones are 0
pub dotted_below : {word : List ℕ} {a parts : ℕ} → IsDotted word a parts → (a < 2 ^ 32) × (a % 256 ^ (4 - parts) ≡ 0)
dotted_below {word} {a} {parts} d =
    let front = number_from_digits 256 (group_values group.Octet d.groups) in
    let is : a ≡ front * 256 ^ (4 - parts) = d.value ∙ number_zeros 256 (4 - length d.groups) (group_values group.Octet d.groups)
    ∙ ap (λ n. front * 256 ^ (4 - n)) (sym d.count) in
    let below : front < 256 ^ parts = rw d.count (groups_below group.Octet d.groups d.are.each) in
    let four : parts + (4 - parts) ≡ 4 = omega (arith, d.count, d.at_most_four) in
    (rw is (rw four at (shifted_small group.Octet front parts (4 - parts) below)), rw is (mul-mod_left front (256 ^ (4 - parts))))

pub read_dotted : {word : List ℕ} {joined : JoinedGroups} → ReadsGroups group.Octet word (Some joined) → 2 ≤ joined.count → joined.count ≤ 4
    → IsDotted word (joined.value * 256 ^ (4 - joined.count)) joined.count
read_dotted read low high = search (arith, number_zeros)

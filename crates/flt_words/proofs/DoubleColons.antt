-- Where two colons are in an IPv6 address.
use Rattle.std.proofs.Common.{◌≡◌, ◌≢◌, ℕ, suc, zero, ◌+◌, ◌<◌, List, [], ◌∷◌, ◌++◌, length, get_or, take, drop, refl, sym, ◌∙◌, subst, arith, false, ◌==◌}
use Rattle.std.proofs.Common.{Option, Some, None, MatchOption, add-one, length-append, drop-cons}
use Rattle.std.proofs.Math.Seq.{drop-append-add, get_or-append_seam, take-append_seam}
use Rattle.flt_words.proofs.Common.{nat_tests, AreGroups, AreIp6Ends, IsGroup, IsIp6, IsWholeIp6, IsDoubleColon, shortened, whole, has, or_parts, Group}
use Rattle.std.proofs.lemmas.List.{get_or-append-add, get_or_append_left, take-append-drop}
use Rattle.std.specs.List.{AllByRecursion, join_with_byte}
use Rattle.flt_words.proofs.AddressValues.{group_lacks, group_some}

-- each colon precedes another byte
abbrev Parted : List ℕ → Type 0
Parted text = (k : ℕ) → get_or text k 0 ≡ 58 → (get_or text (suc k) 0 ≢ 58) × (suc k < length text)

is_not : (b : ℕ) → (b == 58) ≡ false → b ≢ 58
is_not b h = grind (arith, nat_tests)

parted_more : (b : ℕ) (text : List ℕ) → (b ≡ 58 → (get_or text 0 0 ≢ 58) × (0 < length text)) → Parted text → Parted (b ∷ text)
parted_more b text first p zero h = let next = first h in (next.0, omega (arith, next.1))
parted_more b text first p (suc k) h = let next = p k h in (next.0, omega (arith, next.1))

parted_digits : (text : List ℕ) → has 58 text ≡ false → Parted text
parted_digits [] lacks = λ k h. absurd (omega arith)
parted_digits (b ∷ text) lacks = search (arith, or_parts, has, parted_more, is_not, (parted_digits text (or_parts (b == 58) (has 58 text) lacks).1))

parted_before : (front rest : List ℕ) → has 58 front ≡ false → get_or rest 0 0 ≢ 58 → 0 < length rest → Parted rest → Parted (front ++ 58 ∷ rest)
parted_before [] rest lacks other some p = parted_more 58 rest (λ e. (other, some)) p
parted_before (b ∷ front) rest lacks other some p =
    search (arith, or_parts, has, parted_more, is_not, (parted_before front rest (or_parts (b == 58) (has 58 front) lacks).1 other some p))

begins_with_digit : (digits : List ℕ) → 0 < length digits → has 58 digits ≡ false → get_or digits 0 0 ≢ 58
begins_with_digit [] some lacks = absurd (omega arith)
begins_with_digit (b ∷ digits) some lacks = is_not b (or_parts (b == 58) (has 58 digits) lacks).0

first_of_joined : (first : List ℕ) (groups : List (List ℕ)) → IsGroup Group.Quad first → (get_or (join_with_byte 58 (first ∷ groups)) 0 0 ≢ 58)
    × (0 < length (join_with_byte 58 (first ∷ groups)))
first_of_joined first [] g = search (arith, group_some, begins_with_digit, group_lacks)
first_of_joined first (second ∷ groups) g =
    let some = group_some Group.Quad first g in
    (rw get_or_append_left (begins_with_digit first some (group_lacks Group.Quad first g)), simp length-append (omega arith))

parted_joined : (groups : List (List ℕ)) → AllByRecursion (IsGroup Group.Quad) groups → Parted (join_with_byte 58 groups)
parted_joined [] each = parted_digits [] refl
parted_joined (g ∷ []) each = parted_digits g (group_lacks Group.Quad g each.0)
parted_joined (g ∷ h ∷ groups) each =
    let next = first_of_joined h groups each.1.0 in
    parted_before g (join_with_byte 58 (h ∷ groups)) (group_lacks Group.Quad g each.0) next.0 next.1 (parted_joined (h ∷ groups) each.1)

parted : {text : List ℕ} {groups : List (List ℕ)} → AreGroups Group.Quad text groups → Parted text
parted {text} {groups} are = subst Parted (sym are.joined) (parted_joined groups are.each)

-- groups alone have no two colons in a row
pub no_double_colon : {text : List ℕ} {groups : List (List ℕ)} (k : ℕ) → AreGroups Group.Quad text groups → IsDoubleColon text k → ⊥
no_double_colon {text} {groups} k are double = (parted are k double.0).0 (rw add-one at double.1)

pub double_between : (front back : List ℕ) → IsDoubleColon (front ++ 58 ∷ 58 ∷ back) (length front)
double_between front back = search (arith, get_or-append_seam, get_or-append-add)

pub none_before_first : {front : List ℕ} {groups : List (List ℕ)} (back : List ℕ) → AreGroups Group.Quad front groups → (k : ℕ) → k < length front
    → IsDoubleColon (front ++ 58 ∷ 58 ∷ back) k → ⊥
none_before_first {front} back are k below double =
    let at : get_or front k 0 ≡ 58 = sym (get_or_append_left front (58 ∷ 58 ∷ back) 0 k below) ∙ double.0 in
    let next = parted are k at in
    next.0 (sym (get_or_append_left front (58 ∷ 58 ∷ back) 0 (suc k) next.1) ∙ (rw add-one at double.1))

-- so the first two colons follow the first groups
pub first_double_colon : (front back : List ℕ) (groups : List (List ℕ)) (i : ℕ) → AreGroups Group.Quad front groups
    → IsDoubleColon (front ++ 58 ∷ 58 ∷ back) i → ((k : ℕ) → k < i → IsDoubleColon (front ++ 58 ∷ 58 ∷ back) k → ⊥) → i ≡ length front
first_double_colon front back groups i are double first =
    let not_below : i < length front → ⊥ = λ below. none_before_first back are i below double in
    let not_above : length front < i → ⊥ = λ above. first (length front) above (double_between front back) in
    omega arith

cut_at_two : (word : List ℕ) (i : ℕ) → i + 1 < length word → IsDoubleColon word i → word ≡ take i word ++ 58 ∷ 58 ∷ drop (i + 2) word
cut_at_two word i inside double = search (arith, drop-cons, take-append-drop)

pub ip6_from_ends : {word : List ℕ} {a : ℕ} (i : ℕ) → i + 1 < length word → IsDoubleColon word i → AreIp6Ends (take i word) (drop (i + 2) word) a → IsIp6 word a
ip6_from_ends {word} {a} i inside double ends = subst (λ w. IsIp6 w a) (sym (cut_at_two word i inside double)) (shortened ends)

pub ends_from_ip6 : {word : List ℕ} {a : ℕ} (i : ℕ) → IsDoubleColon word i → ((k : ℕ) → k < i → IsDoubleColon word k → ⊥) → IsIp6 word a
    → AreIp6Ends (take i word) (drop (i + 2) word) a
ends_from_ip6 i double first (whole w) = absurd (no_double_colon i w.are double)
ends_from_ip6 {word} {a} i double first (shortened {front} {back} ends) =
    let at = first_double_colon front back ends.first i ends.are_first double first in
    subst (λ k. AreIp6Ends (take k (front ++ 58 ∷ 58 ∷ back)) (drop (k + 2) (front ++ 58 ∷ 58 ∷ back)) a) (sym at) (rw (take-append_seam, drop-append-add) ends)

pub whole_from_ip6 : {word : List ℕ} {a : ℕ} → ((k : ℕ) → IsDoubleColon word k → ⊥) → IsIp6 word a → IsWholeIp6 word a
whole_from_ip6 none (whole w) = w
whole_from_ip6 none (shortened {front} {back} ends) = absurd (none (length front) (double_between front back))

pub match_along : (V W : ℕ → Type 0) (r : Option ℕ) → ((a : ℕ) → V a → W a) → ((a : ℕ) → W a → V a) → MatchOption r ((a : ℕ) → V a → ⊥) V
    → MatchOption r ((a : ℕ) → W a → ⊥) W
match_along V W None to from h = λ a w. h a (from a w)
match_along V W (Some a) to from h = to a h

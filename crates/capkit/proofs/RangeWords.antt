-- When a range, or the names of several inputs, are refused.
use Rattle.capkit.proofs.Common.{arith, ◌≡◌, ◌≤◌, ◌<◌, ◌∙◌, ap, sym, refl, ℕ, Bool, true, false, List, [], ◌∷◌, length, map, take, Option, Some, None}
use Rattle.capkit.proofs.Common.{slice_index_or, is_none, if◌then◌else◌, Bor, list_all, list_any, and_from, le-leb, le-ltb, lt-ltb, take_all, list_any-map}
use Rattle.capkit.proofs.Common.{is_range, Text, range_of, nat_lt, uses_name_twice, Usage}
use Rattle.cap_command.specs.Command.{has_proper_ranges, most_ranges, most_inputs}
use Rattle.capkit.specs.declared.usage.Usage.TheVariants.{BadRange, TooManyValues, NameUsedTwice}
use Rattle.capkit.proofs.WrittenRanges.{between}
use Rattle.std.proofs.lemmas.{Bool.cond-false, Bool.cond-true, List.length-map, List.Folds.list_any_at}
use Rattle.capkit.specs.{Line.range_fault, Line.files_fault, Line.or_else, Range.range_number, Range.sides_of}

abbrev is_bad : Text → Bool
is_bad word = is_none (range_of word)

-- words that are few enough have no fault but a bad one
upper_bound : (words : List Text) → length words ≤ most_ranges → range_fault words ≡ (if list_any is_bad words then Some BadRange else None)
upper_bound words enough = cond-false _ _ _ (le-ltb _ _ enough)

-- words with as many ranges have none that is bad
none_bad : (words : List Text) (ranges : List (ℕ × ℕ)) → map Some ranges ≡ map range_of words → list_any is_bad words ≡ false
none_bad [] ranges same = refl
none_bad (word ∷ words) [] same = cc
none_bad (word ∷ words) (range ∷ ranges) same =
    let here : Some range ≡ range_of word = cc in
    let more : map Some ranges ≡ map range_of words = cc in
    rw (← here) (none_bad words ranges more)

abbrev pub text_of : Bor Text → Text
text_of word = word.now

still_few : (words : List (Bor Text)) → length words ≤ most_ranges → length (map text_of words) ≤ most_ranges
still_few words enough = rw length-map enough

pub no_range_fault : (words : List (Bor Text)) (ranges : List (ℕ × ℕ)) (i : ℕ) → length words ≤ most_ranges → length words ≤ i
    → map Some ranges ≡ map range_of (map text_of (take i words)) → range_fault (map text_of words) ≡ None
no_range_fault words ranges i enough all same = grind (arith, take_all, upper_bound, still_few, cond-false, none_bad)

pub too_many : (words : List (Bor Text)) → most_ranges < length words → range_fault (map text_of words) ≡ Some TooManyValues
too_many words more =
    let many : most_ranges < length (map text_of words) = rw length-map more in
    cond-true _ (Some TooManyValues) _ (lt-ltb _ _ many)

at_word : (words : List (Bor Text)) (i : ℕ) (d : Bor Text) → i < length words → range_of (slice_index_or words i d).now ≡ None
    → list_any is_bad (map text_of words) ≡ true
at_word words i d lt bad = sym (list_any-map is_bad _ words) ∙ list_any_at (λ word. is_bad word.now) words i d lt (ap is_none bad)

pub bad_range : (words : List (Bor Text)) (i : ℕ) (d : Bor Text) → length words ≤ most_ranges → i < length words
    → range_of (slice_index_or words i d).now ≡ None → range_fault (map text_of words) ≡ Some BadRange
bad_range words i d enough lt bad = grind (arith, upper_bound, still_few, cond-true, at_word)

-- ---- the ranges that the words name

all_ranges : (words : List Text) (ranges : List (ℕ × ℕ)) → map Some ranges ≡ map range_of words → list_all (λ range. is_range range.0 range.1) ranges ≡ true
all_ranges words [] same = refl
all_ranges [] (range ∷ ranges) same = cc
all_ranges (word ∷ words) (range ∷ ranges) same =
    let here : Some range ≡ range_of word = cc in
    let more : map Some ranges ≡ map range_of words = cc in
    and_from _ _ (between (range_number (sides_of word).0) _ range (sym here)).2 (all_ranges words ranges more)

-- as many as the words
as_many : (words : List Text) (ranges : List (ℕ × ℕ)) → map Some ranges ≡ map range_of words → length ranges ≡ length words
as_many words ranges same = grind (arith, length-map)

pub proper_ranges : (words : List (Bor Text)) (ranges : List (ℕ × ℕ)) (i : ℕ) → length words ≤ most_ranges → length words ≤ i
    → map Some ranges ≡ map range_of (map text_of (take i words)) → has_proper_ranges ranges ≡ true
proper_ranges words ranges i enough all same =
    let whole = same ∙ ap (λ ws. map range_of (map text_of ws)) (take_all i words all) in
    let upper_bound : length ranges ≤ most_ranges = rw (as_many _ ranges whole) (still_few words enough) in
    and_from _ _ (le-leb _ _ upper_bound) (all_ranges _ ranges whole)

-- ---- the names of several inputs

abbrev first_of_two : (many twice : Bool) → Option Usage
first_of_two many twice = or_else (if many then Some TooManyValues else None) (if twice then Some NameUsedTwice else None)

-- the fault of inputs with these names, by the two tests
fault_is : (names : List (Bor Text)) (inputs : List Text) (output : Option Text) (many twice : Bool) → map text_of names ≡ inputs
    → nat_lt most_inputs (length names) ≡ many → uses_name_twice (map text_of names) output ≡ twice → files_fault inputs output ≡ first_of_two many twice
fault_is names inputs output many twice same is_many is_twice = grind (arith, length-map)

pub too_many_files : (names : List (Bor Text)) (inputs : List Text) (output : Option Text) → map text_of names ≡ inputs → most_inputs < length names
    → files_fault inputs output ≡ Some TooManyValues
too_many_files names inputs output same more = grind (arith, fault_is, lt-ltb)

pub used_twice : (names : List (Bor Text)) (inputs : List Text) (output : Option Text) → map text_of names ≡ inputs → length names ≤ most_inputs
    → uses_name_twice (map text_of names) output ≡ true → files_fault inputs output ≡ Some NameUsedTwice
used_twice names inputs output same upper_bound twice = grind (arith, fault_is, le-ltb, upper_bound)

pub faultless : (names : List (Bor Text)) (inputs : List Text) (output : Option Text) → map text_of names ≡ inputs → length names ≤ most_inputs
    → uses_name_twice (map text_of names) output ≡ false → files_fault inputs output ≡ None
faultless names inputs output same upper_bound once = grind (arith, fault_is, le-ltb, upper_bound)

-- A line of `print` without a fault may be run.
use Rattle.capkit.proofs.Common.{◌≡◌, ◌∙◌, ap, arith, refl, codes, Bool, true, false, List, [], ◌∷◌, length, Option, Some, None, String, string_bytes, vec_len}
use Rattle.capkit.proofs.Common.{◌||◌, is_none, nat_lt, if◌then◌else◌, Global, join_by, option_map_or, lt-ltb, Row, Text, Line, Usage, ◌++◌, ℕ, map, or_parts}
use Rattle.std.proofs.Common.{◌&&◌, is_some, not, option_map, flat_map}
use Rattle.cap_command.specs.Command.{has_at_most_one_output, is_at_least_one}
use Rattle.capkit.specs.Line.{IsPrintOf, is_ready, or_else, print_fault}
use Rattle.{cap_octet.specs.declared.format.Format.Format, capkit.specs.declared.usage.Usage.TheVariants.OptionsExclude, std.proofs.Math.Bool.or-true}
use Rattle.capkit.specs.declared.ids.TheConstants as ids
use Rattle.capkit.specs.declared.print_line.TheConstants as print_ids

no_exclusion : (exclude : Bool) (next : Option Usage) → or_else (if exclude then Some OptionsExclude else None) next ≡ None → exclude ≡ false
no_exclusion true next none = cc
no_exclusion false next none = refl

-- beside a listing there is no word, and so no expression
one_filter : (listing : Option Text) (code : Option (String Global)) (words : List Text) (expr : Text) → option_map string_bytes code ≡ listing
    → expr ≡ join_by (λ (word : Text). word) (codes " ") words → (is_some listing && nat_lt 0 (length words)) ≡ false
    → (is_none code || not (nat_lt 0 (length expr))) ≡ true
one_filter listing None words expr named is none = refl
one_filter None (Some code) words expr named is none = cc
one_filter (Some name) (Some code) [] expr named is none = ap (λ text. not (nat_lt 0 (length text))) is
one_filter (Some name) (Some code) (word ∷ words) expr named is none = grind (arith, lt-ltb)

-- beside a capture that is written no lines are asked for
one_output : (output : Option Text) (format : Format) (write : Option Format) (link bytes : Bool) → write ≡ option_map (λ name. format) output
    → (is_some output && (link || bytes)) ≡ false → has_at_most_one_output link bytes write ≡ true
one_output None format write link bytes is none = ap (has_at_most_one_output link bytes) is
one_output (Some name) format write link bytes is none = ap (has_at_most_one_output link bytes) is ∙ ap not none

pub ready : (matches : List Row) (line : Line) (is : IsPrintOf matches line) → print_fault matches ≡ None → vec_len line.inputs ≡ 1
    → option_map_or is_at_least_one is.print.count true ≡ true → is_ready line ≡ true
ready matches line is none one count = grind (arith, or_parts, no_exclusion, string_bytes, or-true)

-- ---- joining texts is joining what they read as

following : {X : Type 0} (f : X → List ℕ) (separator : List ℕ) (xs : List X)
    → flat_map (λ x. separator ++ f x) xs ≡ flat_map (λ (text : List ℕ). separator ++ text) (map f xs)
following f separator [] = refl
following f separator (x ∷ xs) = ap (λ rest. (separator ++ f x) ++ rest) (following f _ xs)

pub joined : {X : Type 0} (f : X → List ℕ) (separator : List ℕ) (xs : List X)
    → join_by f separator xs ≡ join_by (λ (text : List ℕ). text) separator (map f xs)
joined f separator [] = refl
joined f separator (x ∷ xs) = ap (λ rest. f x ++ rest) (following f _ xs)

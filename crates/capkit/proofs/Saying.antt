-- A line, or a fault, is what the words of the command line ask for.
use Rattle.capkit.proofs.Common.{◌≡◌, inl, inr, refl, List, Some, None, Result, Ok, Err, IfOk, IfErr, OnOk, Bool, true, false, [], ◌∷◌, if◌then◌else◌, is_none}
use Rattle.capkit.proofs.Common.{nat_lt, list_any, Row, Text, Asks, uses_name_twice, Subcommand, Line, Usage, Error}
use Rattle.capkit.specs.Line.{IsUsageOf, IsLineOf, SaysFault, SaysLine, fault_in, or_else, text_in, texts_in}
use Rattle.capkit.specs.declared.usage.Usage.TheVariants.{BadRange, BadTime, Memory, NameUsedTwice, OptionsExclude, Refused, TooManyValues}
use Rattle.capkit.specs.declared.ids.TheConstants as ids
use Rattle.capkit.specs.declared.edit_line.TheConstants as edit_ids
use Rattle.capkit.specs.declared.arguments.Subcommand.TheVariants as sub

pub says_line : (words : List Text) (asked : Subcommand) (matches : List Row) (r : Result Line Usage) → Asks words asked matches
    → IfOk r (IsLineOf asked matches)
    → OnOk r (fault_in asked matches ≡ None) → IfOk r (SaysLine words)
says_line words asked matches (Ok line) asks is none = (asked, matches, asks, none, is)
says_line words asked matches (Err usage) asks is none = tt

-- clap's refusal is no fault of the matches
edit_or_name : (many bad time shifts twice : Bool) (e : Error)
    → or_else (if many then Some TooManyValues else (if bad then Some BadRange else None)) (or_else (if time then Some BadTime else None)
    (or_else (if shifts then Some OptionsExclude else None) (if twice then Some NameUsedTwice else None))) ≡ Some (Refused e) → ⊥
edit_or_name false false false false false e same = cc
edit_or_name _ _ _ _ _ e same = cc

other_or_name : (other : Usage) (is twice : Bool) (e : Error) → (other ≡ Refused e → ⊥)
    → or_else (if is then Some other else None) (if twice then Some NameUsedTwice else None) ≡ Some (Refused e) → ⊥
other_or_name other false false e differs same = cc
other_or_name other false true e differs same = cc
other_or_name other true twice e differs same = differs (cc)

not_refused : (asked : Subcommand) (matches : List Row) (e : Error) → fault_in asked matches ≡ Some (Refused e) → ⊥
not_refused sub.Edit matches e same =
    let words = texts_in _ matches in
    edit_or_name (nat_lt _ _) (list_any (λ word. is_none _) words) _ _
    (uses_name_twice (text_in _ matches ∷ []) (Some (text_in _ matches))) e same
not_refused sub.Merge matches e same =
    other_or_name _ _
    _ e (λ is. cc) same
not_refused sub.Infos matches e same = other_or_name _ _ _ e (λ is. cc) same
not_refused sub.Print matches e same = other_or_name _ _ _ e (λ is. cc) same
not_refused sub.Compile matches e same = cc

says : (words : List Text) (asked : Subcommand) (matches : List Row) (usage : Usage) → Asks words asked matches → IsUsageOf (fault_in asked matches) usage
    → SaysFault words usage
says words asked matches (Refused e) asks fault = elim fault [
  | inl memory ↦ cc
  | inr same ↦ absurd (not_refused asked _ e same)
]
says words asked matches _ asks fault = (asked, matches, asks, fault)

pub says_fault : (words : List Text) (asked : Subcommand) (matches : List Row) (r : Result Line Usage) → Asks words asked matches
    → IfErr r (IsUsageOf (fault_in asked matches)) → IfErr r (SaysFault words)
says_fault words asked matches (Ok line) asks fault = tt
says_fault words asked matches (Err usage) asks fault = says words asked _ usage asks fault

-- a compilation's line has no fault of its own
pub compile_faultless : (matches : List Row) (r : Result Line Usage) → OnOk r (fault_in sub.Compile matches ≡ None)
compile_faultless matches (Ok line) = refl
compile_faultless matches (Err usage) = tt

pub memory_alone : (matches : List Row) (r : Result Line Usage) → IfErr r (λ usage. usage ≡ Memory) → IfErr r (IsUsageOf (fault_in sub.Compile matches))
memory_alone matches (Ok line) memory = tt
memory_alone matches (Err usage) memory = inl memory

-- A command line that clap accepts has a subcommand, since one is required.
use Rattle.capkit.proofs.Common.{rules, arith, ◌≡◌, ◌∙◌, ap, sym, refl, subst, Bool, true, false, List, [], ◌∷◌, Option, Some, None, if◌then◌else◌, ArgMatches}
use Rattle.capkit.proofs.Common.{subcommand_rows_of, TakesWords, line_app, name_of, Asks, Subcommand}
use Rattle.std.proofs.Common.{◌&&◌, is_some, not, find, option_map, Box}
use Rattle.clap.specs.Simple.{App, Shape, built, entered, names_of, rows_at, subcommand_rows}
use Rattle.clap.specs.Walk.{Held, Names, Row, Text, answers_to, nothing_held, stop_after}
use Rattle.clap.specs.declared.parser.matches.{ArgMatches.TheViews.out-ArgMatches, ArgMatches.TheViews.out-SubCommand, SubCommand.SubCommand}
use Rattle.{std.specs.Box.box_value, capkit.specs.inside.Arguments.subcommand_of_name}
use Rattle.clap.specs.{Kinds.Kinds, Kinds.check_kinds, Kinds.or_else, Words.subcommand_name_of, Faults.built_fault, Faults.level_fault}
use Rattle.capkit.specs.declared.arguments.Subcommand.TheVariants as sub

-- where no step of several fails, the last one doesn't
last_none : (a b : Kinds) → or_else a b ≡ [] → b ≡ []
last_none [] b none = none
last_none (k ∷ ks) b none = cc

last_of_five : (a b c d e : Kinds) → or_else a (or_else b (or_else c (or_else d e))) ≡ [] → e ≡ []
last_of_five a b c d e none = grind (arith, last_none)

has_entered : (has_subcommand wants_help required wants_argument : Bool) → wants_help ≡ false → required ≡ true
    → check_kinds (not has_subcommand && wants_help) (not has_subcommand && required) wants_argument ≡ [] → has_subcommand ≡ true
has_entered true wants_help required wants_argument no_help must none = refl
has_entered false true required wants_argument no_help must none = cc
has_entered false false true wants_argument no_help must none = cc
has_entered false false false wants_argument no_help must none = cc

must_enter : (s : Shape) (names : Names) (h : Held) (words : List Text) (has_subcommand : Bool) (below : Kinds)
    → s.subcommand_required ≡ true → s.arg_required_else_help ≡ false → level_fault s names h words has_subcommand below ≡ [] → has_subcommand ≡ true
must_enter s names h words has_subcommand below required no_help none = grind (arith, last_of_five, has_entered)

-- each of these has the name of a subcommand
abbrev AreNamed : List Shape → Type 0
AreNamed [] = Unit {0}
AreNamed (s ∷ rest) = ((asked : Subcommand) × (s.name ≡ name_of asked)) × AreNamed rest

-- a subcommand with its matches
abbrev IsEntered : Option (Text × List Row) → Type 0
IsEntered into = (asked : Subcommand) × (matches : List Row) × (into ≡ Some (name_of asked, matches))

-- the first subcommand that a word names is one of them
named_among : (words : List Text) (test : Shape → Bool) (subs : List Shape) → AreNamed subs
    → is_some (option_map (λ s. rows_at s words) (find test subs)) ≡ true
    → IsEntered (option_map (λ s. rows_at s words) (find test subs))
named_among words test [] named some = cc
named_among words test (s ∷ rest) named some = first _ (named_among words test rest named.1) some
  where
    at : Shape → Text × List Row
    at shape = rows_at shape words

    first : (b : Bool) → (is_some (option_map at (find test rest)) ≡ true → IsEntered (option_map at (find test rest)))
        → is_some (option_map at (if b then Some s else find test rest)) ≡ true → IsEntered (option_map at (if b then Some s else find test rest))
    first true later some = (named.0.0, (at s).1, ap (λ name. Some (name, (at s).1)) named.0.1)
    first false later some = later some

entered_named : (a : App) (stop : Option (Text × List Text)) → AreNamed a.subs → is_some (entered a stop) ≡ true → IsEntered (entered a stop)
entered_named a None named some = cc
entered_named a (Some p) named some = named_among p.1 (λ s. answers_to p.0 _) a.subs named some

enters : (a : App) (words : List Text) → a.top.subcommand_required ≡ true → a.top.arg_required_else_help ≡ false
    → AreNamed a.subs → built_fault a nothing_held words ≡ [] → IsEntered (entered a (stop_after a.top.rules (names_of a) words))
enters a words required no_help named none = grind (arith, entered_named, must_enter)

-- words that clap takes ask for one of the subcommands
pub asked_of : (words : List Text) (into : Option (Text × List Row)) → TakesWords words into
    → (asked : Subcommand) × (matches : List Row) × (into ≡ Some (name_of asked, matches))
asked_of words into taken =
    let line = line_app _ _ in
    let named : AreNamed (built line).subs = ((sub.Edit, refl), ((sub.Merge, refl), ((sub.Infos, refl), ((sub.Print, refl), ((sub.Compile, refl), tt))))) in
    let found = enters (built line) _ refl refl named taken.no_fault in
    (found.0, found.1, sym taken.enters ∙ found.2)

pub always_enters : (words : List Text) (into : Option (Text × List Row)) → TakesWords words into → None ≡ option_map (λ p. p.1) into → ⊥
always_enters words into taken none =
    let asked = asked_of words into taken in
    let bad : None ≡ Some asked.1 = cc in
    cc

named_back : (asked : Subcommand) → subcommand_of_name (name_of asked) ≡ asked
named_back sub.Edit = refl
named_back _ = refl

-- the subcommand of the name that a parse met, with its matches
asks_pair : (words : List Text) (p : Text × List Row) → TakesWords words (Some p) → Asks words (subcommand_of_name p.0) p.1
asks_pair words p taken = grind (arith, asked_of, named_back)

pub asks : (words : List Text) (into : Option (Text × List Row)) (name : Text) (matches : List Row) → TakesWords words into
    → Some name ≡ option_map (λ p. p.0) into → Some matches ≡ option_map (λ p. p.1) into → Asks words (subcommand_of_name name) matches
asks words None name matches taken named found = cc
asks words (Some p) name matches taken named found = grind (arith, asks_pair)

-- clap distinguishes the name and the matches of a subcommand
pub names_rows : {Z : Type 0} (found : Option (Box SubCommand Z))
    → option_map (λ b. (out-SubCommand (box_value b)).name.now) found ≡ option_map (λ p. p.0) (subcommand_rows found)
names_rows None = refl
names_rows (Some b) = refl

pub asks_of : (met : ArgMatches) (words : List Text) (name : Text) (matches : List Row) (asked : Subcommand) → TakesWords words (subcommand_rows_of met)
    → Some name ≡ subcommand_name_of met → Some matches ≡ option_map (λ p. p.1) (subcommand_rows_of met) → subcommand_of_name name ≡ asked
    → Asks words asked matches
asks_of met words name matches asked taken named found is =
    subst (λ a. Asks words a matches) is
    (asks words _ name _ taken (named ∙ names_rows (out-ArgMatches met).subcommand) found)

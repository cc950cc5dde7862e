-- What contracts see of a filter: its rule, its programs, and how many instructions their runs
-- execute.
use Rattle.std.specs.List.{position}
use Rattle.std.specs.Prelude.{◌≡◌, ◌==◌, ℕ, List, [], ◌∷◌, All, length, Option, None, Some}
use Rattle.cap_octet.specs.{Link.all_links, Link.link_type, Packet.Captured}
use Rattle.flt_bpf.specs.Content.{Content}
use Rattle.flt_ast.specs.{Counts.bound_of, Tree.empty, Tree.truth}
use Rattle.cap_filter.specs.FilterRules.{Rule, by_reading, by_answer}
use Rattle.cap_filter.specs.{Programs.AreMade, Programs.ran_if, declared.filter.Filter.Filter}

-- ---- the filter

-- the rule of a filter; that of the empty expression if it has neither an expression nor a listing
abbrev pub rule_of : {Z : Type 0} → Filter Z → Rule
rule_of Filter.All = by_reading empty
rule_of (Filter.Expression compiled) = by_reading compiled.tree
rule_of (Filter.Listing program) = by_answer program.insns

-- the programs of a filter: one for each link, in their order, if it has an expression; the
-- listing's; or none
abbrev pub programs_of : {Z : Type 0} → Filter Z → List Content
programs_of Filter.All = []
programs_of (Filter.Expression compiled) = compiled.programs
programs_of (Filter.Listing program) = program ∷ []

-- the programs of a new filter: they are the rule's, and none has run
abbrev pub AreNew : Rule → List Content → Type 0
AreNew (by_reading empty) programs = programs ≡ []
AreNew (by_reading (truth a)) programs =
    AreMade (truth a) all_links programs × All (λ program. program.spent ≡ 0) programs
AreNew (by_answer prog) programs = programs ≡ record { insns = prog; spent = 0 } ∷ []

-- the index of the program for a link type, if expressions support it
abbrev pub program_place : ℕ → Option ℕ
program_place n = position (λ link. link_type link == n) all_links

-- the index of the program that decides packets of a link type; None for the empty expression,
-- which needs none, and for a link type that expressions don't support
abbrev pub place_by : Rule → ℕ → Option ℕ
place_by (by_reading empty) n = None
place_by (by_reading (truth a)) n = program_place n
place_by (by_answer prog) n = Some 0

-- the most instructions executed to decide a packet: the expression's bound, or the length of a
-- listing's program
abbrev pub most_cost : Rule → ℕ
most_cost (by_reading empty) = 0
most_cost (by_reading (truth a)) = bound_of (truth a)
most_cost (by_answer prog) = length prog

-- the programs after a packet was decided: if one decides it, that one ran once
abbrev pub spent_on : Rule → Captured → List Content → List Content
spent_on rule p programs = ran_if (place_by rule p.link) p programs

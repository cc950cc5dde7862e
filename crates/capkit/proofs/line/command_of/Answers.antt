-- The words ask for the subcommand that clap found, and the line or fault is that subcommand's.
use Rattle.capkit.proofs.Common.{◌≡◌, sym, map, string_bytes, subst, List, String, Global, found_of, rows_of, subcommand_rows_of, ArgMatches, TakesWords, Asks}
use Rattle.capkit.proofs.{Enters.always_enters, Enters.asks_of, Saying.says_fault, Saying.says_line}
use Rattle.capkit.proofs.line.command_of.Goals as goal

pub unreachable-requires : goal.unreachable-requires
unreachable-requires c = always_enters _ (subcommand_rows_of c.in-Ok.matches) c.in-Ok.ensures.taken c.in_default.ensures.rows

taken_as : (met : ArgMatches) (words given : List (String Global)) → words ≡ given → TakesWords (map string_bytes words) (subcommand_rows_of met)
    → TakesWords (map string_bytes given) (subcommand_rows_of met)
taken_as met words given same taken = subst (λ (ws : List (String Global)). TakesWords (map string_bytes ws) (subcommand_rows_of met)) same taken

asks : (c : goal.After-drop-words-2) → Asks (map string_bytes c.args.words.items) c.subcommand_of_name.result (rows_of (found_of c.in-Some.matches.now))
asks c =
    asks_of c.in-Ok.matches _ c.in-Some.name.now _ c.subcommand_of_name.result (taken_as _ _ _ c.as_slice.ensures.value c.in-Ok.ensures.taken)
    c.in-Some.ensures.name c.in-Some.ensures.rows (sym c.subcommand_of_name.ensures)

pub returns-clause-line : goal.returns-clause-line
returns-clause-line c = says_line _ c.subcommand_of_name.result _ c.line_of_matches.result (asks c) c.line_of_matches.ensures.line
    c.line_of_matches.ensures.faultless

pub returns-clause-usage : goal.returns-clause-usage
returns-clause-usage c = says_fault _ c.subcommand_of_name.result _ c.line_of_matches.result (asks c) c.line_of_matches.ensures.fault

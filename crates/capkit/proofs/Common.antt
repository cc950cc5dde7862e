-- Re-exports the names that most proofs of this crate cite; declares nothing.
pub use Rattle.std.proofs.Common.{◌≡◌, ◌∙◌, ap, sym, refl, subst, Bool, true, false, List, [], ◌∷◌, Option, Some, None, if◌then◌else◌, ◌≤◌, length, map, nat_lt}
pub use Rattle.std.proofs.Common.{ℕ, codes, inl, inr, ◌+◌, ◌<◌, rules, arith, Result, Ok, Err, ◌||◌, take, drop, String, string_bytes, vec_len, is_none}
pub use Rattle.std.proofs.Common.{slice_index_or, IfOk, IfErr, OnOk, ◌++◌, IfNone, add-one, drop-cons}
pub use Rattle.std.specs.List.{list_any, list_all, position, join_by}
pub use Rattle.cap_command.specs.Command.{is_time, is_range}
pub use Rattle.capkit.specs.Arguments.{TakesWords, line_app, name_of, with_rules, with_shapes, line_without_commands}
pub use Rattle.clap.specs.Words.{subcommand_rows_of, Text, ReadsOne, Row, found_of, rows_of, one_text, App, app_of, new_app, with_subcommand, with_rule}
pub use Rattle.clap.specs.declared.builder.value_parser.ValueParser.{TheVariants.Names, ValueParser}
pub use Rattle.std.proofs.lemmas.Bool.{le-ltb, and_parts, lt-ltb, and_from, le-leb, eq-eqb, or_parts, Decides.nat_tests}
pub use Rattle.capkit.specs.declared.{usage.Usage.Usage, arguments.Subcommand.Subcommand, line.Line.Line}
pub use Rattle.clap.specs.declared.{parser.matches.ArgMatches.ArgMatches, error.Error.Error, error.kind.ErrorKind.TheVariants.OutOfMemory}
pub use Rattle.std.proofs.lemmas.{Result.err_from_is_err_and, Result.IfOk-weaker, Grind.common_steps, List.take_all}
pub use Rattle.std.specs.{Prelude.count_by, Prelude.fold, Option.option_map_or, Option.option_and_then, Global.Global, Global.Vec, Borrow.Bor, Str.bytes_eq}
pub use Rattle.capkit.specs.{inside.Arguments.rule_by, inside.Arguments.shape_by, Line.Asks, Line.number_between, Names.uses_name_twice, Range.range_of}
pub use Rattle.clap.{specs.Simple.app_of_fields, proofs.WalkLemmas.one_text-rows, proofs.WalkLemmas.list_any-map}

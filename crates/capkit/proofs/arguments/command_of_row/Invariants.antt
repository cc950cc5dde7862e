-- Adding the remaining arguments gives the same subcommand as adding all of them.
use Rattle.capkit.proofs.Common.{◌≡◌, drop, false, map, new_app, app_of, with_rules, rule_by}
use Rattle.clap.specs.declared.builder.command.Command.TheViews.{out-Command as fields_of}
use Rattle.capkit.proofs.arguments.command_of_row.Given as goal

abbrev pub invariant-loop-argument : goal.invariant-loop-argument
invariant-loop-argument l =
    (with_rules (app_of l.command) (map (rule_by l.choices) (drop l.argument-index l.row.arguments.now))
    ≡ with_rules (new_app l.row.name.now) (map (rule_by l.choices) l.row.arguments.now))
    × ((fields_of l.command).has_globals ≡ false)

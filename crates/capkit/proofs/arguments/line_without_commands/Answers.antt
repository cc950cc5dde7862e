-- The calls of clap's builder, one after the other, give the line without subcommands.
use Rattle.capkit.proofs.Common.{◌≡◌, ◌∙◌, ap, codes, true, IfOk-weaker, app_of_fields, App, app_of, new_app, line_without_commands}
use Rattle.capkit.proofs.arguments.line_without_commands.Goals as goal

abbrev versioned : App → App
versioned a = record a { top = record a.top { has_version = true } }

abbrev nameless : App → App
nameless a = record a { top = record a.top { no_binary_name = true } }

abbrev requiring : App → App
requiring a = record a { top = record a.top { subcommand_required = true } }

abbrev without_help : App → App
without_help a = record a { top = record a.top { disable_help_subcommand = true } }

abbrev named : App
named = new_app (codes "capkit")

pub returns : goal.returns
returns c =
    let about : app_of c.about.result ≡ named = ap app_of_fields c.about.ensures ∙ c.new.ensures.app in
    let helped : app_of c.after_help.result ≡ named = ap app_of_fields c.after_help.ensures ∙ about in
    let numbered : app_of c.version.result ≡ versioned named = ap app_of_fields c.version.ensures ∙ ap versioned helped in
    let following : app_of c.no_binary_name.result ≡ nameless (versioned named) = ap app_of_fields c.no_binary_name.ensures ∙ ap nameless numbered in
    let required : app_of c.subcommand_required.result ≡ requiring (nameless (versioned named)) =
    ap app_of_fields c.subcommand_required.ensures ∙ ap requiring following in
    let alone : app_of c.disable_help_subcommand.result ≡ line_without_commands =
    ap app_of_fields c.disable_help_subcommand.ensures ∙ ap without_help required in
    IfOk-weaker c.bin_name.result _ _ (λ command is. ap app_of_fields is.0 ∙ alone) c.bin_name.ensures

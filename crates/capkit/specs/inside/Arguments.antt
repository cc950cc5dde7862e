-- A rule and an app, as the calls of clap's builder make them.
use Rattle.std.specs.{Prelude.Some, Prelude.if◌then◌else◌, Prelude.map, Str.bytes_eq}
use Rattle.clap.specs.Words.{App, Rule, Shape, Text, new_app, new_rule}
use Rattle.clap.specs.declared.builder.value_parser.ValueParser.{ValueParser}
use Rattle.capkit.specs.Arguments.{flag, with_one_value, with_wide_bounds, with_choices, as_required, many, name_of, with_rules}
use Rattle.capkit.specs.declared.arguments.{Choices.Choices, Subcommand.Subcommand}
use Rattle.capkit.specs.declared.options.{Argument.Argument, CommandRow.CommandRow, Name.Name, Value.Value}

-- an argument with the name of a row
abbrev pub with_name : Name → Rule → Rule
with_name Name.Place rule = rule
with_name (Name.Letter letter) rule = record rule { short = Some letter }
with_name (Name.Long long) rule = record rule { long = Some long.now }

-- an argument that takes the value in a row
abbrev pub with_value : Choices → Value → Rule → Rule
with_value choices Value.Flag rule = flag rule
with_value choices (Value.Text shown) rule = with_one_value rule
with_value choices (Value.Number shown least most) rule =
    record (with_one_value rule) { parser = Some (ValueParser.Signed least most) }
with_value choices (Value.Wide shown least most) rule = with_wide_bounds least most rule
with_value choices Value.Format rule = with_choices (ValueParser.Names choices.formats) rule
with_value choices Value.Link rule = with_choices (ValueParser.Names choices.links) rule
with_value choices Value.File rule = rule
with_value choices Value.NeededFile rule = as_required rule
with_value choices Value.Words rule = many rule

-- the rule of an argument's row
abbrev pub rule_by : Choices → Argument → Rule
rule_by choices argument =
    with_value choices argument.value (with_name argument.name (new_rule argument.id.now))

-- the command that a row describes, with its arguments
abbrev pub app_by : Choices → CommandRow → App
app_by choices row = with_rules (new_app row.name.now) (map (rule_by choices) row.arguments.now)

-- the same, as a subcommand of another one
abbrev pub shape_by : Choices → CommandRow → Shape
shape_by choices row = (app_by choices row).top

-- the subcommand with this name; any name but the first four is `compile`
abbrev pub subcommand_of_name : Text → Subcommand
subcommand_of_name name =
    if bytes_eq name (name_of Subcommand.Edit) then Subcommand.Edit
    else (if bytes_eq name (name_of Subcommand.Merge) then Subcommand.Merge
    else (if bytes_eq name (name_of Subcommand.Infos) then Subcommand.Infos
    else (if bytes_eq name (name_of Subcommand.Print) then Subcommand.Print else Subcommand.Compile)))

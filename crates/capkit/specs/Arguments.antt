-- The command line as clap parses it.
use Rattle.std.specs.Prelude.{◌≡◌, ℕ, List, [], ◌∷◌, Option, Some, true, codes, fold, map, pos, slice_get, ◌-◌, ◌^◌}
use Rattle.clap.specs.Words.{App, HasKind, Row, Rule, Shape, Text, fault_of, is_simple, is_simple_and_free, kind_of, new_app, new_rule, subcommand_of, takes, with_rule, with_subcommand}
use Rattle.clap.specs.declared.builder.{action.ArgAction.TheVariants.SetTrue, value_parser.ValueParser.ValueParser}
use Rattle.clap.specs.declared.error.{Error.Error, kind.ErrorKind.TheVariants.OutOfMemory}
use Rattle.cap_octet.specs.{Format.all_formats, Format.format_name, Link.all_links, Link.link_name}
use Rattle.cap_command.specs.Command.{least_window, most_window}
use Rattle.capkit.specs.declared.ids.TheConstants as ids
use Rattle.capkit.specs.declared.edit_line.TheConstants as edit_ids
use Rattle.capkit.specs.declared.merge_line.TheConstants as merge_ids
use Rattle.capkit.specs.declared.print_line.TheConstants as print_ids
use Rattle.capkit.specs.declared.arguments.Subcommand.{Subcommand}

-- the greatest 32-bit number
abbrev pub most_32 : ℕ
most_32 = 2 ^ 32 - 1

-- the greatest 64-bit number
abbrev pub most_64 : ℕ
most_64 = 2 ^ 64 - 1

-- an argument that is named by a letter, `-LETTER`
abbrev pub by_letter : (letter id : Text) → Rule
by_letter letter id = record (new_rule id) { short = slice_get letter 0 }

-- an argument that is named by a name, `--NAME`
abbrev pub by_name : (name id : Text) → Rule
by_name name id = record (new_rule id) { long = Some name }

-- an argument that is named by its place
abbrev pub by_place : (id : Text) → Rule
by_place id = new_rule id

-- an argument that takes no value
abbrev pub flag : Rule → Rule
flag rule = record rule { action = Some SetTrue }

-- an argument that takes one value
abbrev pub with_one_value : Rule → Rule
with_one_value rule = record rule { value_names = 1 }

-- an argument that takes a number from `least` to `most`, below 2^63
abbrev pub with_bounds : (least most : ℕ) → Rule → Rule
with_bounds least most rule =
    record (with_one_value rule) { parser = Some (ValueParser.Signed (pos least) (pos most)) }

-- an argument that takes a number from `least` to `most`, below 2^64
abbrev pub with_wide_bounds : (least most : ℕ) → Rule → Rule
with_wide_bounds least most rule = record (with_one_value rule) { parser = Some (ValueParser.Unsigned least most) }

-- an argument that takes one of some names
abbrev pub with_choices : ValueParser → Rule → Rule
with_choices names rule = record rule { parser = Some names }

-- an argument that its command needs
abbrev pub as_required : Rule → Rule
as_required rule = record rule { required = true }

-- an argument that takes any number of values
abbrev pub many : Rule → Rule
many rule = record rule {
  range = Some (record { start_inclusive = 0; end_inclusive = most_64 });
}

-- the name of a subcommand
abbrev pub name_of : Subcommand → Text
name_of Subcommand.Edit = codes "edit"
name_of Subcommand.Merge = codes "merge"
name_of Subcommand.Infos = codes "infos"
name_of Subcommand.Print = codes "print"
name_of Subcommand.Compile = codes "compile"

-- the arguments of `edit`: its options, then its positional arguments, each in the order in which
-- its help lists them
abbrev pub edit_rules : (formats : ValueParser) → List Rule
edit_rules formats =
    flag (by_letter (codes "r") edit_ids.KEEP.now)
    ∷ with_one_value (by_letter (codes "A") edit_ids.START.now)
    ∷ with_one_value (by_letter (codes "B") edit_ids.STOP.now)
    ∷ with_bounds 0 most_32 (by_name (codes "chop-start") edit_ids.CHOP_START.now)
    ∷ with_bounds 0 most_32 (by_name (codes "chop-end") edit_ids.CHOP_END.now)
    ∷ with_bounds 1 most_32 (by_letter (codes "s") edit_ids.SNAP.now)
    ∷ with_one_value (by_name (codes "later") edit_ids.LATER.now)
    ∷ with_one_value (by_name (codes "earlier") edit_ids.EARLIER.now)
    ∷ with_bounds least_window most_window (by_letter (codes "D") edit_ids.WINDOW.now)
    ∷ with_choices formats (by_letter (codes "F") ids.FORMAT.now)
    ∷ as_required (by_place edit_ids.IN.now)
    ∷ as_required (by_place ids.OUT.now)
    ∷ many (by_place edit_ids.RANGE.now)
    ∷ []

-- the arguments of `merge`, in that order
abbrev pub merge_rules : (formats : ValueParser) → List Rule
merge_rules formats =
    flag (by_letter (codes "a") merge_ids.APPEND.now)
    ∷ with_choices formats (by_letter (codes "F") ids.FORMAT.now)
    ∷ as_required (by_letter (codes "w") ids.OUT.now)
    ∷ as_required (by_place ids.FILE.now)
    ∷ many (by_place ids.MORE.now)
    ∷ []

-- the arguments of `infos`, in that order
abbrev pub infos_rules : List Rule
infos_rules = as_required (by_place ids.FILE.now) ∷ many (by_place ids.MORE.now) ∷ []

-- the arguments of `print`, in that order
abbrev pub print_rules : (formats : ValueParser) → List Rule
print_rules formats =
    with_wide_bounds 1 most_64 (by_letter (codes "c") print_ids.COUNT.now)
    ∷ flag (by_letter (codes "e") print_ids.LINK_HEADER.now)
    ∷ flag (by_letter (codes "x") print_ids.BYTES.now)
    ∷ by_letter (codes "w") ids.OUT.now
    ∷ with_choices formats (by_name (codes "format") ids.FORMAT.now)
    ∷ by_name (codes "code") print_ids.LISTING.now
    ∷ as_required (by_place ids.FILE.now)
    ∷ many (by_place ids.WORD.now)
    ∷ []

-- the arguments of `compile`, in that order
abbrev pub compile_rules : (links : ValueParser) → List Rule
compile_rules links =
    with_choices links (by_name (codes "link") print_ids.LINK.now)
    ∷ many (by_place ids.WORD.now)
    ∷ []

-- a command with these arguments after its own
abbrev pub with_rules : App → List Rule → App
with_rules = fold with_rule

-- the command of this name, with these arguments
abbrev pub shape_of : Text → List Rule → Shape
shape_of name rules = (with_rules (new_app name) rules).top

-- a command with these subcommands after its own
abbrev pub with_shapes : App → List Shape → App
with_shapes = fold with_subcommand

-- the command of the line before its subcommands are added
abbrev pub line_without_commands : App
line_without_commands =
    let app = new_app (codes "capkit") in
    record app {
      top = record app.top {
        no_binary_name = true;
        has_version = true;
        subcommand_required = true;
        disable_help_subcommand = true;
      };
    }

-- the subcommand `edit`
abbrev pub edit_shape : (formats : ValueParser) → Shape
edit_shape formats = shape_of (name_of Subcommand.Edit) (edit_rules formats)

-- the subcommand `merge`
abbrev pub merge_shape : (formats : ValueParser) → Shape
merge_shape formats = shape_of (name_of Subcommand.Merge) (merge_rules formats)

-- the subcommand `infos`
abbrev pub infos_shape : Shape
infos_shape = shape_of (name_of Subcommand.Infos) infos_rules

-- the subcommand `print`
abbrev pub print_shape : (formats : ValueParser) → Shape
print_shape formats = shape_of (name_of Subcommand.Print) (print_rules formats)

-- the subcommand `compile`
abbrev pub compile_shape : (links : ValueParser) → Shape
compile_shape links = shape_of (name_of Subcommand.Compile) (compile_rules links)

-- the subcommands, in the order in which help lists them
abbrev pub line_shapes : (formats links : ValueParser) → List Shape
line_shapes formats links =
    edit_shape formats ∷ merge_shape formats ∷ infos_shape ∷ print_shape formats
    ∷ compile_shape links ∷ []

-- the whole line after the program's name, with `--version` and no subcommand `help`
abbrev pub line_app : (formats links : ValueParser) → App
line_app formats links = with_shapes line_without_commands (line_shapes formats links)

-- the line is a simple command: what clap states about parsing those applies
abbrev pub LineIsSimple : Type 0
LineIsSimple = (formats links : ValueParser) → is_simple (line_app formats links) ≡ true

-- the line is a simple and free command: what clap states about failures to parse those applies
abbrev pub LineIsFree : Type 0
LineIsFree = (formats links : ValueParser) → is_simple_and_free (line_app formats links) ≡ true

-- the names of all formats
abbrev pub format_names : List Text
format_names = map format_name all_formats

-- the names of all links
abbrev pub link_names : List Text
link_names = map link_name all_links

-- the values that an argument may have; their list is allocated by the program, so no definition
-- can name its address
abbrev pub AreChoices : List Text → ValueParser → Type 0
AreChoices texts (ValueParser.Names names) = map (λ name. name.now) names.now ≡ texts
AreChoices texts _ = ⊥

-- clap accepts the words; they enter this subcommand with these matches
pub record TakesWords (words : List Text) (entered : Option (Text × List Row)) : Type 0 where
  pub formats : ValueParser
  pub links : ValueParser
  pub are_formats : AreChoices format_names formats
  pub are_links : AreChoices link_names links
  pub no_fault : fault_of (line_app formats links) words ≡ []
  pub enters : subcommand_of (line_app formats links) words ≡ entered

-- clap returns this error for the words: one of the kinds of their faults; or, if clap accepts the
-- words, memory ran out
pub record RefusesWords (words : List Text) (error : Error) : Type 0 where
  pub formats : ValueParser
  pub links : ValueParser
  pub are_formats : AreChoices format_names formats
  pub are_links : AreChoices link_names links
  pub memory_alone : takes (line_app formats links) words ≡ true → kind_of error ≡ OutOfMemory
  pub kind : HasKind (fault_of (line_app formats links) words) error

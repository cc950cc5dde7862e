-- The command that the words of a command line ask for.
use Rattle.std.specs.{Global.Global, Global.Vec, List.join_by, List.list_any}
use Rattle.std.specs.Option.{option_and_then, option_map_or, option_to_list}
use Rattle.std.specs.Prelude.{◌≡◌, ◌&&◌, ◌||◌, ◌⊎◌, ℕ, Bool, false, not, List, [], ◌∷◌, length, map, nat_lt, codes, Option, Some, None, is_none, is_some, option_map, unwrap_or, if◌then◌else◌, string_bytes, vec_len}
use Rattle.std.specs.Str.{bytes_eq, Parse.digits_value, Parse.without_leading_plus}
use Rattle.cap_octet.specs.{Format.format_of_name, Link.link_of_name, Seconds.duration_value, Timestamp.time_value}
use Rattle.cap_octet.specs.declared.format.Format.{Format, TheVariants.Pcapng}
use Rattle.cap_octet.specs.declared.link.Link.{Link, TheVariants.Ether}
use Rattle.cap_command.specs.Command.{is_proper, least_window, most_inputs, most_ranges, most_window}
use Rattle.cap_command.specs.declared.command.Command.{Command}
use Rattle.cap_command.specs.declared.command.{Compile.Compile, Edit.Edit, Merge.Merge, Print.Print, Shift.Shift}
use Rattle.clap.specs.{ValueTests.is_unsigned_in, Words.Row, Words.Text, Words.all_of, Words.first_of, Words.one_of}
use Rattle.capkit.specs.Arguments.{RefusesWords, TakesWords, most_32, most_64, name_of}
use Rattle.capkit.specs.{Names.uses_name_twice, Range.range_of}
use Rattle.capkit.specs.declared.{arguments.Subcommand.Subcommand, line.Line.Line, usage.Usage.Usage}
use Rattle.capkit.specs.declared.usage.Usage.TheVariants.{BadRange, BadTime, Memory, NameUsedTwice, OptionsExclude, Refused, TooManyValues}
use Rattle.capkit.specs.declared.ids.TheConstants as ids
use Rattle.capkit.specs.declared.edit_line.TheConstants as edit_ids
use Rattle.capkit.specs.declared.merge_line.TheConstants as merge_ids
use Rattle.capkit.specs.declared.print_line.TheConstants as print_ids

-- ---- clap's matches

-- the first value of an argument, or an empty text
abbrev pub text_in : Text → List Row → Text
text_in id matches = unwrap_or (first_of id matches) []

-- all values of an argument, in order
abbrev pub texts_in : Text → List Row → List Text
texts_in id matches = unwrap_or (all_of id matches) []

-- whether a flag is set
abbrev pub flag_in : Text → List Row → Bool
flag_in id matches = option_map_or (λ text. bytes_eq text (codes "true")) (one_of id matches) false

-- the format that an argument names; pcapng if it isn't given, or names none
abbrev pub format_in : Text → List Row → Format
format_in id matches = unwrap_or (option_and_then format_of_name (first_of id matches)) Pcapng

-- the link that an argument names; Ethernet if it isn't given, or names none
abbrev pub link_in : Text → List Row → Link
link_in id matches = unwrap_or (option_and_then link_of_name (first_of id matches)) Ether

-- the number that a text means, from `least` to `most`; it may begin with a plus sign
abbrev pub number_between : (least most : ℕ) → Text → Option ℕ
number_between least most text =
    if is_unsigned_in least most text then Some (digits_value 10 (without_leading_plus text))
    else None

-- the number that an argument has; clap accepts only those from `least` to `most`
abbrev pub argument_number : (least most : ℕ) → Text → List Row → Option ℕ
argument_number least most id matches =
    option_and_then (number_between least most) (one_of id matches)

-- the time of an argument, in nanoseconds since 1970-01-01 00:00:00 UTC; None if it isn't given, or
-- isn't a time
abbrev pub time_in : Text → List Row → Option ℕ
time_in id matches = option_and_then time_value (first_of id matches)

-- the nanoseconds of an argument's number of seconds; None if it isn't given, or isn't one
abbrev pub duration_in : Text → List Row → Option ℕ
duration_in id matches = option_and_then duration_value (first_of id matches)

-- the shift of times by one of these spans, in nanoseconds, or none; if both are given, by the
-- first
abbrev pub shift_by : (later earlier : Option ℕ) → Shift
shift_by (Some span) earlier = Shift.Later span
shift_by None (Some span) = Shift.Earlier span
shift_by None None = Shift.None

-- how times are shifted: by `--later` or `--earlier`, or not
abbrev pub shift_in : List Row → Shift
shift_in matches =
    shift_by (duration_in edit_ids.LATER.now matches) (duration_in edit_ids.EARLIER.now matches)

-- the format of the packets if `-w` names a capture; else None, and lines are printed
abbrev pub write_in : List Row → Option Format
write_in matches =
    option_map (λ name. format_in ids.FORMAT.now matches) (first_of ids.OUT.now matches)

-- the expression: the words, with one blank between each two
abbrev pub expression_in : List Row → Text
expression_in matches =
    join_by (λ (word : Text). word) (codes " ") (texts_in ids.WORD.now matches)

-- ---- faults of usage

-- the first of two faults
abbrev pub or_else : Option Usage → Option Usage → Option Usage
or_else (Some fault) next = Some fault
or_else None next = next

-- the first fault of the words for ranges
abbrev pub range_fault : List Text → Option Usage
range_fault words =
    if nat_lt most_ranges (length words) then Some TooManyValues
    else (if list_any (λ word. is_none (range_of word)) words then Some BadRange else None)

-- the fault of a name that is used twice
abbrev pub name_fault : List Text → Option Text → Option Usage
name_fault inputs output = if uses_name_twice inputs output then Some NameUsedTwice else None

-- whether an argument's text isn't a time
abbrev pub is_bad_time : Text → List Row → Bool
is_bad_time id matches = is_some (first_of id matches) && is_none (time_in id matches)

-- whether an argument's text isn't a number of seconds
abbrev pub is_bad_duration : Text → List Row → Bool
is_bad_duration id matches = is_some (first_of id matches) && is_none (duration_in id matches)

-- whether the text of an argument for a time or a number of seconds isn't one
abbrev pub has_bad_time : List Row → Bool
has_bad_time matches =
    is_bad_time edit_ids.START.now matches || (is_bad_time edit_ids.STOP.now matches
    || (is_bad_duration edit_ids.LATER.now matches || is_bad_duration edit_ids.EARLIER.now matches))

-- the fault of such a text
abbrev pub time_fault : List Row → Option Usage
time_fault matches = if has_bad_time matches then Some BadTime else None

-- whether times should be shifted both later and earlier
abbrev pub has_two_shifts : List Row → Bool
has_two_shifts matches =
    is_some (first_of edit_ids.LATER.now matches) && is_some (first_of edit_ids.EARLIER.now matches)

-- the fault of times that are shifted both ways
abbrev pub shift_fault : List Row → Option Usage
shift_fault matches = if has_two_shifts matches then Some OptionsExclude else None

-- the first fault of an edit after its ranges: a bad time, then options that exclude each other,
-- then a name used twice
abbrev pub option_fault : List Row → Option Usage
option_fault matches = or_else (time_fault matches) (or_else (shift_fault matches)
    (name_fault (text_in edit_ids.IN.now matches ∷ []) (Some (text_in ids.OUT.now matches))))

-- the first fault of an edit: too many ranges, then a bad one, then a fault of the options
abbrev pub edit_fault : List Row → Option Usage
edit_fault matches =
    or_else (range_fault (texts_in edit_ids.RANGE.now matches)) (option_fault matches)

-- the names of the inputs of a command that has several: there is one at least
abbrev pub files_in : List Row → List Text
files_in matches = text_in ids.FILE.now matches ∷ texts_in ids.MORE.now matches

-- the fault of too many inputs
abbrev pub count_fault : List Text → Option Usage
count_fault inputs = if nat_lt most_inputs (length inputs) then Some TooManyValues else None

-- the first fault of some inputs: too many, then a name used twice
abbrev pub files_fault : List Text → Option Text → Option Usage
files_fault inputs output = or_else (count_fault inputs) (name_fault inputs output)

-- the first fault of a merge: too many inputs, then a name used twice
abbrev pub merge_fault : List Row → Option Usage
merge_fault matches = files_fault (files_in matches) (Some (text_in ids.OUT.now matches))

-- the first fault of a report: too many inputs, then a name used twice
abbrev pub infos_fault : List Row → Option Usage
infos_fault matches = files_fault (files_in matches) None

-- the names of the inputs: the capture's, and the listing's if there is one
abbrev pub read_names : List Row → List Text
read_names matches =
    text_in ids.FILE.now matches ∷ option_to_list (first_of print_ids.LISTING.now matches)

-- whether both a listing and an expression are given; a print takes only one
abbrev pub has_two_filters : List Row → Bool
has_two_filters matches =
    is_some (first_of print_ids.LISTING.now matches)
    && nat_lt 0 (length (texts_in ids.WORD.now matches))

-- whether a capture is written, but link headers or bytes of lines are asked for
abbrev pub has_two_outputs : List Row → Bool
has_two_outputs matches =
    is_some (first_of ids.OUT.now matches)
    && (flag_in print_ids.LINK_HEADER.now matches || flag_in print_ids.BYTES.now matches)

-- whether a format is given though no capture is written
abbrev pub has_idle_format : List Row → Bool
has_idle_format matches =
    is_some (first_of ids.FORMAT.now matches) && is_none (first_of ids.OUT.now matches)

-- whether options are given that exclude each other
abbrev pub has_exclusion : List Row → Bool
has_exclusion matches =
    has_two_filters matches || (has_two_outputs matches || has_idle_format matches)

-- the fault of options that exclude each other
abbrev pub exclusion_fault : List Row → Option Usage
exclusion_fault matches = if has_exclusion matches then Some OptionsExclude else None

-- the first fault of a print: options that exclude each other, then a name used twice
abbrev pub print_fault : List Row → Option Usage
print_fault matches =
    or_else (exclusion_fault matches)
    (name_fault (read_names matches) (first_of ids.OUT.now matches))

-- ---- lines

-- the edit has everything that the options ask for, except its ranges
pub record HasOptions (matches : List Row) (edit : Edit Global) : Type 0 where
  pub keep : edit.keep ≡ flag_in edit_ids.KEEP.now matches
  pub start : edit.start ≡ time_in edit_ids.START.now matches
  pub stop : edit.stop ≡ time_in edit_ids.STOP.now matches
  pub chop_start : edit.chop_start ≡
      unwrap_or (argument_number 0 most_32 edit_ids.CHOP_START.now matches) 0
  pub chop_end : edit.chop_end ≡
      unwrap_or (argument_number 0 most_32 edit_ids.CHOP_END.now matches) 0
  pub snap : edit.snap ≡ argument_number 1 most_32 edit_ids.SNAP.now matches
  pub shift : edit.shift ≡ shift_in matches
  pub window : edit.window ≡ argument_number least_window most_window edit_ids.WINDOW.now matches
  pub format : edit.format ≡ format_in ids.FORMAT.now matches

-- the line is the edit that the matches ask for
pub record IsEditOf (matches : List Row) (line : Line) : Type 0 where
  pub edit : Edit Global
  pub command : line.command ≡ Command.Edit edit
  pub ranges : map Some edit.ranges.items ≡ map range_of (texts_in edit_ids.RANGE.now matches)
  pub options : HasOptions matches edit
  pub inputs : map string_bytes line.inputs.items ≡ text_in edit_ids.IN.now matches ∷ []
  pub output : option_map string_bytes line.output ≡ Some (text_in ids.OUT.now matches)
  pub code : line.code ≡ None

-- the line is the merge that the matches ask for
pub record IsMergeOf (matches : List Row) (line : Line) : Type 0 where
  pub merge : Merge
  pub command : line.command ≡ Command.Merge merge
  pub append : merge.append ≡ flag_in merge_ids.APPEND.now matches
  pub format : merge.format ≡ format_in ids.FORMAT.now matches
  pub inputs : map string_bytes line.inputs.items ≡ files_in matches
  pub output : option_map string_bytes line.output ≡ Some (text_in ids.OUT.now matches)
  pub code : line.code ≡ None

-- the line asks for the same reports as the matches
pub record IsInfosOf (matches : List Row) (line : Line) : Type 0 where
  pub command : line.command ≡ Command.Infos
  pub inputs : map string_bytes line.inputs.items ≡ files_in matches
  pub output : line.output ≡ None
  pub code : line.code ≡ None

-- the line is the print that the matches ask for; its listing is named but not read yet
pub record IsPrintOf (matches : List Row) (line : Line) : Type 0 where
  pub print : Print Global
  pub command : line.command ≡ Command.Print print
  pub expr : string_bytes print.expr ≡ expression_in matches
  pub unread : print.code ≡ None
  pub count : print.count ≡ argument_number 1 most_64 print_ids.COUNT.now matches
  pub link : print.link ≡ flag_in print_ids.LINK_HEADER.now matches
  pub bytes : print.bytes ≡ flag_in print_ids.BYTES.now matches
  pub write : print.write ≡ write_in matches
  pub inputs : map string_bytes line.inputs.items ≡ text_in ids.FILE.now matches ∷ []
  pub output : option_map string_bytes line.output ≡ first_of ids.OUT.now matches
  pub code : option_map string_bytes line.code ≡ first_of print_ids.LISTING.now matches

-- the line is the compilation that the matches ask for
pub record IsCompileOf (matches : List Row) (line : Line) : Type 0 where
  pub compile : Compile Global
  pub command : line.command ≡ Command.Compile compile
  pub expr : string_bytes compile.expr ≡ expression_in matches
  pub link : compile.link ≡ link_in print_ids.LINK.now matches
  pub inputs : line.inputs.items ≡ []
  pub output : line.output ≡ None
  pub code : line.code ≡ None

-- ---- the words

-- the first fault of the words of a subcommand
abbrev pub fault_in : Subcommand → List Row → Option Usage
fault_in Subcommand.Edit matches = edit_fault matches
fault_in Subcommand.Merge matches = merge_fault matches
fault_in Subcommand.Infos matches = infos_fault matches
fault_in Subcommand.Print matches = print_fault matches
fault_in Subcommand.Compile matches = None

-- the line is what the matches of a subcommand ask for
abbrev pub IsLineOf : Subcommand → List Row → Line → Type 0
IsLineOf Subcommand.Edit matches line = IsEditOf matches line
IsLineOf Subcommand.Merge matches line = IsMergeOf matches line
IsLineOf Subcommand.Infos matches line = IsInfosOf matches line
IsLineOf Subcommand.Print matches line = IsPrintOf matches line
IsLineOf Subcommand.Compile matches line = IsCompileOf matches line

-- why a line isn't read: memory ran out, or it has this as its first fault
abbrev pub IsUsageOf : Option Usage → Usage → Type 0
IsUsageOf fault usage = (usage ≡ Memory) ⊎ (fault ≡ Some usage)

-- clap accepts the words, and these are its matches for the subcommand
abbrev pub Asks : List Text → Subcommand → List Row → Type 0
Asks words asked matches = TakesWords words (Some (name_of asked, matches))

-- the words ask for the line: clap accepts them, and their matches have no fault
abbrev pub SaysLine : List Text → Line → Type 0
SaysLine words line =
    (asked : Subcommand) × (matches : List Row) × Asks words asked matches
    × (fault_in asked matches ≡ None) × IsLineOf asked matches line

-- the words aren't a line: clap refuses them; or it accepts them, and memory ran out or this is
-- their first fault
abbrev pub SaysFault : List Text → Usage → Type 0
SaysFault words (Refused error) = RefusesWords words error
SaysFault words usage =
    (asked : Subcommand) × (matches : List Row) × Asks words asked matches
    × IsUsageOf (fault_in asked matches) usage

-- ---- what may be run

-- the command is a print with an expression that is not empty
abbrev pub has_expression : {Z : Type 0} → Command Z → Bool
has_expression (Command.Print print) = nat_lt 0 (length (string_bytes print.expr))
has_expression _ = false

-- whether a line may be run once its listing is read
abbrev pub is_ready : Line → Bool
is_ready line =
    is_proper line.command (vec_len line.inputs)
    && (is_none line.code || not (has_expression line.command))

-- the command with a listing of these bytes; only a print takes one
abbrev pub with_code : Command Global → Vec ℕ → Command Global
with_code (Command.Print print) bytes = Command.Print (record print { code = Some bytes })
with_code asked bytes = asked

-- Which commands may be run, the listing of a print, and which packets an edit keeps.
use Rattle.std.specs.{List.list_all, List.list_any, Option.is_none, Option.option_map, Option.option_map_or}
use Rattle.std.specs.Prelude.{ℕ, ◌≡◌, ◌^◌, ◌&&◌, ◌||◌, Bool, true, not, List, length, nat_eq, nat_lt, nat_le, string_bytes, Option, if◌then◌else◌}
use Rattle.cap_octet.specs.Date.{TIME_END}
use Rattle.cap_command.specs.declared.command.{Command.Command, Edit.Edit, Print.Print, Shift.Shift}

-- packets' numbers are below this
abbrev pub PACKET_NUMBER_END : ℕ
PACKET_NUMBER_END = 2 ^ 63

-- whether two numbers are a range of packet numbers: from 1 on, in order, below 2^63
abbrev pub is_range : ℕ → ℕ → Bool
is_range first last = nat_le 1 first && nat_le first last && nat_lt last PACKET_NUMBER_END

-- the most ranges of an edit
abbrev pub most_ranges : ℕ
most_ranges = 512

-- whether an edit may have these ranges: there are not too many, and each is a range
abbrev pub has_proper_ranges : List (ℕ × ℕ) → Bool
has_proper_ranges ranges =
    nat_le (length ranges) most_ranges && list_all (λ range. is_range range.0 range.1) ranges

-- the most inputs of a merge or a report
abbrev pub most_inputs : ℕ
most_inputs = 256

-- whether a merge or a report may have this number of inputs
abbrev pub is_input_count : ℕ → Bool
is_input_count inputs = nat_le 1 inputs && nat_le inputs most_inputs

-- whether this is a time since 1970-01-01 00:00:00 UTC, or a span: whole nanoseconds, below 2^63
abbrev pub is_time : ℕ → Bool
is_time nanos = nat_lt nanos TIME_END

-- if a shift has a span, it is in bounds
abbrev pub is_proper_shift : Shift → Bool
is_proper_shift Shift.None = true
is_proper_shift (Shift.Later span) = is_time span
is_proper_shift (Shift.Earlier span) = is_time span

-- 1 or more
abbrev pub is_at_least_one : ℕ → Bool
is_at_least_one n = nat_le 1 n

-- the least number of packets in a window for duplicates, with the one that is looked up
abbrev pub least_window : ℕ
least_window = 2

-- the most packets in a window for duplicates
abbrev pub most_window : ℕ
most_window = 1_000_000

-- a number of packets that a window for duplicates may have
abbrev pub is_window : ℕ → Bool
is_window n = nat_le least_window n && nat_le n most_window

-- the ranges, times, snap length, shift and window that an edit has are in bounds
abbrev pub is_proper_edit : {Z : Type 0} → Edit Z → Bool
is_proper_edit edit =
    has_proper_ranges edit.ranges.items
    && (option_map_or is_time edit.start true && (option_map_or is_time edit.stop true
    && (option_map_or is_at_least_one edit.snap true
    && (is_proper_shift edit.shift && option_map_or is_window edit.window true))))

-- the edits are equal, except for their ranges
pub record HasSameOptions {Y Z : Type 0} (one : Edit Y) (other : Edit Z) : Type 0 where
  pub keep : other.keep ≡ one.keep
  pub start : other.start ≡ one.start
  pub stop : other.stop ≡ one.stop
  pub chop_start : other.chop_start ≡ one.chop_start
  pub chop_end : other.chop_end ≡ one.chop_end
  pub snap : other.snap ≡ one.snap
  pub shift : other.shift ≡ one.shift
  pub window : other.window ≡ one.window
  pub format : other.format ≡ one.format

-- an expression and a listing aren't both given
abbrev pub has_at_most_one_filter : {X : Type 0} → List ℕ → Option X → Bool
has_at_most_one_filter words code = nat_eq (length words) 0 || is_none code

-- if packets are written as a capture there are no lines, so neither link headers nor bytes are
-- asked for
abbrev pub has_at_most_one_output : {X : Type 0} → (link bytes : Bool) → Option X → Bool
has_at_most_one_output link bytes write = is_none write || not (link || bytes)

-- the options of a print don't exclude each other, and a count is at least 1
abbrev pub is_proper_print : {Z : Type 0} → Print Z → Bool
is_proper_print print =
    has_at_most_one_filter (string_bytes print.expr) print.code
    && (has_at_most_one_output print.link print.bytes print.write
    && option_map_or is_at_least_one print.count true)

-- the command may be run on this number of inputs
abbrev pub is_proper : {Z : Type 0} → Command Z → ℕ → Bool
is_proper (Command.Edit edit) inputs = nat_eq inputs 1 && is_proper_edit edit
is_proper (Command.Merge merge) inputs = is_input_count inputs
is_proper Command.Infos inputs = is_input_count inputs
is_proper (Command.Print print) inputs = nat_eq inputs 1 && is_proper_print print
is_proper (Command.Compile compile) inputs = nat_eq inputs 0

-- the bytes of a listing, if there is one
abbrev pub listing_of : {Z : Type 0} → Print Z → Option (List ℕ)
listing_of print = option_map (λ text. text.items) print.code

-- ---- which packets an edit keeps

-- some range has the number
abbrev pub is_in_some_range : List (ℕ × ℕ) → ℕ → Bool
is_in_some_range ranges number = list_any (λ range. nat_le range.0 number && nat_le number range.1) ranges

-- whether the packet with this number is kept: either the ranges name the packets to delete, or the
-- only ones to keep
abbrev pub is_kept : List (ℕ × ℕ) → Bool → ℕ → Bool
is_kept ranges keep number = if keep then is_in_some_range ranges number else not (is_in_some_range ranges number)

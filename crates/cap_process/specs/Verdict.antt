-- The verdict on each packet of a job, from the job's policy, the state after earlier packets, the
-- packet and its number.
use Rattle.std.specs.Prelude.{◌≡◌, ℕ, ◌+◌, ◌-◌, ◌==◌, ◌&&◌, Bool, true, false, if◌then◌else◌, nat_lt, nat_le, List, [], ◌∷◌, ◌++◌, length, take, drop, Option, None, Some}
use Rattle.cap_octet.specs.{Date.TIME_END, Packet.Captured}
use Rattle.cap_octet.specs.declared.fault.Fault.{Fault, TheVariants.TimeOutOfRange, TheVariants.TooManyPackets}
use Rattle.cap_command.specs.{Command.PACKET_NUMBER_END, Command.is_kept, declared.command.Shift.Shift}
use Rattle.cap_command.specs.declared.command.Edit as command_edit
use Rattle.cap_filter.specs.FilterRules as chosen
use Rattle.cap_filter.specs.FilterRules.{Decision, Rule, rule_decides}
use Rattle.cap_process.specs.Reports.{Tally, nothing_counted, tally_with}
use Rattle.cap_process.specs.{Marks.mark_of, Marks.has_same, Marks.last, declared.mark.Mark.Mark}

-- ---- policies

-- An edit, in the order of its steps: which packets it keeps, by number and by time as read; how
-- many bytes it removes at the start and at the end, and how many it then keeps at most; the shift
-- of times; and among how many packets in a row it searches for duplicates.
pub record EditRule : Type 0 where
  pub ranges : List (ℕ × ℕ)
  pub keep : Bool
  pub start : Option ℕ
  pub stop : Option ℕ
  pub chop_start : ℕ
  pub chop_end : ℕ
  pub snap : Option ℕ
  pub shift : Shift
  pub window : Option ℕ

-- the rule of an edit command
abbrev pub edit_rule_of : {Z : Type 0} → command_edit.Edit Z → EditRule
edit_rule_of edit = record {
  ranges = edit.ranges.items;
  keep = edit.keep;
  start = edit.start;
  stop = edit.stop;
  chop_start = edit.chop_start;
  chop_end = edit.chop_end;
  snap = edit.snap;
  shift = edit.shift;
  window = edit.window;
}

-- an edit without options: all packets, as they are
abbrev pub no_options : EditRule
no_options = record {
  ranges = [];
  keep = false;
  start = None;
  stop = None;
  chop_start = 0;
  chop_end = 0;
  snap = None;
  shift = Shift.None;
  window = None;
}

-- the policy that judges a job's packets
pub data Policy : Type 0 where
  Edit : (s : EditRule) → Policy
  Filter : (rule : Rule) → (count : Option ℕ) → Policy
  KeepAll : Policy
  -- a report of each input
  Count : Policy

-- ---- the state

-- the state of a selector: the number of kept packets; the marks of the latest selected packets,
-- the oldest first; and the tally of the current input
pub record SelectorState : Type 0 where
  pub passed : ℕ
  pub window : List Mark
  pub tally : Tally

-- the state before the first packet
abbrev pub initial_state : SelectorState
initial_state = record { passed = 0; window = []; tally = nothing_counted }

-- ---- verdicts

-- the verdict on a packet; a kept packet is given as it must be written
pub data Verdict : Type 0 where
  Pass : (p : Captured) → Verdict
  -- it is kept, and the job ends
  PassLast : (p : Captured) → Verdict
  Skip : Verdict
  Refuse : (fault : Fault) → Verdict

-- the verdict on a packet, and the state of the selector after it
pub record Judgement : Type 0 where
  pub verdict : Verdict
  pub state : SelectorState

-- the packet is kept, and counted
abbrev pub passes : SelectorState → Captured → Judgement
passes s p = record { verdict = Pass p; state = record s { passed = s.passed + 1 } }

-- the packet is skipped, with this state after it
abbrev pub skip_judgement : SelectorState → Judgement
skip_judgement s = record { verdict = Skip; state = s }

-- the packet is refused with this fault, which ends the job
abbrev pub refuses : SelectorState → Fault → Judgement
refuses s fault = record { verdict = Refuse fault; state = s }

-- ---- edits

-- whether a time is `start` or later, if there is a start
abbrev pub is_from_start : Option ℕ → ℕ → Bool
is_from_start None time = true
is_from_start (Some start) time = nat_le start time

-- whether a time is earlier than `stop`, if there is a stop
abbrev pub is_before_stop : Option ℕ → ℕ → Bool
is_before_stop None time = true
is_before_stop (Some stop) time = nat_lt time stop

-- whether an edit keeps a packet by its number (its ranges) and by its time as it was read
abbrev pub is_selected : EditRule → ℕ → Captured → Bool
is_selected s number p =
    is_kept s.ranges s.keep number && (is_from_start s.start p.time && is_before_stop s.stop p.time)

-- the bytes without the last n; empty if there are at most n
abbrev pub without_last : ℕ → List ℕ → List ℕ
without_last n bytes = take (length bytes - n) bytes

-- the bytes after some are removed at the start and then at the end; empty if there are too few
abbrev pub bytes_after_chop : EditRule → List ℕ → List ℕ
bytes_after_chop s bytes = without_last s.chop_end (drop s.chop_start bytes)

-- the first bytes, up to a snap length; all without one
abbrev pub bytes_within_snap : Option ℕ → List ℕ → List ℕ
bytes_within_snap None bytes = bytes
bytes_within_snap (Some snap) bytes = take snap bytes

-- the packet as an edit writes it with this time; its original length and its comment are kept
abbrev pub edited_packet_with : EditRule → Captured → ℕ → Captured
edited_packet_with s p time =
    record p { time = time; bytes = bytes_within_snap s.snap (bytes_after_chop s p.bytes) }

-- a time after a shift; None if it would be 2^63 nanoseconds or more, or below 0
abbrev pub shifted_time : Shift → ℕ → Option ℕ
shifted_time Shift.None time = Some time
shifted_time (Shift.Later by) time = if nat_lt (time + by) TIME_END then Some (time + by) else None
shifted_time (Shift.Earlier by) time = if nat_le by time then Some (time - by) else None

-- the state with one more mark in its window, which keeps the last `most`
abbrev pub with_mark : ℕ → Mark → SelectorState → SelectorState
with_mark most mark s = record s { window = last most (s.window ++ mark ∷ []) }

-- A packet is skipped if its mark (the length and digest of its bytes as they are cut) equals that
-- of one of the last n - 1 selected packets, including those skipped as duplicates. Times, original
-- lengths, link types and interfaces aren't compared. The mark enters the window in both cases.
-- Without an n every packet is kept.
abbrev pub unique : Option ℕ → SelectorState → Captured → Judgement
unique None s p = passes s p
unique (Some n) s p =
    if has_same s.window (mark_of p.bytes) then skip_judgement
    (with_mark (n - 1) (mark_of p.bytes) s) else passes (with_mark (n - 1) (mark_of p.bytes) s) p

-- the judgement of a selected packet by its shifted time; it is refused if it has none
abbrev pub judgement_by_time : EditRule → SelectorState → Captured → Option ℕ → Judgement
judgement_by_time s state p None = refuses state TimeOutOfRange
judgement_by_time s state p (Some time) = unique s.window state (edited_packet_with s p time)

-- the judgement of an edit on the packet with this number: skipped if it isn't selected or is a
-- duplicate, refused if its shifted time is out of range
abbrev pub selects : EditRule → SelectorState → ℕ → Captured → Judgement
selects s state number p =
    if is_selected s number p then judgement_by_time s state p (shifted_time s.shift p.time)
    else skip_judgement state

-- ---- filters

-- whether the packet that is kept as number `passed` is the last that may be; false without a count
abbrev pub is_last : Option ℕ → ℕ → Bool
is_last None passed = false
is_last (Some count) passed = passed == count

-- the packet is kept; it is the last if `count` packets are kept with it
abbrev pub counts : Option ℕ → SelectorState → Captured → Judgement
counts count s p = record {
  verdict = if is_last count (s.passed + 1) then PassLast p else Pass p;
  state = record s { passed = s.passed + 1 };
}

-- the judgement of a packet by the decision of a filter
abbrev pub filters : Decision → Option ℕ → SelectorState → Captured → Judgement
filters chosen.Keep count s p = counts count s p
filters chosen.Skip count s p = skip_judgement s
filters (chosen.Refuse fault) count s p = refuses s fault

-- ---- all policies

-- the judgement of the packet with this number by a policy
abbrev pub judge_by : Policy → SelectorState → ℕ → Captured → Judgement
judge_by (Edit s) state number p = selects s state number p
judge_by (Filter rule count) state number p = filters (rule_decides rule p) count state p
judge_by KeepAll state number p = passes state p
judge_by Count state number p =
    skip_judgement (record state { tally = tally_with state.tally p })

-- whether a packet's number is too great; false if packets are only counted
abbrev pub is_too_many : Policy → ℕ → Bool
is_too_many Count number = false
is_too_many policy number = nat_le PACKET_NUMBER_END number

-- the judgement of the packet with this number; one whose number is too great is refused
abbrev pub judge : Policy → SelectorState → ℕ → Captured → Judgement
judge policy state number p =
    if is_too_many policy number then refuses state TooManyPackets
    else judge_by policy state number p

-- by this verdict the packet is kept, as `q`
abbrev pub PassesAs : Verdict → Captured → Type 0
PassesAs (Pass p) q = p ≡ q
PassesAs (PassLast p) q = p ≡ q
PassesAs verdict q = ⊥

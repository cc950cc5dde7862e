-- Lists of packets: their counts, which of them are kept, and which equal an earlier one.
use Rattle.std.specs.{List.sum_by, Option.is_none, Option.option_map}
use Rattle.std.specs.Prelude.{◌≡◌, ℕ, ◌+◌, ◌-◌, ◌^◌, ◌<◌, ◌&&◌, Bool, true, false, if◌then◌else◌, nat_le, min, max, List, [], ◌∷◌, ◌++◌, length, map, take, Option, None, Some, IfSome}
use Rattle.cap_octet.specs.{Packet.Captured, declared.fault.Fault.TheVariants.TimeOutOfRange}
use Rattle.cap_io.specs.{Capture.Placed, Sequence.SequenceEnd, Sequence.FaultIn, Sequence.packet_events}
use Rattle.cap_filter.specs.FilterRules.{Decision, Keep, Skip, Refuse, Rule, rule_decides}
use Rattle.cap_process.specs.{Marks.mark_of, Marks.has_same, Marks.last, declared.mark.Mark.Mark}
use Rattle.cap_process.specs.{Outcome.AsReports, Outcome.no_progress, Outcome.apply_events, Reports.Tally}
use Rattle.cap_process.specs.Verdict.{Count, Filter, Edit, EditRule, edited_packet_with, is_selected, shifted_time}

-- packets without their offsets
abbrev pub packets_of : List Placed → List Captured
packets_of ps = map (λ (p : Placed). p.packet) ps

-- ---- what is counted

-- the times, in the order of the packets
abbrev pub times : List Captured → List ℕ
times ps = map (λ (p : Captured). p.time) ps

-- the least number; 0 if there is none
abbrev pub least : List ℕ → ℕ
least [] = 0
least (a ∷ []) = a
least (a ∷ b ∷ ns) = min a (least (b ∷ ns))

-- the greatest number; 0 if there is none
abbrev pub greatest : List ℕ → ℕ
greatest [] = 0
greatest (a ∷ ns) = max a (greatest ns)

-- the last number; 0 if there is none
abbrev pub final : List ℕ → ℕ
final [] = 0
final (a ∷ []) = a
final (a ∷ b ∷ ns) = final (b ∷ ns)

-- whether no number is less than the one before it
abbrev pub ascends : List ℕ → Bool
ascends [] = true
ascends (a ∷ []) = true
ascends (a ∷ b ∷ ns) = nat_le a b && ascends (b ∷ ns)

-- the number of packets; the sums of their original and of their captured lengths; the least, the
-- greatest and the last of their times, and whether these ascend
abbrev pub tally_of : List Captured → Tally
tally_of ps = record {
  count = length ps;
  data_size = sum_by (λ (p : Captured). p.orig) ps;
  captured_size = sum_by (λ (p : Captured). length p.bytes) ps;
  least = least (times ps);
  greatest = greatest (times ps);
  last = final (times ps);
  ascends = ascends (times ps);
}

-- the tally after any number of counted packets is `tally_of` them
abbrev pub CountsAll : Type 0
CountsAll =
    (names : List (List ℕ)) (ps : List Placed)
    → (apply_events Count (AsReports names) no_progress (packet_events 0 ps)).state.tally
    ≡ tally_of (packets_of ps)

-- ---- what a filter keeps

-- by the decision on a packet: it and the remaining ones if it is kept; the remaining ones if it is
-- skipped; none if it is refused
abbrev pub kept_by : Decision → Captured → List Captured → List Captured
kept_by Keep p rest = p ∷ rest
kept_by Skip p rest = rest
kept_by (Refuse fault) p rest = []

-- the packets that a rule keeps, up to the first that it refuses
abbrev pub packets_kept : Rule → List Captured → List Captured
packets_kept rule [] = []
packets_kept rule (p ∷ ps) = kept_by (rule_decides rule p) p (packets_kept rule ps)

-- the first n packets, or all if there are fewer; all without an n
abbrev pub at_most : Option ℕ → List Captured → List Captured
at_most None ps = ps
at_most (Some n) ps = take n ps

-- among fewer than 2^63 packets, those are kept that the rule keeps, up to the first that it
-- refuses; only the first of them if a count, which is at least 1, is given
abbrev pub PassesFiltered : Type 0
PassesFiltered =
    (rule : Rule) (count : Option ℕ) (ps : List Placed) → IfSome count (λ (n : ℕ). 0 < n)
    → length ps < 2 ^ 63
    → (apply_events (Filter rule count) (AsReports []) no_progress (packet_events 0 ps)).packets
    ≡ at_most count (packets_kept rule (packets_of ps))

-- ---- what an edit selects

-- a selected packet at its shifted time, before the remaining ones; if it has no such time, neither
-- it nor they
abbrev pub selected_at : EditRule → Captured → Option ℕ → List Captured → List Captured
selected_at s p None rest = []
selected_at s p (Some time) rest = edited_packet_with s p time ∷ rest

-- the selected ones of packets that are numbered from `number` on, as the edit changes them, up to
-- the first selected one whose shifted time is out of range
abbrev pub packets_selected : EditRule → ℕ → List Captured → List Captured
packets_selected s number [] = []
packets_selected s number (p ∷ ps) =
    if is_selected s number p then selected_at s p (shifted_time s.shift p.time)
    (packets_selected s (number + 1) ps) else packets_selected s (number + 1) ps

-- whether one of the n - 1 marks just before is equal; without an n none is compared
abbrev pub is_repeated : Option ℕ → List Mark → Mark → Bool
is_repeated None before m = false
is_repeated (Some n) before m = has_same (last (n - 1) before) m

-- the packets whose mark (length and digest) equals none of the n - 1 marks just before; `before`
-- are the marks before the first packet; all packets without an n
abbrev pub unique_after : Option ℕ → List Mark → List Captured → List Captured
unique_after n before [] = []
unique_after n before (p ∷ ps) =
    if is_repeated n before (mark_of p.bytes) then unique_after n
    (before ++ mark_of p.bytes ∷ []) ps else p
    ∷ unique_after n (before ++ mark_of p.bytes ∷ []) ps

-- the marks of packets
abbrev pub marks : List Captured → List Mark
marks ps = map (λ (p : Captured). mark_of p.bytes) ps

-- after fewer than 2^63 packets the window has the marks of the last n - 1 selected ones, from
-- their bytes as they were cut, up to the first whose shifted time is out of range
abbrev pub HasLastMarks : Type 0
HasLastMarks = (s : EditRule) (n : ℕ) (ps : List Placed) → s.window ≡ Some n → length ps < 2 ^ 63
    → (apply_events (Edit s) (AsReports []) no_progress (packet_events 0 ps)).state.window
    ≡ last (n - 1) (marks (packets_selected s 1 (packets_of ps)))

-- ---- how an edit ends

-- whether the packet with this number is selected, and the shift makes its time less than 0 or at
-- least 2^63 nanoseconds
abbrev pub has_no_time_after_shift : EditRule → ℕ → Captured → Bool
has_no_time_after_shift s number p = is_selected s number p && is_none (shifted_time s.shift p.time)

-- the offset of the first selected packet that has no time after the shift, or None; the packets
-- are numbered from `number` on
abbrev pub first_without_time : EditRule → ℕ → List Placed → Option ℕ
first_without_time s number [] = None
first_without_time s number (p ∷ ps) =
    if has_no_time_after_shift s number p.packet then Some p.offset else first_without_time s (number + 1) ps

-- the end of a job by the offset of such a packet: `TimeOutOfRange` there; None without one
abbrev pub end_at_time : Option ℕ → Option SequenceEnd
end_at_time place = option_map (FaultIn 0 TimeOutOfRange) place

-- An edit of fewer than 2^63 packets ends with a fault at the first selected packet whose shifted
-- time is below 0 or above 2^63 - 1 nanoseconds, and goes on if there is none; it keeps the unique
-- ones of those selected before it.
abbrev pub EndsWithoutTime : Type 0
EndsWithoutTime = (s : EditRule) (ps : List Placed) → length ps < 2 ^ 63
    → ((apply_events (Edit s) (AsReports []) no_progress (packet_events 0 ps)).end
    ≡ end_at_time (first_without_time s 1 ps))
    × ((apply_events (Edit s) (AsReports []) no_progress (packet_events 0 ps)).packets
    ≡ unique_after s.window [] (packets_selected s 1 (packets_of ps)))

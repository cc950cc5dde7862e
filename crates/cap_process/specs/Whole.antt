-- The laws of whole commands: the output as a list of the input packets that are kept, up to the
-- first that can't be written.
use Rattle.std.specs.{List.sum_by, Option.is_some, Option.option_or, Option.unwrap_or}
use Rattle.std.specs.Prelude.{◌≡◌, ℕ, zero, suc, ◌+◌, ◌^◌, ◌<◌, Bool, true, false, if◌then◌else◌, nat_le, List, [], ◌∷◌, ◌++◌, length, take, Option, None, Some, IfSome}
use Rattle.cap_octet.specs.{Link.link_of, Packet.Captured}
use Rattle.cap_octet.specs.declared.{fault.Fault.Fault, format.Format.Format, link.Link.Link}
use Rattle.cap_io.specs.Capture.{Ending, End, FaultAt, Items, Placed, items, kind_of}
use Rattle.cap_io.specs.RoundTrip.{Carries}
use Rattle.cap_io.specs.Sequence.{Event, Packet, InputEnd, SequenceEnd, Complete, FaultIn, PacketOrder, InTurn, InputItems, end_of, whole_input, sequence_of}
use Rattle.cap_print.specs.declared.print.Options.{Options}
use Rattle.flt_ast.specs.Tree.{TruthTree, denied, truth}
use Rattle.flt_gen.specs.{Elementary.MatchResult, Elementary.Rejected, Reading.holds}
use Rattle.cap_filter.specs.FilterRules.{Decision, Refuse, Rule, by_reading, rule_decides}
use Rattle.cap_process.specs.Lists.{at_most, end_at_time, first_without_time, packets_kept, packets_of, packets_selected, tally_of, unique_after}
use Rattle.cap_process.specs.Messages.{fault_message}
use Rattle.cap_process.specs.Outcome.{Form, AsCapture, AsReports, AsLines, Outcome, Work, form_refuses, output_text, closing_text, first_link, lines_text, outcome}
use Rattle.cap_process.specs.Reports.{Report, name_at, reports_text}
use Rattle.cap_process.specs.Verdict.{Edit, EditRule, Filter, KeepAll, Count, no_options}

-- ---- what is written of kept packets

-- a packet and those after it; none if it is refused
abbrev pub written_unless : Option Fault → Captured → List Captured → List Captured
written_unless None p rest = p ∷ rest
written_unless (Some fault) p rest = []

-- the packets that are written after those in `before`: all, up to the first that the form refuses
abbrev pub packets_written : Form → List Captured → List Captured → List Captured
packets_written form before [] = []
packets_written form before (p ∷ ps) =
    written_unless (form_refuses form before p) p (packets_written form (before ++ p ∷ []) ps)

-- the bytes that the end of a command with this status adds: those of a clean end if it is 0, else
-- none
abbrev pub closing_if : (status : ℕ) → Form → Option ℕ → List Captured → List ℕ
closing_if zero form link ps = closing_text form link ps
closing_if (suc n) form link ps = []

-- The bytes of packets that a command with this status writes. Without packets and with status 0
-- they are the start of a file with a link type.
abbrev pub written_text : Form → (status : ℕ) → Option ℕ → List Captured → List ℕ
written_text form status link ps = output_text form ps [] ++ closing_if status form link ps

-- the packets of events, in their order
abbrev pub event_packets : List Event → List Captured
event_packets [] = []
event_packets (Packet input p ∷ es) = p.packet ∷ event_packets es
event_packets (InputEnd input kind size ∷ es) = event_packets es

-- the packets of a file, in its order, up to the first fault
abbrev pub file_packets : List ℕ → List Captured
file_packets file = packets_of (items file).packets

-- ---- how a command ends

-- The command ends cleanly: it reports nothing, and its status is 0.
pub record EndsCleanly (o : Outcome) : Type 0 where
  pub messages : o.messages ≡ []
  pub status : o.status ≡ 0

-- The command ends with this fault of this input, at this offset: it reports that, and its status
-- is 1.
pub record EndsByFault (names : List (List ℕ)) (input : ℕ) (fault : Fault) (offset : ℕ)
    (o : Outcome) : Type 0 where
  pub messages : o.messages ≡ fault_message (name_at names input) offset fault
  pub status : o.status ≡ 1

-- the command ends like this
abbrev pub EndsAs : List (List ℕ) → SequenceEnd → Outcome → Type 0
EndsAs names Complete o = EndsCleanly o
EndsAs names (FaultIn input fault offset) o = EndsByFault names input fault offset o

-- why a form refuses the first packet that it refuses among these, after the others; None if it
-- refuses none
abbrev pub first_refusal : Form → List Captured → List Captured → Option Fault
first_refusal form before [] = None
first_refusal form before (p ∷ ps) =
    option_or (form_refuses form before p) (first_refusal form (before ++ p ∷ []) ps)

-- The first packet among these events that the form refuses, and why: no kept packet among the
-- events before it is refused, but one is if it comes with them. `passing` gives the packets that
-- are kept.
pub record IsFirstRefused (form : Form) (passing : List Captured → List Captured) (es : List Event)
    (fault : Fault) : Type 0 where
  pub before : List Event
  pub input : ℕ
  pub p : Placed
  pub later : List Event
  pub are : es ≡ before ++ Packet input p ∷ later
  pub taken : first_refusal form [] (passing (event_packets before)) ≡ None
  pub refused : first_refusal form [] (passing (event_packets (before ++ Packet input p ∷ [])))
      ≡ Some fault

-- the command ends with this fault, at the first packet that the form refuses
pub record EndsAtPacket (names : List (List ℕ)) (form : Form) (passing : List Captured → List Captured)
    (es : List Event) (fault : Fault) (o : Outcome) : Type 0 where
  pub first : IsFirstRefused form passing es fault
  pub by : EndsByFault names first.input fault first.p.offset o

-- if the form refuses a packet with this fault, the command ends at the first such packet; else
-- like this
abbrev pub EndsByRefusal : List (List ℕ) → Form → (List Captured → List Captured) → List Event → Option Fault
    → SequenceEnd → Outcome → Type 0
EndsByRefusal names form passing es None end o = EndsAs names end o
EndsByRefusal names form passing es (Some fault) end o = EndsAtPacket names form passing es fault o

-- The command ends at the first packet of these events that the form refuses; if it refuses none,
-- like this.
abbrev pub EndsUnlessRefused : List (List ℕ) → Form → (List Captured → List Captured) → List Event
    → SequenceEnd → Outcome → Type 0
EndsUnlessRefused names form passing es end o =
    EndsByRefusal names form passing es (first_refusal form [] (passing (event_packets es))) end o

-- the packets and the end of a file
abbrev pub file_events : List ℕ → List Event
file_events file = (sequence_of InTurn (whole_input file ∷ [])).events

-- ---- edit

-- the work of an edit that writes this format
abbrev pub edit_work : EditRule → Format → Work
edit_work s format = record { order = InTurn; policy = Edit s; form = AsCapture format }

-- the packets of a file that an edit writes: the unique ones among those that it selects
abbrev pub packets_edited : EditRule → List Captured → List Captured
packets_edited s ps = unique_after s.window [] (packets_selected s 1 ps)

-- An edit of a file with fewer than 2^63 packets writes the unique ones among the selected packets,
-- up to the first whose shifted time is out of range or that the format refuses. If there are none,
-- and it ends with status 0, it writes the start of a file.
abbrev pub EditWrites : Type 0
EditWrites =
    (s : EditRule) (format : Format) (names : List (List ℕ)) (file : List ℕ)
    → length (file_packets file) < 2 ^ 63
    → (outcome (edit_work s format) names (whole_input file ∷ [])).output
    ≡ written_text (AsCapture format)
    (outcome (edit_work s format) names (whole_input file ∷ [])).status
    (first_link (whole_input file ∷ []))
    (packets_written (AsCapture format) [] (packets_edited s (file_packets file)))

-- Such an edit ends at the first packet that the format refuses; if it refuses none, at the first
-- selected packet whose shifted time is out of range; if there is none, as the file does: cleanly,
-- with status 0, or with its fault.
abbrev pub EditEnds : Type 0
EditEnds =
    (s : EditRule) (format : Format) (names : List (List ℕ)) (file : List ℕ)
    → length (file_packets file) < 2 ^ 63
    → EndsUnlessRefused names (AsCapture format) (packets_edited s) (file_events file)
    (unwrap_or (end_at_time (first_without_time s 1 (items file).packets))
    (end_of 0 (items file).ending))
    (outcome (edit_work s format) names (whole_input file ∷ []))

-- ---- print

-- the work of a print with this filter, which ends after `count` packets, if there is a count
abbrev pub print_work : Rule → Option ℕ → Form → Work
print_work rule count form = record { order = InTurn; policy = Filter rule count; form = form }

-- the packets of a file that a print writes: those that the rule keeps, only the first ones if
-- there is a count
abbrev pub packets_printed : Rule → Option ℕ → List Captured → List Captured
packets_printed rule count ps = at_most count (packets_kept rule ps)

-- A print of a file with fewer than 2^63 packets as a capture writes those that the rule keeps,
-- only the first ones if a count, which is at least 1, is given, up to the first that the rule or
-- the format refuses. If there are none, and it ends with status 0, it writes the start of a file.
abbrev pub PrintWrites : Type 0
PrintWrites =
    (rule : Rule) (count : Option ℕ) (format : Format) (names : List (List ℕ)) (file : List ℕ)
    → IfSome count (λ (n : ℕ). 0 < n) → length (file_packets file) < 2 ^ 63
    → (outcome (print_work rule count (AsCapture format)) names (whole_input file ∷ [])).output
    ≡ written_text (AsCapture format)
    (outcome (print_work rule count (AsCapture format)) names (whole_input file ∷ [])).status
    (first_link (whole_input file ∷ []))
    (packets_written (AsCapture format) [] (packets_printed rule count (file_packets file)))

-- A print of such a file as lines writes the lines of the packets that the rule keeps, only of the
-- first ones if a count, which is at least 1, is given, up to the first that the rule refuses.
abbrev pub PrintLines : Type 0
PrintLines =
    (rule : Rule) (count : Option ℕ) (options : Options) (names : List (List ℕ)) (file : List ℕ)
    → IfSome count (λ (n : ℕ). 0 < n) → length (file_packets file) < 2 ^ 63
    → (outcome (print_work rule count (AsLines options)) names (whole_input file ∷ [])).output
    ≡ lines_text options (packets_printed rule count (file_packets file))

-- the end at a packet that a rule refuses; else the end that comes later
abbrev pub end_by_decision : Decision → Placed → (later : SequenceEnd) → SequenceEnd
end_by_decision (Refuse fault) p later = FaultIn 0 fault p.offset
end_by_decision decision p later = later

-- the end at the first packet of a file that a rule refuses, or the file's own end
abbrev pub rule_end : Rule → Ending → List Placed → SequenceEnd
rule_end rule ending [] = end_of 0 ending
rule_end rule ending (p ∷ ps) =
    end_by_decision (rule_decides rule p.packet) p (rule_end rule ending ps)

-- whether at least `count` packets are kept; false without a count
abbrev pub is_reached : (count : Option ℕ) → (kept : ℕ) → Bool
is_reached None kept = false
is_reached (Some count) kept = nat_le count kept

-- the end of a print all of whose packets are written
abbrev pub print_end : Rule → Option ℕ → Items → SequenceEnd
print_end rule count file =
    if is_reached count (length (packets_kept rule (packets_of file.packets))) then Complete
    else rule_end rule file.ending file.packets

-- Such a print ends at the first packet that the form refuses; if it refuses none, cleanly, with
-- status 0, once it has kept `count` packets; else at the first packet that the rule refuses; else
-- as the file does: cleanly, with status 0, or with its fault. Lines refuse no packet.
abbrev pub PrintEnds : Type 0
PrintEnds =
    (rule : Rule) (count : Option ℕ) (form : Form) (names : List (List ℕ)) (file : List ℕ)
    → IfSome count (λ (n : ℕ). 0 < n) → length (file_packets file) < 2 ^ 63
    → EndsUnlessRefused names form (packets_printed rule count) (file_events file)
    (print_end rule count (items file))
    (outcome (print_work rule count form) names (whole_input file ∷ []))

-- ---- merge

-- the work of a merge in this order that writes this format
abbrev pub merge_work : PacketOrder → Format → Work
merge_work order format = record { order = order; policy = KeepAll; form = AsCapture format }

-- the packets that a merge keeps: all
abbrev pub packets_merged : List Captured → List Captured
packets_merged ps = ps

-- the packets of inputs in an order, up to the first fault
abbrev pub packets_in_order : PacketOrder → List InputItems → List Captured
packets_in_order order rs = event_packets (sequence_of order rs).events

-- A merge of inputs with fewer than 2^63 packets before the first fault writes these in its order,
-- up to the first that its format refuses. If there are none, and it ends with status 0, it writes
-- the start of a file.
abbrev pub MergeWrites : Type 0
MergeWrites =
    (order : PacketOrder) (format : Format) (names : List (List ℕ)) (rs : List InputItems)
    → length (packets_in_order order rs) < 2 ^ 63
    → (outcome (merge_work order format) names rs).output
    ≡ written_text (AsCapture format) (outcome (merge_work order format) names rs).status
    (first_link rs) (packets_written (AsCapture format) [] (packets_in_order order rs))

-- Such a merge ends at the first packet that its format refuses; if it refuses none, as the order
-- of its inputs does: cleanly, with status 0, or with the fault of one.
abbrev pub MergeEnds : Type 0
MergeEnds =
    (order : PacketOrder) (format : Format) (names : List (List ℕ)) (rs : List InputItems)
    → length (packets_in_order order rs) < 2 ^ 63
    → EndsUnlessRefused names (AsCapture format) packets_merged (sequence_of order rs).events
    (sequence_of order rs).end (outcome (merge_work order format) names rs)

-- ---- infos

-- the work of a report on the inputs of these names
abbrev pub infos_work : List (List ℕ) → Work
infos_work names = record { order = InTurn; policy = Count; form = AsReports names }

-- the report of an input, and those of the inputs after it; none if it ends with a fault
abbrev pub reports_by : Ending → Report → List Report → List Report
reports_by End r rest = r ∷ rest
reports_by (FaultAt fault offset) r rest = []

-- the reports of inputs, up to the first that ends with a fault; the first input has number `input`
abbrev pub reports_of : (input : ℕ) → List InputItems → List Report
reports_of input [] = []
reports_of input (r ∷ rs) =
    reports_by r.items.ending
    (record {
      input = input;
      kind = kind_of r.items.declared;
      size = r.size;
      tally = tally_of (packets_of r.items.packets);
    })
    (reports_of (input + 1) rs)

-- `infos` writes the report of each input in turn, up to the first that ends with a fault.
abbrev pub InfosReports : Type 0
InfosReports =
    (names : List (List ℕ)) (rs : List InputItems)
    → (outcome (infos_work names) names rs).output ≡ reports_text names (reports_of 0 rs)

-- `infos` ends cleanly, with status 0, if all inputs do, else with the fault of the first that
-- doesn't.
abbrev pub InfosEnds : Type 0
InfosEnds =
    (names : List (List ℕ)) (rs : List InputItems)
    → EndsAs names (sequence_of InTurn rs).end (outcome (infos_work names) names rs)

-- ---- edits without options

-- A merge of one file has the same outcome as its edit without options.
abbrev pub MergesOne : Type 0
MergesOne =
    (order : PacketOrder) (format : Format) (names : List (List ℕ)) (file : List ℕ)
    → outcome (merge_work order format) names (whole_input file ∷ [])
    ≡ outcome (edit_work no_options format) names (whole_input file ∷ [])

-- A file has these packets, one or more and fewer than 2^63, and the format carries them.
pub record HasCarried (format : Format) (file : List ℕ) (p : Captured) (ps : List Captured) : Type 0 where
  pub packets : file_packets file ≡ p ∷ ps
  pub few : length (p ∷ ps) < 2 ^ 63
  pub carried : Carries format (p ∷ ps)

-- the bytes that an edit without options writes for a file
abbrev pub copy_of : Format → List (List ℕ) → List ℕ → List ℕ
copy_of format names file = (outcome (edit_work no_options format) names (whole_input file ∷ [])).output

-- If the format carries all packets of a file, one or more and fewer than 2^63, an edit without
-- options writes a file with the same packets.
abbrev pub EditKeeps : Type 0
EditKeeps =
    (format : Format) (names : List (List ℕ)) (file : List ℕ) (p : Captured) (ps : List Captured)
    → HasCarried format file p ps → file_packets (copy_of format names file) ≡ file_packets file

-- Such an edit ends as the file does: cleanly, with status 0, or with its fault.
abbrev pub CopyEnds : Type 0
CopyEnds =
    (format : Format) (names : List (List ℕ)) (file : List ℕ) (p : Captured) (ps : List Captured)
    → HasCarried format file p ps
    → EndsAs names (end_of 0 (items file).ending)
    (outcome (edit_work no_options format) names (whole_input file ∷ []))

-- Another edit without options of what such an edit wrote writes the same bytes again.
abbrev pub EditsAlike : Type 0
EditsAlike =
    (format : Format) (names : List (List ℕ)) (file : List ℕ) (p : Captured) (ps : List Captured)
    → HasCarried format file p ps
    → copy_of format names (copy_of format names file) ≡ copy_of format names file

-- ---- an expression and its negation

-- whether an expression rejects a packet
abbrev pub is_rejection : MatchResult → Bool
is_rejection Rejected = true
is_rejection r = false

-- whether an expression rejects a packet on a link: it needs a byte that isn't captured, or divides
-- by 0; false without a link
abbrev pub is_rejected_on : TruthTree → Option Link → Captured → Bool
is_rejected_on a None p = false
is_rejected_on a (Some link) p = is_rejection (holds (truth a) link p.bytes p.orig)

-- the packets that an expression rejects, in their order
abbrev pub packets_rejected : TruthTree → List Captured → List Captured
packets_rejected a [] = []
packets_rejected a (p ∷ ps) =
    if is_rejected_on a (link_of p.link) p then p ∷ packets_rejected a ps
    else packets_rejected a ps

-- expressions support the link type of each packet
abbrev pub AreRead : List Captured → Type 0
AreRead [] = Unit {0}
AreRead (p ∷ ps) = (is_some (link_of p.link) ≡ true) × AreRead ps

-- Packets whose link types expressions support are divided into three lists: those that an
-- expression keeps, those that its negation keeps, and those that it rejects. For any sum over
-- packets, the sums over the three lists add up to that over all packets: each packet is in exactly
-- one list.
abbrev pub NegationParts : Type 0
NegationParts =
    (a : TruthTree) (ps : List Captured) (f : Captured → ℕ) → AreRead ps
    → sum_by f (packets_kept (by_reading (truth a)) ps)
    + (sum_by f (packets_kept (by_reading (truth (denied a))) ps)
    + sum_by f (packets_rejected a ps)) ≡ sum_by f ps

-- ---- a capture that is cut

-- The packets of a file that is cut anywhere are a prefix of those of the whole file.
abbrev pub CutsGivePrefixes : Type 0
CutsGivePrefixes =
    (file : List ℕ) (n : ℕ)
    → (later : List Captured) × (file_packets file ≡ file_packets (take n file) ++ later)

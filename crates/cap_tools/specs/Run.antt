-- The result of a run of a command: its outcome on the complete inputs; or the result if a device
-- fails or memory runs out. It is stated in terms of the call and of what the run returns.
use Rattle.std.specs.List.{slice_get}
use Rattle.std.specs.Prelude.{◌≡◌, ◌⊎◌, ℕ, ◌+◌, ◌-◌, ◌≤◌, List, [], ◌++◌, length, map, Option, None, Some}
use Rattle.cap_octet.specs.{Device.HasGiven, Device.Stops, Views.FreshInput}
use Rattle.cap_octet.specs.declared.fault.Fault.{Fault, TheVariants.ReadFailed, TheVariants.NoMemory}
use Rattle.cap_octet.specs.declared.link.Link.{Link}
use Rattle.cap_io.specs.{Capture.Declared, Capture.Placed, Capture.Items, Position.IsCutShort, Position.MemoryEndsAt}
use Rattle.cap_io.specs.{Reading.decisive_length, Sequence.Event, Sequence.InputItems, Sequence.whole_input}
use Rattle.flt_bpf.specs.{Listing.listing, declared.insn.Insn.Insn}
use Rattle.cap_filter.specs.Expressions.{IsCompiled, IsTextFault}
use Rattle.cap_filter.specs.FilterRules.{Rule, IsRule, IsWhy, refusal_status}
use Rattle.cap_filter.specs.declared.filter.Refusal.{Refusal}
use Rattle.cap_process.specs.Messages.{fault_message, no_memory_message, refusal_message, write_failed_message, IsTold}
use Rattle.cap_process.specs.Outcome.{Form, AsCapture, AsReports, AsLines, Outcome, Work, IsNextAnswer, NeedsMemory, cut_at, outcome, text_after}
use Rattle.cap_process.specs.{Reports.name_at, Verdict.Policy, Verdict.Filter, declared.output.Writing.Writing}
use Rattle.cap_command.specs.Call.{Call, RunResult}
use Rattle.cap_tools.specs.Start.{Assignment, Preparing, ReadsFilter, Compiles}

-- ---- the work that a command asks for

-- the form in which packets or reports are written
abbrev pub form_asked : (names : List (List ℕ)) → Writing → Form
form_asked names (Writing.Capture format) = AsCapture format
form_asked names Writing.Text = AsReports names
form_asked names (Writing.Lines options) = AsLines options

-- The policy that judges the packets: the one that the command asks for; for a print its filter,
-- which is an expression or a listing. A compilation has no packets.
abbrev pub IsPolicy : Option Preparing → (asked policy : Policy) → Type 0
IsPolicy None asked policy = policy ≡ asked
IsPolicy (Some (ReadsFilter filter)) asked policy =
    (rule : Rule) × IsRule filter.words filter.code rule × (policy ≡ Filter rule filter.count)
IsPolicy (Some (Compiles words link)) asked policy = ⊥

-- the work that a command asks of this call: its order, its policy and its form
pub record IsWork (asked : Assignment) (call : Call) (work : Work) : Type 0 where
  pub order : work.order ≡ asked.order
  pub policy : IsPolicy asked.preparing asked.policy work.policy
  pub form : work.form ≡ form_asked call.names asked.writing

-- the complete inputs of a call, with their packets
abbrev pub whole_inputs : Call → List InputItems
whole_inputs call = map (λ (input : FreshInput). whole_input input.text) call.inputs

-- ---- the outcome of a command

-- why the filter of a print, or the expression of a compilation, is refused; that memory for it ran
-- out is always possible
abbrev pub IsWhyRefused : Option Preparing → Refusal → Type 0
IsWhyRefused None why = ⊥
IsWhyRefused (Some (ReadsFilter filter)) why = IsWhy filter.words filter.code why
IsWhyRefused (Some (Compiles words link)) (Refusal.Expression fault) = IsTextFault words fault
IsWhyRefused (Some (Compiles words link)) why = ⊥

-- the outcome after a refusal: it is reported, and nothing is written
abbrev pub refusal_outcome : Refusal → Outcome
refusal_outcome why =
    record { output = []; messages = refusal_message why; status = refusal_status why }

-- the outcome if a listing is written
abbrev pub listing_outcome : List Insn → Outcome
listing_outcome prog = record { output = listing prog; messages = []; status = 0 }

-- the outcome after a fault: what was written before, the fault's message, and status 1
abbrev pub fault_outcome : (output messages : List ℕ) → Outcome
fault_outcome output messages = record { output = output; messages = messages; status = 1 }

-- ---- the result of a run

-- Why an input is cut short after these complete units: `read failed`, if the device wasn't sure to
-- give all bytes that decide what comes next (that it did fail isn't stated); or memory ran out for
-- its next unit, whose header states more bytes than each that the buffer held, or which describes
-- an interface.
abbrev pub IsWhyCut : Fault → FreshInput → (done rest : List ℕ) → Declared → Type 0
IsWhyCut fault input done rest declared =
    ((fault ≡ ReadFailed)
    × HasGiven input.sure (input.given + length done + (decisive_length declared rest - 1)))
    ⊎ ((fault ≡ NoMemory) × MemoryEndsAt done rest declared)

-- an input ends with a fault at the offset of one of its units, and has these items before it
pub record IsCutInput (call : Call) (place : ℕ) (held : Items) : Type 0 where
  pub input : FreshInput
  pub among : slice_get call.inputs place ≡ Some input
  pub fault : Fault
  pub cut : IsCutShort input.text fault held
  pub why : IsWhyCut fault input cut.done cut.rest held.declared

-- The possible results of a run if its output doesn't fail:
-- - the outcome that the command has on its inputs;
-- - the message that a filter or an expression is refused, or that memory for it ran out;
-- - a listing;
-- - the outcome if an input is cut short;
-- - what is written for some events, if memory to write the next packet ran out;
-- - only a message, if memory ran out at the start.
-- No clause can state that an allocation failed. So each case of no memory is possible whenever its
-- conditions hold: always for the last one, and for a filter or an expression. But then the result
-- is exactly this.
pub data IsOutcome (asked : Assignment) (call : Call) : Outcome → Type 0 where
  of_packets : (work : Work) → IsWork asked call work
      → IsOutcome asked call (outcome work call.names (whole_inputs call))
  of_refusal : (why : Refusal) → IsWhyRefused asked.preparing why
      → IsOutcome asked call (refusal_outcome why)
  of_listing : (words : List ℕ) (link : Link) (prog : List Insn)
      → asked.preparing ≡ Some (Compiles words link) → IsCompiled words link prog
      → IsOutcome asked call (listing_outcome prog)
  of_cut_input : (work : Work) → IsWork asked call work → (place : ℕ) (held : Items)
      → IsCutInput call place held
      → IsOutcome asked call (outcome work call.names (cut_at (whole_inputs call) place held))
  of_events : (work : Work) → IsWork asked call work
      → (events : List Event) (input : ℕ) (packet : Placed)
      → NeedsMemory work (whole_inputs call) events input packet
      → IsOutcome asked call (fault_outcome (text_after work events)
      (fault_message (name_at call.names input) packet.offset NoMemory))
  of_nothing : IsOutcome asked call (fault_outcome [] no_memory_message)

-- The outcome is written after what was written to the output's device before the call, and
-- reported. The output's device didn't fail.
pub record HasLeft (call : Call) (o : Outcome) (r : RunResult) : Type 0 where
  pub output : r.output.written ≡ call.output.written ++ o.output
  pub failures : r.output.failures ≡ call.output.failures
  pub message : IsTold call.tells call.messages o.messages r.messages
  -- if the status is 0 the messages' device has the bytes and the failures that it had
  pub quiet : r.status ≡ 0 → r.messages ≡ call.messages
  pub status : r.status ≡ o.status

-- ---- the output fails

-- The bytes that come next: those that one event of the command's work adds, or its clean end; for
-- a compilation its listing.
pub data IsAnswer (asked : Assignment) (call : Call) (written bytes : List ℕ) : Type 0 where
  packets_answer : (work : Work) → IsWork asked call work → (es : List Event) → (e : Option Event)
      → written ≡ text_after work es → IsNextAnswer work (whole_inputs call) es e bytes
      → IsAnswer asked call written bytes
  listing_answer : (words : List ℕ) (link : Link) (prog : List Insn)
      → asked.preparing ≡ Some (Compiles words link) → IsCompiled words link prog
      → written ≡ [] → bytes ≡ listing prog → IsAnswer asked call written bytes

-- the output's device failed once, after a prefix but not all of these bytes
pub record HasLostOutput (asked : Assignment) (call : Call) (r : RunResult) : Type 0 where
  pub written : List ℕ
  pub bytes : List ℕ
  pub answer : IsAnswer asked call written bytes
  pub stops : Stops (call.output.written ++ written) bytes r.output.written
  pub failures : r.output.failures ≡ call.output.failures + 1
  -- it failed only after it had taken at least as many bytes as it was sure to, including those
  -- before the call
  pub filled : call.room ≤ length r.output.written
  pub message : IsTold call.tells call.messages
      (write_failed_message (name_at call.names (length call.inputs))) r.messages
  pub status : r.status ≡ 1

-- ---- all results

-- A run ends with one of its outcomes; or the output failed.
pub data CommandRuns (asked : Assignment) (call : Call) (r : RunResult) : Type 0 where
  ends : (o : Outcome) → IsOutcome asked call o → HasLeft call o r → CommandRuns asked call r
  output_failed : HasLostOutput asked call r → CommandRuns asked call r

-- Helpers next to specs/Packets, for the crate's own functions and proofs.
use Rattle.std.specs.List.{slice_get}
use Rattle.std.specs.Prelude.{◌≡◌, ◌⊎◌, ℕ, ◌+◌, ◌≤◌, Bool, true, false, List, map, Option, None, Some, Result, Ok, Err}
use Rattle.cap_octet.specs.{Packet.Captured, declared.device.DeviceFault.DeviceFault}
use Rattle.cap_octet.specs.declared.fault.Fault.{Fault, TheVariants.WriteFailed}
use Rattle.cap_filter.specs.Programs.{spent_in}
use Rattle.cap_process.specs.declared.selector.Verdict as code
use Rattle.cap_process.specs.{Output.Target, Reports.Report, Reports.Tally, Reports.report_text}
use Rattle.cap_process.specs.{Selector.SelectorView, Selector.most_spent, Selector.spent_by_verdict, Verdict.judge}
use Rattle.cap_process.specs.{declared.selector.Verdict.Verdict, inside.Output.PutsIntoOutput, inside.Output.Reports}
use Rattle.cap_process.specs.inside.Selector.{PolicyState, with_empty_tally}
use Rattle.cap_tools.specs.{Packets.asks_report, declared.step.JobEnd.JobEnd}
use Rattle.cap_process.specs.inside.Selector as selecting_inside
use Rattle.cap_io.specs.Capture.{kind_of}
use Rattle.cap_inputs.specs.Inputs.{InputPast, InputsView, InputView}

-- the report of an input at its end
abbrev pub report_at : ℕ → InputView → Tally → Report
report_at input h tally =
    record {
      input = input;
      kind = kind_of h.source.declared;
      size = h.source.offset;
      tally = tally;
    }

-- a packet is written into the output, or skipped if that is the verdict
abbrev pub Offers : code.Verdict → Captured → Target → Result (Unit {0}) Fault → Target → Type 0
Offers Verdict.Skip p old r new = (r ≡ Ok tt) × (new ≡ old)
Offers verdict p old r new = PutsIntoOutput p old r new

-- a selector, and the output that kept packets are written into
pub record Sieve : Type 0 where
  pub selector : PolicyState
  pub output : Target

-- a selector and an output as one
abbrev pub sieve : PolicyState → Target → Sieve
sieve selector output = record { selector = selector; output = output }

-- the verdict on a packet, and the result of writing it if it is kept
pub record Judges (p : Captured) (number : ℕ) (old : Sieve) (verdict : code.Verdict)
    (put : Result (Unit {0}) Fault) (new : Sieve) : Type 0 where
  -- the packet as it is kept
  pub packet : Captured
  pub exact : selecting_inside.IsVerdict (judge old.selector.policy old.selector.state number p)
      (Ok verdict) packet new.selector.state
  pub offers : Offers verdict packet old.output put new.output

-- the end of a job whose current packet is kept but wasn't written: the output failed, or the
-- packet has this fault (its format refuses it, or memory ran out)
abbrev pub end_of_failed_write : ℕ → Fault → JobEnd
end_of_failed_write input WriteFailed = JobEnd.OutputFailed
end_of_failed_write input fault = JobEnd.FaultIn input fault

-- a packet is kept, and writing it fails
pub record FailsToWrite (p : Captured) (input number : ℕ) (old : Sieve) (e : JobEnd)
    (new : Sieve) : Type 0 where
  pub verdict : code.Verdict
  pub fault : Fault
  pub judges : Judges p number old verdict (Err fault) new
  pub is : e ≡ end_of_failed_write input fault

-- a packet is refused, and nothing is written
pub record Rejects (p : Captured) (input number : ℕ) (old : Sieve) (e : JobEnd)
    (new : Sieve) : Type 0 where
  pub fault : Fault
  pub exact : selecting_inside.IsVerdict (judge old.selector.policy old.selector.state number p)
      (Err fault) p new.selector.state
  pub same : new.output ≡ old.output
  pub is : e ≡ JobEnd.FaultIn input fault

-- The current packet, which there is, is judged, and written if it is kept; or the write fails, or
-- the packet is refused.
abbrev pub DecidesPacket : Option Captured → (input number : ℕ) → Sieve
    → Result code.Verdict JobEnd → Sieve → Type 0
DecidesPacket None input number old r new = ⊥
DecidesPacket (Some p) input number old (Ok verdict) new = Judges p number old verdict (Ok tt) new
DecidesPacket (Some p) input number old (Err e) new =
    FailsToWrite p input number old e new ⊎ Rejects p input number old e new

-- how the job ends after a packet with this verdict: at the last one that may be kept
abbrev pub end_after : code.Verdict → Option JobEnd
end_after Verdict.PassLast = Some JobEnd.Complete
end_after verdict = None

-- the number of program runs to decide the current packet, and the bound of their instructions
abbrev pub Spends : Option Captured → SelectorView → ℕ → SelectorView → Type 0
Spends None old number new = ⊥
Spends (Some p) old number new =
    (new.programs ≡ spent_by_verdict old.policy number p old.programs)
    × (spent_in new.programs ≤ spent_in old.programs + most_spent old.policy)

-- the job ends if its output failed; otherwise it goes on
abbrev pub unless_failed : Result (Unit {0}) DeviceFault → Option JobEnd
unless_failed (Ok done) = None
unless_failed (Err fault) = Some JobEnd.OutputFailed

-- how a job ends with the last bytes of its output
abbrev pub end_of_write : Result (Unit {0}) DeviceFault → JobEnd
end_of_write (Ok done) = JobEnd.Complete
end_of_write (Err fault) = JobEnd.OutputFailed

-- an input is reported, and the tally starts again
pub record ReportsOn (names : List (List ℕ)) (input : ℕ) (cursor : InputView) (old : Sieve)
    (r : Option JobEnd) (new : Sieve) : Type 0 where
  pub answer : Result (Unit {0}) DeviceFault
  pub reports : Reports (report_text names (report_at input cursor old.selector.state.tally))
      old.output answer new.output
  pub is : r ≡ unless_failed answer
  pub selector_is : new.selector
      ≡ record { policy = old.selector.policy; state = with_empty_tally old.selector.state }

-- an input at its end is reported if reports are asked for; otherwise nothing changes
abbrev pub ClosesBy : Bool → List (List ℕ) → ℕ → InputView → Sieve → Option JobEnd → Sieve
    → Type 0
ClosesBy false names input cursor old r new =
    (r ≡ None) × (new.selector ≡ old.selector) × (new.output ≡ old.output)
ClosesBy true names input cursor old r new = ReportsOn names input cursor old r new

-- an input that was read to its end is reported, if reports are asked for
pub record Closes (names : List (List ℕ)) (inputs : InputsView) (input : ℕ) (old : Sieve)
    (r : Option JobEnd) (new : Sieve) : Type 0 where
  pub cursor : InputView
  pub among : slice_get inputs.cursors input ≡ Some cursor
  pub by : ClosesBy (asks_report inputs.order old.selector.policy) names input cursor old r new

-- the bytes of some inputs
abbrev pub texts : List InputPast → List (List ℕ)
texts ss = map (λ (s : InputPast). s.text) ss

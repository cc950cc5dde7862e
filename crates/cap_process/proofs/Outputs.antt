-- What a job's output holds after each packet, report and close.
use Rattle.std.proofs.Common.{arith, ◌≡◌, ℕ, ◌+◌, Bool, List, [], ◌∷◌, ◌++◌, length, Option, None, Some, Ok, Err, refl, add-zero, true}
use Rattle.cap_io.specs.Sink.{SinkView, HasPackets, IsPutAnswer, PutWrites}
use Rattle.cap_io.proofs.Texts.{put-next, put-answer, put-writes, put-taken, HasPackets-put, refused-write_failed, refused-no_memory}
use Rattle.cap_process.specs.Reports.{Report, report_text, reports_text}
use Rattle.cap_process.specs.Outcome.{Form, closing_text, lines_text, final_text, form_refuses, output_text}
use Rattle.cap_process.specs.Output.{Target, HasWrittenTo, form_to, written_to, failures_to}
use Rattle.cap_octet.specs.declared.fault.Fault.{TheVariants.NoMemory, TheVariants.WriteFailed, Fault}
use Rattle.cap_print.specs.{declared.print.Options.Options, Rendering.printed_text}
use Rattle.cap_octet.specs.{declared.format.Format.Format, Device.Stops, Packet.Captured}
use Rattle.std.proofs.lemmas.{List.append_assoc, List.append-nil, Grind.flat_map-append}
use Rattle.cap_process.specs.{Verdict.SelectorState, inside.Output.PutsIntoOutput, inside.Output.Reports}
use Rattle.cap_io.specs.{Text.takes_memory, Text.added_text, Text.refusal_of, Sequence.Complete}
use Rattle.cap_io.specs.Sink as sinks

-- what is written is the form's
pub drained-text : (before : List ℕ) (names : List (List ℕ)) (t : Target) (ps : List Captured) (rs : List Report) → HasWrittenTo before names t ps rs
    → written_to t ≡ before ++ output_text (form_to names t) ps rs
drained-text before names t ps rs has = grind arith

-- ---- lines

-- a packet adds its line after those before it
pub lines-more : (options : Options) (ps : List Captured) (q : Captured) (qs : List Captured)
    → lines_text options ((ps ++ q ∷ []) ++ qs) ≡ lines_text options ps ++ (printed_text options q ++ lines_text options qs)
lines-more options ps q qs = grind (arith, append_assoc, flat_map-append)

pub lines-one : (options : Options) (ps : List Captured) (q : Captured) → lines_text options (ps ++ q ∷ []) ≡ lines_text options ps ++ printed_text options q
lines-one options ps q = grind (arith, flat_map-append, append-nil)

-- ---- a packet is put

pub record PutOk (before : List ℕ) (ps : List Captured) (rs : List Report) (q : Captured) (names : List (List ℕ)) (old new : Target) : Type 0 where
  pub none : form_refuses (form_to names old) ps q ≡ None
  pub output : HasWrittenTo before names new (ps ++ q ∷ []) rs
  pub form : form_to names new ≡ form_to names old
  pub failures : failures_to new ≡ failures_to old

pub put-ok : (before : List ℕ) (ps : List Captured) (rs : List Report) (q : Captured) (names : List (List ℕ)) (old new : Target)
    → HasWrittenTo before names old ps rs
    → PutsIntoOutput q old (Ok tt) new → PutOk before ps rs q names old new
put-ok before ps rs q names old new has puts = grind (arith, put-next, put-taken, put-answer, HasPackets-put, add-zero, append_assoc, lines-one)

-- ---- it is not put

refusal-is : (refusal : Option Fault) (takes : Bool) (fault : Fault) → IsPutAnswer refusal takes (Err fault) → (fault ≡ WriteFailed → ⊥)
    → (fault ≡ NoMemory → ⊥) → refusal ≡ Some fault
refusal-is refusal takes fault answer h4 memory = grind arith

not-refused : (format : Format) (ps : List Captured) (p : Captured) (fault : Fault) → (refusal_of format ps p ≡ Some fault → ⊥)
    → IsPutAnswer (refusal_of format ps p) (takes_memory format ps p) (Err fault) → refusal_of format ps p ≡ None
not-refused format ps p fault none answer = grind arith

-- why a kept packet isn't put into a capture: the format refuses it, memory ran out, or the device
-- failed
abbrev pub WhyUnput : Fault → SinkView → List Captured → Captured → SinkView → Type 0
WhyUnput WriteFailed old ps q new = (refusal_of old.format ps q ≡ None) × (new.failures ≡ old.failures + 1)
    × Stops old.written (added_text old.format ps q) new.written
WhyUnput NoMemory old ps q new = (refusal_of old.format ps q ≡ None) × (takes_memory old.format ps q ≡ true) × (new.written ≡ old.written)
    × (new.failures ≡ old.failures)
WhyUnput fault old ps q new = (refusal_of old.format ps q ≡ Some fault) × (new.written ≡ old.written) × (new.failures ≡ old.failures)

pub unput : (before : List ℕ) (ps : List Captured) (q : Captured) (old new : SinkView) (fault : Fault) → HasPackets before old ps
    → sinks.PutsPacket old.state old q (Err fault) new → PutWrites old.state old q (Err fault) new → WhyUnput fault old ps q new
unput before ps q old new WriteFailed has puts writes =
    let next = put-next ps old q (Err WriteFailed) new has.put puts in
    let answer = put-answer ps old q (Err WriteFailed) new has.put next in
    let bytes = put-writes ps old q (Err WriteFailed) new has.put writes in
    let none = not-refused old.format ps q WriteFailed (refused-write_failed old.format ps q) answer in
    (none, next.adds.failures, rw none at bytes)
unput before ps q old new NoMemory has puts writes =
    let next = put-next ps old q (Err NoMemory) new has.put puts in
    let answer = put-answer ps old q (Err NoMemory) new has.put next in
    let bytes = put-writes ps old q (Err NoMemory) new has.put writes in
    let none = not-refused old.format ps q NoMemory (refused-no_memory old.format ps q) answer in grind (arith, add-zero)
unput before ps q old new fault has puts writes = grind (arith, put-next, put-answer, put-writes, refusal-is, add-zero)

-- ---- the clean end

-- if a packet was kept, a clean end adds nothing
pub closing-none : (form : Form) (link : Option ℕ) (ps : List Captured) → (0 ≡ length ps → ⊥) → closing_text form link ps ≡ []
closing-none form link ps some = grind arith

pub closing-some : (before : List ℕ) (names : List (List ℕ)) (form : Form) (t : Target) (link : Option ℕ) (ps : List Captured) (rs : List Report)
    (n : ℕ) (state : SelectorState) → HasWrittenTo before names t ps rs → form_to names t ≡ form → (0 ≡ length ps → ⊥)
    → written_to t ≡ before ++ final_text form link (record { decided = n; state = state; packets = ps; reports = rs; end = Some Complete })
closing-some before names form t link ps rs n state has same some = grind (arith, closing-none, append-nil, drained-text)

-- ---- a report

reports-append : (names : List (List ℕ)) (rs qs : List Report) → reports_text names (rs ++ qs) ≡ reports_text names rs ++ reports_text names qs
reports-append names [] qs = refl
reports-append names (r ∷ rs) qs = grind (arith, append_assoc, reports-append names rs qs)

-- a report adds its text after those before it
pub reports-more : (names : List (List ℕ)) (rs : List Report) (r : Report) (qs : List Report)
    → reports_text names ((rs ++ r ∷ []) ++ qs) ≡ reports_text names rs ++ (report_text names r ++ reports_text names qs)
reports-more names rs r qs = rw append_assoc (reports-append names rs (r ∷ qs))

pub record ReportOk (before : List ℕ) (ps : List Captured) (rs : List Report) (report : Report) (names : List (List ℕ)) (old new : Target) : Type 0 where
  pub output : HasWrittenTo before names new ps (rs ++ report ∷ [])
  pub form : form_to names new ≡ form_to names old
  pub failures : failures_to new ≡ failures_to old

pub report-ok : (before : List ℕ) (ps : List Captured) (rs : List Report) (report : Report) (names : List (List ℕ)) (old new : Target)
    → HasWrittenTo before names old ps rs
    → Reports (report_text names report) old (Ok tt) new → ReportOk before ps rs report names old new
report-ok before ps rs report names old new has puts = grind (arith, append_assoc, reports-append, append-nil, add-zero)

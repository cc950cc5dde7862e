-- What one call writes for a packet, a line or a report.
use Rattle.std.specs.Prelude.{◌≡◌, ℕ, ◌+◌, Bool, true, false, List, Option, Result, Ok, Err, IfErr}
use Rattle.cap_octet.specs.Device.{AppendsOrStops, failures_of}
use Rattle.cap_octet.specs.{Packet.Captured, declared.device.DeviceFault.DeviceFault}
use Rattle.cap_octet.specs.declared.fault.Fault.{Fault, TheVariants.WriteFailed}
use Rattle.cap_print.specs.Rendering.{printed_text}
use Rattle.cap_io.specs.Sink as sinks
use Rattle.cap_io.specs.Sink.{SinkView, PutWrites, FinishWrites}
use Rattle.cap_process.specs.Output.{Target, Capture, Text, Lines}

-- a packet is put into a capture, or it is refused, or the put fails
pub record PutsInto (p : Captured) (old : SinkView) (r : Result (Unit {0}) Fault)
    (new : Target) : Type 0 where
  pub sink : SinkView
  pub is : new ≡ Capture sink
  pub puts : sinks.PutsPacket old.state old p r sink
  pub writes : PutWrites old.state old p r sink

-- the text printed for a packet is appended to the lines, or the device failed
pub record Prints (bytes written : List ℕ) (failures : ℕ) (r : Result (Unit {0}) Fault)
    (lines : List ℕ → ℕ → Target) (new : Target) : Type 0 where
  pub after : List ℕ
  pub appends : AppendsOrStops r written bytes after
  pub fault : IfErr r (λ fault. fault ≡ WriteFailed)
  pub is : new ≡ lines after (failures + failures_of r)

-- a packet is written into a capture or as a line; a text is unchanged
abbrev pub PutsIntoOutput : Captured → Target → Result (Unit {0}) Fault → Target → Type 0
PutsIntoOutput p (Capture sink) r new = PutsInto p sink r new
PutsIntoOutput p (Text written failures room) r new =
    (r ≡ Ok tt) × (new ≡ Text written failures room)
PutsIntoOutput p (Lines options written failures room) r new =
    Prints (printed_text options p) written failures r (λ w f. Lines options w f room) new

-- a text is appended, or the device failed
pub record AppendsText (bytes written : List ℕ) (failures room : ℕ)
    (r : Result (Unit {0}) DeviceFault) (new : Target) : Type 0 where
  pub after : List ℕ
  pub appends : AppendsOrStops r written bytes after
  pub is : new ≡ Text after (failures + failures_of r) room

-- whether the output is a text: reports or a listing
abbrev pub is_text : Target → Bool
is_text (Text written failures room) = true
is_text target = false

-- a report or a listing is appended to a text; other outputs are unchanged
abbrev pub Reports : List ℕ → Target → Result (Unit {0}) DeviceFault → Target → Type 0
Reports bytes (Text written failures room) r new = AppendsText bytes written failures room r new
Reports bytes target r new = (r ≡ Ok tt) × (new ≡ target)

-- a capture is finished, or that fails
pub record FinishesInto (first : Option ℕ) (old : SinkView) (r : Result (Unit {0}) Fault)
    (new : Target) : Type 0 where
  pub sink : SinkView
  pub is : new ≡ Capture sink
  pub finishes : sinks.Finishes old.state old first r sink
  pub writes : FinishWrites old.state old first r sink

-- the output is completed: a capture without packets gets its file header or section header, any
-- other output nothing; or that fails
abbrev pub EndsOutput : Option ℕ → Target → Result (Unit {0}) DeviceFault → Target → Type 0
EndsOutput first (Capture sink) (Ok done) new = FinishesInto first sink (Ok done) new
EndsOutput first (Capture sink) (Err failed) new =
    (fault : Fault) × FinishesInto first sink (Err fault) new
EndsOutput first target r new = (r ≡ Ok tt) × (new ≡ target)

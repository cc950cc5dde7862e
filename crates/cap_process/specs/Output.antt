-- What contracts see of a job's output.
use Rattle.std.specs.Prelude.{◌≡◌, ℕ, List, ◌++◌}
use Rattle.cap_octet.specs.Packet.{Captured}
use Rattle.cap_print.specs.declared.print.Options.{Options}
use Rattle.cap_io.specs.{Sink.SinkView, Sink.HasPackets, Sink.sink_at, Text.FitFile}
use Rattle.cap_process.specs.Outcome.{Form, AsCapture, AsReports, AsLines, lines_text}
use Rattle.cap_process.specs.Reports.{Report, reports_text}
use Rattle.cap_process.specs.declared.output.{Device.Device, Writing.Writing}

-- The view of an output: a capture, a text or the lines of packets. For a text and for lines: the
-- bytes written, how often the output failed, and how many bytes it takes at least before it first
-- fails.
pub data Target : Type 0 where
  Capture : (sink : SinkView) → Target
  Text : (written : List ℕ) → (failures room : ℕ) → Target
  Lines : (options : Options) → (written : List ℕ) → (failures room : ℕ) → Target

-- the view of a `Device`, from the bytes written, the failures and the room of its output
abbrev pub target_of : {O Z : Type 0} → (O → List ℕ) → (O → ℕ) → (O → ℕ) → Device O Z → Target
target_of written failures room (Device.Capture sink) = Capture sink
target_of written failures room (Device.Text output) =
    Text (written output) (failures output) (room output)
target_of written failures room (Device.Lines options line output) =
    Lines options (written output) (failures output) (room output)

-- the target at the start of a job; its output held these bytes before
abbrev pub target_at : Writing → List ℕ → ℕ → ℕ → Target
target_at (Writing.Capture format) written failures room =
    Capture (sink_at format written failures room)
target_at Writing.Text written failures room = Text written failures room
target_at (Writing.Lines options) written failures room = Lines options written failures room

-- the form in which packets and reports are written to a target
abbrev pub form_to : List (List ℕ) → Target → Form
form_to names (Capture sink) = AsCapture sink.format
form_to names (Text written failures room) = AsReports names
form_to names (Lines options written failures room) = AsLines options

-- the bytes that a target's output has taken
abbrev pub written_to : Target → List ℕ
written_to (Capture sink) = sink.written
written_to (Text written failures room) = written
written_to (Lines options written failures room) = written

-- the number of failures of a target's output
abbrev pub failures_to : Target → ℕ
failures_to (Capture sink) = sink.failures
failures_to (Text written failures room) = failures
failures_to (Lines options written failures room) = failures

-- how many bytes a target's output takes at least before it first fails
abbrev pub room_to : Target → ℕ
room_to (Capture sink) = sink.room
room_to (Text written failures room) = room
room_to (Lines options written failures room) = room

-- a capture has at most as many interfaces as a file may have, with names of at most 255 bytes
abbrev pub HasFewOutputInterfaces : Target → Type 0
HasFewOutputInterfaces (Capture sink) = FitFile sink.interfaces
HasFewOutputInterfaces target = Unit {0}

-- The output has the bytes that it held before, and after them these packets as a capture, these
-- reports, or the lines of these packets.
abbrev pub HasWrittenTo : List ℕ → List (List ℕ) → Target → List Captured → List Report → Type 0
HasWrittenTo before names (Capture sink) packets reports = HasPackets before sink packets
HasWrittenTo before names (Text written failures room) packets reports =
    written ≡ before ++ reports_text names reports
HasWrittenTo before names (Lines options written failures room) packets reports =
    written ≡ before ++ lines_text options packets

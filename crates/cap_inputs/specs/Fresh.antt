-- Inputs as they are handed over.
use Rattle.std.specs.Prelude.{false, List, [], map}
use Rattle.cap_octet.specs.Views.{FreshInput}
use Rattle.cap_io.specs.{Sequence.PacketOrder, Source.source_at}
use Rattle.cap_inputs.specs.Inputs.{InputView, InputsView, InputPast}

-- an input that was handed over: nothing is read, no packet waits, and no packet is decided
abbrev pub fresh_view : FreshInput → InputView
fresh_view o =
    record {
      source = source_at o.text o.given o.failures o.sure;
      waiting = false;
      greatest = 0;
    }

-- the past of an input that was handed over: none of its bytes are done
abbrev pub nothing_done : FreshInput → InputPast
nothing_done o = record { text = o.text; done = []; packets = [] }

-- the inputs of a job at its start, and the order in which their packets will come
abbrev pub fresh_inputs : PacketOrder → List FreshInput → InputsView
fresh_inputs order os = record { order = order; cursors = map fresh_view os }

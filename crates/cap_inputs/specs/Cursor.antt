-- What a job stores about its next step: for inputs in turn a cursor; for a merge the inputs that
-- must be read on, and the queue of those whose packets wait.
use Rattle.cap_inputs.specs.declared.inputs.Schedule.{Schedule, TheVariants.Turn, TheVariants.Merge}
use Rattle.cap_io.specs.Sequence.{PacketOrder, InTurn, ByTime}

-- the order of packets that a schedule implements
abbrev pub ordering_of : Schedule → PacketOrder
ordering_of (Turn turn) = InTurn
ordering_of (Merge next last) = ByTime

-- The packets of a job in the job's order, from the items of its inputs, and the end of the order.
use Rattle.std.specs.Prelude.{ℕ, ◌+◌, ◌&&◌, ◌||◌, Bool, true, false, if◌then◌else◌, nat_lt, nat_eq, max, List, [], ◌∷◌, ◌++◌, length, map, Option}
use Rattle.cap_octet.specs.declared.fault.Fault.{Fault}
use Rattle.cap_io.specs.Capture.{Placed, Items, Ending, End, FaultAt, kind_of, items}
use Rattle.cap_io.specs.declared.source.Kind.{Kind}

-- ---- events

-- a packet of an input; or, only in turn, an input of this format and size was read to its clean
-- end
pub data Event : Type 0 where
  Packet : (input : ℕ) → (p : Placed) → Event
  InputEnd : (input : ℕ) → (kind : Option Kind) → (size : ℕ) → Event

-- the end of the order: all inputs are at their ends (or, for a job, its count of packets is
-- reached); or one had a fault at an offset
pub data SequenceEnd : Type 0 where
  Complete : SequenceEnd
  FaultIn : (input : ℕ) → (fault : Fault) → (offset : ℕ) → SequenceEnd

-- the packets of a job in its order, and how the order ends
pub record Sequence : Type 0 where
  pub events : List Event
  pub end : SequenceEnd

-- a sequence with these events in front
abbrev pub with_front : List Event → Sequence → Sequence
with_front es more = record { events = es ++ more.events; end = more.end }

-- ---- what remains of an input

-- an input from a place in it on
pub record InputItems : Type 0 where
  -- the greatest time of the packets before that place; 0 if there is none
  pub greatest : ℕ
  pub items : Items
  -- the number of bytes of the whole input
  pub size : ℕ

-- a whole input
abbrev pub whole_input : List ℕ → InputItems
whole_input text = record { greatest = 0; items = items text; size = length text }

-- ---- in turn

-- the packets of an input, as events
abbrev pub packet_events : ℕ → List Placed → List Event
packet_events input ps = map (Packet input) ps

-- an input's packets, followed by its end and the events of the inputs after it if it ends cleanly;
-- otherwise the order ends with its fault
abbrev pub input_sequence : ℕ → InputItems → Ending → Sequence → Sequence
input_sequence input r End more =
    with_front
    (packet_events input r.items.packets
    ++ InputEnd input (kind_of r.items.declared) r.size ∷ []) more
input_sequence input r (FaultAt fault offset) more =
    record { events = packet_events input r.items.packets; end = FaultIn input fault offset }

-- the inputs one after another, up to the first fault; the first has number `input`
abbrev pub sequence_in_turn : ℕ → List InputItems → Sequence
sequence_in_turn input [] = record { events = []; end = Complete }
sequence_in_turn input (r ∷ rs) =
    input_sequence input r r.items.ending (sequence_in_turn (input + 1) rs)

-- ---- by time

-- A packet of an input, the greatest time in that input up to and including it, and how the order
-- ends after it: with a fault if it is the last of an input that ends with one, else `Complete`.
pub record Entry : Type 0 where
  pub key : ℕ
  pub input : ℕ
  pub p : Placed
  pub end : SequenceEnd

-- the end of the order if an input ends like this
abbrev pub end_of : ℕ → Ending → SequenceEnd
end_of input End = Complete
end_of input (FaultAt fault offset) = FaultIn input fault offset

-- the end of the order after a packet that these follow in its input: `Complete` if any follows
abbrev pub end_after : ℕ → Ending → List Placed → SequenceEnd
end_after input ending [] = end_of input ending
end_after input ending (p ∷ ps) = Complete

-- the entries of an input from a place on, after the greatest time so far
abbrev pub entries_of : ℕ → Ending → ℕ → List Placed → List Entry
entries_of input ending greatest [] = []
entries_of input ending greatest (p ∷ ps) =
    record {
      key = max greatest p.packet.time;
      input = input;
      p = p;
      end = end_after input ending ps;
    }
    ∷ entries_of input ending (max greatest p.packet.time) ps

-- the entries of all remaining packets; the first input has this number
abbrev pub all_entries : ℕ → List InputItems → List Entry
all_entries input [] = []
all_entries input (r ∷ rs) =
    entries_of input r.items.ending r.greatest r.items.packets ++ all_entries (input + 1) rs

-- whether one packet comes before another: by the greatest time, then by the input's number;
-- packets of one input keep their order
abbrev pub comes_before : Entry → Entry → Bool
comes_before x y = nat_lt x.key y.key || (nat_eq x.key y.key && nat_lt x.input y.input)

-- an entry inserted at its place among sorted ones
abbrev pub insert_entry : Entry → List Entry → List Entry
insert_entry e [] = e ∷ []
insert_entry e (x ∷ xs) = if comes_before x e then x ∷ insert_entry e xs else e ∷ x ∷ xs

-- entries sorted by time
abbrev pub sort_entries : List Entry → List Entry
sort_entries [] = []
sort_entries (e ∷ es) = insert_entry e (sort_entries es)

-- the sequence that follows, unless the order ends with a fault before it
abbrev pub unless_fault : SequenceEnd → Sequence → Sequence
unless_fault Complete more = more
unless_fault (FaultIn input fault offset) more =
    record { events = []; end = FaultIn input fault offset }

-- the events up to and including the first packet after which the order ends
abbrev pub sequence_of_entries : List Entry → Sequence
sequence_of_entries [] = record { events = []; end = Complete }
sequence_of_entries (e ∷ es) =
    with_front (Packet e.input e.p ∷ []) (unless_fault e.end (sequence_of_entries es))

-- the first of two ends if it is a fault, else the second
abbrev pub first_end : SequenceEnd → SequenceEnd → SequenceEnd
first_end Complete later = later
first_end (FaultIn input fault offset) later = FaultIn input fault offset

-- the fault of the first input that ends with one and has no packet; `Complete` if there is none
abbrev pub fault_without_packets : ℕ → List InputItems → SequenceEnd
fault_without_packets input [] = Complete
fault_without_packets input (r ∷ rs) =
    first_end (end_after input r.items.ending r.items.packets) (fault_without_packets (input + 1) rs)

-- If an input has no packet and ends with a fault, no packet of any input comes; else all packets
-- come in order, up to the first that is the last of an input that ends with a fault.
abbrev pub sequence_by_time : List InputItems → Sequence
sequence_by_time rs =
    unless_fault (fault_without_packets 0 rs) (sequence_of_entries (sort_entries (all_entries 0 rs)))

-- ---- the job's order

-- the order in which a job takes its inputs: one after another, or by the times of their packets
pub data PacketOrder : Type 0 where
  InTurn : PacketOrder
  ByTime : PacketOrder

-- the order of a job, by whether it merges its inputs
abbrev pub order_of : (merges : Bool) → PacketOrder
order_of false = InTurn
order_of true = ByTime

-- the packets of inputs in this order
abbrev pub sequence_of : PacketOrder → List InputItems → Sequence
sequence_of InTurn rs = sequence_in_turn 0 rs
sequence_of ByTime rs = sequence_by_time rs

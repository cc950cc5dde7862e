-- Laws of the definitions: each capture is cut in exactly one way, which determines its items; and
-- what a sink does with another packet, from its state, is what all packets so far decide.
use Rattle.std.specs.Prelude.{◌≡◌, ℕ, List, [], ◌∷◌, ◌++◌, length, Ok, Option}
use Rattle.cap_octet.specs.{Packet.Captured, declared.fault.Fault.Fault}
use Rattle.cap_io.specs.Capture.{Declared, Placed, IsCut, NoUnit, front_of, items, ending_by}
use Rattle.cap_io.specs.Sink.{SinkView, HasPackets, HasPut, PutsPacket, PutWrites, added_in, refusal_in}
use Rattle.cap_io.specs.Text.{added_text, refusal_of, interfaces_after_packet, kept_interfaces, state_after, state_after_packet, takes_memory, takes_memory_in}

-- a cut of a capture
pub record Cut (text : List ℕ) : Type 0 where
  pub done : List ℕ
  pub rest : List ℕ
  pub packets : List Placed
  pub declared : Declared
  pub cut : IsCut text done rest packets declared

-- two cuts are equal in all parts
pub record IsSameCut {text : List ℕ} (one other : Cut text) : Type 0 where
  pub done : one.done ≡ other.done
  pub rest : one.rest ≡ other.rest
  pub packets : one.packets ≡ other.packets
  pub declared : one.declared ≡ other.declared

-- The items are the packets of the units, and the end is what the remainder after them begins with.
pub record TellsItems (text done rest : List ℕ) (packets : List Placed)
    (declared : Declared) : Type 0 where
  pub why : Option Fault
  pub stops : front_of declared rest ≡ NoUnit why
  pub items : items text
      ≡ record { packets = packets; declared = declared; ending = ending_by why (length done) }

-- every capture has a cut
abbrev pub EachHasCut : Type 0
EachHasCut = (text : List ℕ) → Cut text

-- any two cuts of a capture are equal
abbrev pub EachHasOneCut : Type 0
EachHasOneCut = (text : List ℕ) (one other : Cut text) → IsSameCut one other

-- the items of a capture are those of its cut
abbrev pub CutTellsItems : Type 0
CutTellsItems = (text : List ℕ) (c : Cut text) → TellsItems text c.done c.rest c.packets c.declared

-- A packet that is put to a sink is refused, takes memory and adds bytes as it does after all of
-- these packets; and the sink's state is then that after all of them.
pub record GoesByPackets (sink : SinkView) (packets : List Captured) (p : Captured) : Type 0 where
  pub refusal : refusal_in sink p ≡ refusal_of sink.format packets p
  pub memory : takes_memory_in sink.format sink.interfaces p ≡ takes_memory sink.format packets p
  pub added : added_in sink p ≡ added_text sink.format packets p
  pub state : state_after_packet sink.state p ≡ state_after (packets ++ p ∷ [])
  pub interfaces : interfaces_after_packet sink.format sink.interfaces p
      ≡ kept_interfaces sink.format (packets ++ p ∷ [])

-- each put to a sink that has these packets goes by all of them (`GoesByPackets`)
abbrev pub EachPutGoesByPackets : Type 0
EachPutGoesByPackets =
    (sink : SinkView) (packets : List Captured) (p : Captured) → HasPut sink packets
    → GoesByPackets sink packets p

-- A packet that is put extends the bytes of the packets before it.
abbrev pub PutExtendsText : Type 0
PutExtendsText =
    (before : List ℕ) (packets : List Captured) (old : SinkView) (p : Captured) (new : SinkView)
    → HasPackets before old packets → PutsPacket old.state old p (Ok tt) new
    → PutWrites old.state old p (Ok tt) new → HasPackets before new (packets ++ p ∷ [])

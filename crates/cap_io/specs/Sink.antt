-- The view of a sink, and the results of its calls.
use Rattle.std.specs.Prelude.{◌≡◌, ◌⊎◌, ℕ, Bool, true, ◌+◌, ◌≤◌, List, [], ◌++◌, length, Option, None, Some, Result, Ok, Err, IfErr, OnOk, unwrap_or}
use Rattle.cap_octet.specs.Assigned.{LINKTYPE_ETHERNET}
use Rattle.cap_octet.specs.{Checks.first_failing, Device.AppendsOrStops, Device.Stops, Packet.Captured}
use Rattle.cap_octet.specs.declared.fault.Fault.{Fault, TheVariants.NoMemory, TheVariants.WriteFailed}
use Rattle.cap_octet.specs.declared.format.Format.{Format}
use Rattle.cap_io.specs.Text.{Interface, appended_packet, checks_in, file_start, file_start_in, interfaces_after_packet, kept_interfaces, state_after, state_after_packet, takes_memory_in, text}
use Rattle.cap_io.specs.declared.sink.SinkState.{SinkState, TheVariants.Empty, TheVariants.Started, TheVariants.Broken}

-- the view of a sink
pub record SinkView : Type 0 where
  pub format : Format
  pub state : SinkState
  -- the interfaces of a pcapng file so far; pcap forms have none
  pub interfaces : List Interface
  -- the bytes written to the output, how often it failed, and how many bytes it takes at least
  -- before it first fails
  pub written : List ℕ
  pub failures : ℕ
  pub room : ℕ

-- a sink to which nothing was put
abbrev pub sink_at : Format → List ℕ → ℕ → ℕ → SinkView
sink_at format written failures room =
    record {
      format = format;
      state = Empty;
      interfaces = [];
      written = written;
      failures = failures;
      room = room;
    }

-- The state and the interfaces of the sink are those after exactly these packets.
pub record HasPut (sink : SinkView) (packets : List Captured) : Type 0 where
  pub state : sink.state ≡ state_after packets
  pub interfaces : sink.interfaces ≡ kept_interfaces sink.format packets

-- These packets were put, and their bytes were written after what the output already held.
pub record HasPackets (before : List ℕ) (sink : SinkView) (packets : List Captured) : Type 0 where
  pub written : sink.written ≡ before ++ text sink.format packets
  pub put : HasPut sink packets

-- why a packet isn't written; None if no check fails
abbrev pub refusal_in : SinkView → Captured → Option Fault
refusal_in sink p = first_failing (checks_in sink.format sink.state sink.interfaces p)

-- the bytes that a packet adds
abbrev pub added_in : SinkView → Captured → List ℕ
added_in sink p =
    file_start_in sink.format sink.state p.link ++ appended_packet sink.format sink.interfaces p

-- the number of failures of the device in a call: 1 if the call reports a failed write, else 0
abbrev pub write_failures : {X : Type 0} → Result X Fault → ℕ
write_failures (Err WriteFailed) = 1
write_failures result = 0

-- A put returns the refusal if there is one. Otherwise the packet is added; or allocation failed,
-- if the packet needs memory; or the device failed.
abbrev pub IsPutAnswer : Option Fault → Bool → Result (Unit {0}) Fault → Type 0
IsPutAnswer None takes (Ok done) = Unit {0}
IsPutAnswer None takes (Err fault) = (fault ≡ WriteFailed) ⊎ ((fault ≡ NoMemory) × (takes ≡ true))
IsPutAnswer (Some refusal) takes (Ok done) = ⊥
IsPutAnswer (Some refusal) takes (Err fault) = fault ≡ refusal

-- The interfaces of a sink after a put: those after the packet if it was added, else those before
-- it. The interface is numbered before bytes are written, so after a failed write they are those
-- after the packet too.
abbrev pub interfaces_after_put : Result (Unit {0}) Fault → (before following : List Interface)
    → List Interface
interfaces_after_put (Ok done) before following = following
interfaces_after_put (Err WriteFailed) before following = following
interfaces_after_put (Err fault) before following = before

-- the result of adding a packet to a sink that has not failed, for all devices
pub record AddsPacket (old : SinkView) (p : Captured) (r : Result (Unit {0}) Fault)
    (new : SinkView) : Type 0 where
  pub answer : IsPutAnswer (refusal_in old p) (takes_memory_in old.format old.interfaces p) r
  pub state : OnOk r (new.state ≡ state_after_packet old.state p)
  pub interfaces : new.interfaces
      ≡ interfaces_after_put r old.interfaces (interfaces_after_packet old.format old.interfaces p)
  pub format : new.format ≡ old.format
  pub failures : new.failures ≡ old.failures + write_failures r
  pub room : new.room ≡ old.room
  pub filled : r ≡ Err WriteFailed → old.room ≤ length new.written

-- the bytes written if a call ends with a fault: none if memory ran out, else a prefix, perhaps
-- empty, but not all
abbrev pub BreaksOff : Fault → List ℕ → List ℕ → List ℕ → Type 0
BreaksOff NoMemory bytes written written' = written' ≡ written
BreaksOff fault bytes written written' = Stops written bytes written'

-- the bytes that a put writes: all that the packet adds; none for a refused packet; after a failure
-- a prefix, perhaps empty, but not all
abbrev pub WritesPacket : Option Fault → List ℕ → List ℕ → Result (Unit {0}) Fault → List ℕ → Type 0
WritesPacket refusal bytes written (Ok done) written' = written' ≡ written ++ bytes
WritesPacket (Some refusal) bytes written (Err fault) written' = written' ≡ written
WritesPacket None bytes written (Err fault) written' = BreaksOff fault bytes written written'

-- The result of a put to a sink that has not failed: it adds the packet, and if the put fails, the
-- sink has failed from then on.
pub record PutsNext (old : SinkView) (p : Captured) (r : Result (Unit {0}) Fault)
    (new : SinkView) : Type 0 where
  pub adds : AddsPacket old p r new
  pub broken : IfErr r (λ fault. new.state ≡ Broken fault)

-- The result of a put to a sink in this state, for all devices. A sink that has failed returns that
-- fault again, and is unchanged.
abbrev pub PutsPacket : SinkState → SinkView → Captured → Result (Unit {0}) Fault → SinkView
    → Type 0
PutsPacket (Broken fault) old p r new = (r ≡ Err fault) × (new ≡ old)
PutsPacket state old p r new = PutsNext old p r new

-- the bytes that a put to a sink in this state writes; none if the sink has failed
abbrev pub PutWrites : SinkState → SinkView → Captured → Result (Unit {0}) Fault → SinkView → Type 0
PutWrites (Broken fault) old p r new = new ≡ old
PutWrites state old p r new =
    WritesPacket (refusal_in old p) (added_in old p) old.written r new.written

-- The result of a finish if no packet was put, for all devices: the file header or section header
-- is written, or the device failed.
pub record FinishesEmpty (old : SinkView) (link : ℕ) (r : Result (Unit {0}) Fault)
    (new : SinkView) : Type 0 where
  pub answer : IfErr r (λ fault. fault ≡ WriteFailed)
  pub state : OnOk r (new.state ≡ Started link)
  pub broken : IfErr r (λ fault. new.state ≡ Broken fault)
  pub interfaces : new.interfaces ≡ old.interfaces
  pub format : new.format ≡ old.format
  pub failures : new.failures ≡ old.failures + write_failures r
  pub room : new.room ≡ old.room
  pub filled : r ≡ Err WriteFailed → old.room ≤ length new.written

-- the link type of a file header if no packet was put: 1 (Ethernet) if none is declared
abbrev pub link_or_ethernet : Option ℕ → ℕ
link_or_ethernet first = unwrap_or first LINKTYPE_ETHERNET

-- The result of a finish of a sink in this state, for all devices: it writes the header if no
-- packet was put, else nothing. A sink that has failed returns its fault again, and is unchanged.
abbrev pub Finishes : SinkState → SinkView → Option ℕ → Result (Unit {0}) Fault → SinkView → Type 0
Finishes Empty old first r new = FinishesEmpty old (link_or_ethernet first) r new
Finishes (Started link) old first r new = (r ≡ Ok tt) × (new ≡ old)
Finishes (Broken fault) old first r new = (r ≡ Err fault) × (new ≡ old)

-- the bytes that a finish writes: if no packet was put the file header or section header, or, if
-- the device failed, a prefix but not all of it; else none
abbrev pub FinishWrites : SinkState → SinkView → Option ℕ → Result (Unit {0}) Fault → SinkView
    → Type 0
FinishWrites Empty old first r new =
    AppendsOrStops r old.written (file_start old.format (link_or_ethernet first)) new.written
FinishWrites state old first r new = new ≡ old

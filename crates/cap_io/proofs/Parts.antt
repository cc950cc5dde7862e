-- What parts add that are written one after another, and what a sink adds with them.
use Rattle.std.proofs.Common.{rules, ◌≡◌, ◌⊎◌, ℕ, ◌+◌, ◌<◌, Bool, not, if◌then◌else◌, List, [], ◌∷◌, ◌++◌, length, take, Option, Result, is_ok, Ok, Err, sym}
use Rattle.std.proofs.Common.{ap, ◌∙◌, length-append}
use Rattle.cap_io.proofs.Common.{arith, flat_map, append_assoc, append-nil, checked, AppendsOrStops, Stops, Captured, Fault, Format, Pcap, NsecPcap, Pcapng}
use Rattle.cap_io.proofs.Common.{InterfaceNumber, SinkState, HasNumber, Appends, description_text, WritesExactly, interface_text}
use Rattle.cap_io.specs.Text.{file_start_in, appended_packet, Interface, interface_of, file_start, record_text}
use Rattle.cap_pcap.specs.Encoding.{IsPcap, file_header as pcap_header, resolution_of}
use Rattle.cap_io.specs.{Sink.WritesPacket, inside.Sink.packet_block_text}
use Rattle.std.proofs.{lemmas.List.take-append-le, Math.Seq.take-append-add}
use Rattle.cap_octet.specs.declared.{fault.Fault.TheVariants.WriteFailed, device.Stopped.Stopped, device.DeviceFault.DeviceFault, device.Output.Ghosts}

pub appends-as : {E : Type 0} (r : Result (Unit {0}) E) (written bytes bytes' written' : List ℕ) → bytes ≡ bytes' → AppendsOrStops r written bytes
    written' → AppendsOrStops r written bytes' written'
appends-as r written bytes bytes' written' same appends = grind arith

pub stops-front : (written part more written' : List ℕ) → Stops written part written' → Stops written (part ++ more) written'
stops-front written part more written' stops = grind (arith, length-append, take-append-le)

pub stops-following : (written done part mid written' : List ℕ) → mid ≡ written ++ done → Stops mid part written' → Stops written (done ++ part) written'
stops-following written done part mid written' first stops =
    let less : stops.0 < length part = stops.1 in (
      length done + stops.0,
      omega (arith, less, length-append done part),
      stops.2
          ∙ ap (λ (l : List ℕ). l ++ take stops.0 part) first
          ∙ append_assoc written done (take stops.0 part)
          ∙ ap (λ (l : List ℕ). written ++ l) (sym (take-append-add done part stops.0)),
    )

-- a part after one that was written
pub appends-following : {E : Type 0} (r : Result (Unit {0}) E) (written done part mid written' : List ℕ) → mid ≡ written ++ done
    → AppendsOrStops r mid part written' → AppendsOrStops r written (done ++ part) written'
appends-following (Ok value) written done part mid written' first appends =
    appends ∙ ap (λ (l : List ℕ). l ++ part) first ∙ append_assoc written done part
appends-following (Err fault) written done part mid written' first stops = stops-following written done part mid written' first stops

-- ---- what a device did

-- by an error that doesn't report where it stopped
pub appends-exactly : {Device : Type 0} (d : Ghosts Device) (old new : Device) (bytes : List ℕ) (r : Result (Unit {0}) Stopped)
    (r' : Result (Unit {0}) DeviceFault)
    → is_ok r' ≡ is_ok r → WritesExactly d old bytes r new → Appends d old bytes r' new
appends-exactly d old new bytes r r' same writes = grind arith

pub appends-nothing : {Device : Type 0} (d : Ghosts Device) (old : Device) → Appends d old [] (Ok tt) old
appends-nothing d old = grind (arith, append-nil)

pub appends-stopped : {Device : Type 0} (d : Ghosts Device) (old new : Device) (part more : List ℕ) (fault : DeviceFault)
    → Appends d old part (Err fault) new → Appends d old (part ++ more) (Err fault) new
appends-stopped d old new part more fault appends = grind (arith, stops-front)

pub appends-then : {Device : Type 0} (d : Ghosts Device) (old mid new : Device) (done part : List ℕ) (r : Result (Unit {0}) DeviceFault)
    → Appends d old done (Ok tt) mid → Appends d mid part r new → Appends d old (done ++ part) r new
appends-then d old mid new done part r first second = grind (arith, appends-following)

-- ---- by format

pub is-pcap : (format : Format) → (format ≡ Pcap) ⊎ (format ≡ NsecPcap) → IsPcap format
is-pcap format is = grind arith

pub pcap-file_header : (format : Format) (link : ℕ) → IsPcap format → pcap_header (resolution_of format) link ≡ file_start format link
pcap-file_header format link is = grind arith

pub packet-record : (format : Format) (interfaces : List Interface) (p : Captured) → IsPcap format → record_text (resolution_of format) p ≡
    appended_packet format interfaces p
packet-record format interfaces p is = grind arith

described : (b : Bool) (p : Captured) → description_text (not b) p ≡ flat_map (λ (i : Interface). interface_text i.link i.snap i.name)
    (if b then [] else interface_of p ∷ [])
described b p = grind (arith, append-nil)

-- ---- what a sink adds

pub record-adds : (r : Result (Unit {0}) DeviceFault) (format : Format) (state : SinkState) (interfaces : List Interface) (p : Captured)
    (written written' : List ℕ) → (format ≡ Pcap) ⊎ (format ≡ NsecPcap)
    → AppendsOrStops r written (file_start_in format state p.link ++ record_text (resolution_of format) p) written' → AppendsOrStops r written
    (file_start_in format state p.link ++ appended_packet format interfaces p) written'
record-adds r format state interfaces p written written' form appends =
    let same = ap (λ (l : List ℕ). file_start_in format state p.link ++ l) (packet-record format interfaces p (is-pcap format form)) in
    appends-as r written _ _ written' same appends

pub block-adds : (r : Result (Unit {0}) DeviceFault) (format : Format) (state : SinkState) (interfaces : List Interface) (p : Captured)
    (place : InterfaceNumber) (new : List Interface) (written written' : List ℕ)
    → format ≡ Pcapng → HasNumber interfaces (interface_of p) place new
    → AppendsOrStops r written (file_start_in Pcapng state p.link ++ packet_block_text place p) written' → AppendsOrStops r written
    (file_start_in format state p.link ++ appended_packet format interfaces p) written'
block-adds r format state interfaces p place new written written' form has appends = search rules

-- a packet that isn't refused, where the device failed
pub adds-failed : (refusal : Option Fault) (bytes written written' : List ℕ) → Ok (tt {0}) ≡ checked refusal (tt {0}) → Stops written bytes written'
    → WritesPacket refusal bytes written (Err WriteFailed) written'
adds-failed refusal bytes written written' allowed stops = grind arith

-- The packets that a format can carry: a capture of them reads back as the same packets.
use Rattle.std.specs.Prelude.{◌≡◌, ℕ, ◌%◌, ◌^◌, ◌<◌, ◌≤◌, List, [], ◌∷◌, ◌++◌, length, map, None}
use Rattle.cap_octet.specs.{Packet.Captured, declared.format.Format.Format}
use Rattle.cap_octet.specs.declared.format.Format.TheVariants.{Pcap, NsecPcap, Pcapng}
use Rattle.cap_pcap.specs.Record.{most_captured}
use Rattle.cap_pcapng.specs.Interface.{most_interfaces}
use Rattle.cap_io.specs.{Capture.Placed, Capture.End, Capture.items, Text.kept_interfaces, Text.refusal_of, Text.text}

-- each field of a packet but its bytes, whose number `refusal_of` checks, is in its range
pub record InRange (p : Captured) : Type 0 where
  pub link : p.link < 2 ^ 16
  pub snap : p.snap < 2 ^ 32
  pub name : length p.name ≤ 255
  pub time : p.time < 2 ^ 63
  pub orig : p.orig < 2 ^ 32
  pub comment : length p.comment ≤ 65535

-- a packet of which the pcap formats keep everything but fractions of its time: it has the file
-- header's snap length, no name and no comment
pub record IsPlain (p : Captured) : Type 0 where
  pub snap : p.snap ≡ most_captured
  pub name : p.name ≡ []
  pub comment : p.comment ≡ []

-- A format keeps everything of a packet.
abbrev pub IsLossless : Format → Captured → Type 0
IsLossless Pcap p = IsPlain p × (p.time % 1000 ≡ 0)
IsLossless NsecPcap p = IsPlain p
IsLossless Pcapng p = Unit {0}

-- a packet is carried after these others: it is in range, kept completely by the format, and not
-- refused
pub record IsCarried (format : Format) (earlier : List Captured) (p : Captured) : Type 0 where
  pub in_range : InRange p
  pub kept : IsLossless format p
  pub taken : refusal_of format earlier p ≡ None

-- there are no more interfaces than a section may have that is read
abbrev pub HasFewInterfaces : Format → List Captured → Type 0
HasFewInterfaces Pcap ps = Unit {0}
HasFewInterfaces NsecPcap ps = Unit {0}
HasFewInterfaces Pcapng ps = length (kept_interfaces Pcapng ps) ≤ most_interfaces

-- a format carries these packets: each of them, and their interfaces
pub record Carries (format : Format) (ps : List Captured) : Type 0 where
  pub each : (earlier : List Captured) (p : Captured) (later : List Captured)
      → ps ≡ earlier ++ p ∷ later → IsCarried format earlier p
  pub interfaces : HasFewInterfaces format ps

-- A capture holds these packets, and ends cleanly.
pub record ReadsBack (text : List ℕ) (ps : List Captured) : Type 0 where
  pub packets : map (λ (q : Placed). q.packet) (items text).packets ≡ ps
  pub ending : (items text).ending ≡ End

-- a capture of one or more packets that this format carries reads back as these packets
abbrev pub Back : Format → Type 0
Back format =
    (p : Captured) (ps : List Captured) → Carries format (p ∷ ps)
    → ReadsBack (text format (p ∷ ps)) (p ∷ ps)

-- for each format, a capture of one or more packets that it carries reads back as these packets
abbrev pub ItemsBack : Type 0
ItemsBack = (format : Format) → Back format

-- The bytes of a capture file that is written, and which packets are refused.
use Rattle.std.specs.{Cmp.Lexicographic.pointwise, List.flat_map, List.fold, List.list_any, List.position_or_len}
use Rattle.std.specs.Prelude.{◌==◌, ◌&&◌, ◌≤◌, if◌then◌else◌, All, ℕ, Bool, true, false, not, List, [], ◌∷◌, ◌++◌, Option, length, nat_eq, nat_le}
use Rattle.cap_octet.specs.{Checks.first_failing, Packet.Captured, declared.fault.Fault.Fault}
use Rattle.cap_octet.specs.declared.fault.Fault.TheVariants.{LinkTypesDiffer, TooManyOutputInterfaces}
use Rattle.cap_octet.specs.declared.format.Format.{Format, TheVariants.Pcap, TheVariants.NsecPcap, TheVariants.Pcapng}
use Rattle.cap_pcap.specs.Encoding as pcap
use Rattle.cap_pcap.specs.declared.header.Resolution.{Resolution, TheVariants.Microseconds, TheVariants.Nanoseconds}
use Rattle.cap_pcapng.specs.Encoding as pcapng
use Rattle.cap_io.specs.declared.sink.SinkState.{SinkState, TheVariants.Empty, TheVariants.Started}

-- ---- the interfaces of a pcapng file

-- an interface: packets with equal fields have the same one
pub record Interface : Type 0 where
  pub link : ℕ
  pub snap : ℕ
  pub name : List ℕ

-- the interface of a packet
abbrev pub interface_of : Captured → Interface
interface_of p = record { link = p.link; snap = p.snap; name = p.name }

-- whether two interfaces are the same: their link types, snap lengths and names are equal
abbrev pub is_same : Interface → Interface → Bool
is_same i j = i.link == j.link && (i.snap == j.snap && pointwise nat_eq i.name j.name)

-- whether one of these interfaces is the same as another
abbrev pub is_among : List Interface → Interface → Bool
is_among interfaces i = list_any (is_same i) interfaces

-- an interface, if it is the same as none of these; else none
abbrev pub new_among : List Interface → Interface → List Interface
new_among interfaces i = if is_among interfaces i then [] else i ∷ []

-- the index of this interface, or the number of interfaces if it is new
abbrev pub number_among : List Interface → Interface → ℕ
number_among interfaces i = position_or_len (is_same i) interfaces

-- the most interfaces of a file
abbrev pub most_output_interfaces : ℕ
most_output_interfaces = 4096

-- the interfaces of a file that is written: at most 4,096, with names of at most 255 bytes
pub record FitFile (interfaces : List Interface) : Type 0 where
  pub count : length interfaces ≤ most_output_interfaces
  pub names : All (λ i. length i.name ≤ 255) interfaces

-- ---- bytes

-- the start of a file: a file header with this link type, or a section header
abbrev pub file_start : Format → ℕ → List ℕ
file_start Pcap link = pcap.file_header Microseconds link
file_start NsecPcap link = pcap.file_header Nanoseconds link
file_start Pcapng link = pcapng.section_text

-- a pcap record: its header and the packet's bytes
abbrev pub record_text : Resolution → Captured → List ℕ
record_text resolution p = pcap.record_header resolution p ++ p.bytes

-- ---- one more packet, after those that a file has

-- the state after one more packet; that of a sink that failed is unchanged
abbrev pub state_after_packet : SinkState → Captured → SinkState
state_after_packet Empty p = Started p.link
state_after_packet state p = state

-- the interfaces after one more packet; the pcap formats have none
abbrev pub interfaces_after_packet : Format → List Interface → Captured → List Interface
interfaces_after_packet Pcapng interfaces p = interfaces ++ new_among interfaces (interface_of p)
interfaces_after_packet format interfaces p = interfaces

-- whether a packet has the link type of the first, if there is a first
abbrev pub has_link : SinkState → Captured → Bool
has_link (Started link) p = link == p.link
has_link state p = true

-- whether there is room for a packet's interface
abbrev pub has_room : List Interface → Captured → Bool
has_room interfaces p =
    nat_le (length (interfaces ++ new_among interfaces (interface_of p))) most_output_interfaces

-- the checks of a packet before it is written, in order
abbrev pub checks_in : Format → SinkState → List Interface → Captured → List (Bool × Fault)
checks_in Pcapng state interfaces p =
    pcapng.block_fit_checks p ++ (has_room interfaces p, TooManyOutputInterfaces) ∷ []
checks_in format state interfaces p = (has_link state p, LinkTypesDiffer) ∷ pcap.record_fit_checks p

-- whether a packet needs memory: in pcapng, if its interface is new
abbrev pub takes_memory_in : Format → List Interface → Captured → Bool
takes_memory_in Pcapng interfaces p = not (is_among interfaces (interface_of p))
takes_memory_in format interfaces p = false

-- the bytes written before the first packet; none before later ones
abbrev pub file_start_in : Format → SinkState → ℕ → List ℕ
file_start_in format Empty link = file_start format link
file_start_in format state link = []

-- the bytes of a packet itself; in pcapng a new interface is described before it, whose number is
-- the count of the interfaces so far
abbrev pub appended_packet : Format → List Interface → Captured → List ℕ
appended_packet Pcap interfaces p = record_text Microseconds p
appended_packet NsecPcap interfaces p = record_text Nanoseconds p
appended_packet Pcapng interfaces p =
    flat_map (λ (i : Interface). pcapng.interface_text i.link i.snap i.name)
    (new_among interfaces (interface_of p))
    ++ pcapng.packet_block (number_among interfaces (interface_of p)) p

-- ---- packets, one after another

-- the state after these packets
abbrev pub state_after : List Captured → SinkState
state_after [] = Empty
state_after (p ∷ ps) = Started p.link

-- the different interfaces of these packets, in the order of first use; the pcap formats have none
abbrev pub kept_interfaces : Format → List Captured → List Interface
kept_interfaces format packets = fold (interfaces_after_packet format) [] packets

-- why a packet that comes after these isn't written; None if no check fails
abbrev pub refusal_of : Format → List Captured → Captured → Option Fault
refusal_of format earlier p =
    first_failing (checks_in format (state_after earlier) (kept_interfaces format earlier) p)

-- whether a packet after these needs memory
abbrev pub takes_memory : Format → List Captured → Captured → Bool
takes_memory format earlier p = takes_memory_in format (kept_interfaces format earlier) p

-- the bytes that a packet adds after those before it
abbrev pub added_text : Format → List Captured → Captured → List ℕ
added_text format earlier p =
    file_start_in format (state_after earlier) p.link
    ++ appended_packet format (kept_interfaces format earlier) p

-- the bytes of packets after these
abbrev pub packets_text : Format → List Captured → List Captured → List ℕ
packets_text format earlier [] = []
packets_text format earlier (p ∷ ps) =
    added_text format earlier p ++ packets_text format (earlier ++ p ∷ []) ps

-- the bytes of a file with these packets; none without packets: the header is then written by a
-- finish
abbrev pub text : Format → List Captured → List ℕ
text format packets = packets_text format [] packets

-- What the caller's structs mean.
use Rattle.std.specs.Prelude.{◌≡◌, ℕ, ◌==◌, if◌then◌else◌, is_some, min, List, length, map, take, Option, Some, None}
use Rattle.cap_octet.specs.declared.number.Order.{Order, TheVariants.Little, TheVariants.Big}
use Rattle.cap_pcap.specs.declared.header.Resolution.{Resolution, TheVariants.Microseconds, TheVariants.Nanoseconds}
use Rattle.cap_pcapng.specs.Interface.{Described}
use Rattle.cap_io.specs.{Capture.Declared, Reading.declared_by, declared.file_state.FileState.FileState}
use Rattle.capkit_c.specs.declared.memory.layout.{Interface.Interface, Reader.Reader}

-- the byte order that a flag means: 0 is little-endian, every other number big-endian
abbrev pub order_of_flag : ℕ → Order
order_of_flag flag = if flag == 0 then Little else Big

-- the resolution of a pcap file's times, by the flag for nanoseconds
abbrev pub resolution_by : ℕ → Resolution
resolution_by flag = if flag == 0 then Microseconds else Nanoseconds

-- the first link type of a pcapng file, by the flag that it has one
abbrev pub link_by : ℕ → ℕ → Option ℕ
link_by flag link = if flag == 0 then None else Some link

-- a reader has the first link type of a file, and its flag is 1 if there is one, else 0
pub record HasLink (first : Option ℕ) (r : Reader) : Type 0 where
  pub link : link_by r.has_link_type r.link_type ≡ first
  pub flag : r.has_link_type ≡ (if is_some first then 1 else 0)

-- what the units declare that a reader has read
abbrev pub reader_form : Reader → FileState
reader_form r =
    if r.form == 1 then FileState.Pcap
    (record {
      order = order_of_flag r.big_endian;
      resolution = resolution_by r.nanoseconds;
      snap = r.snap;
      link = r.link_type;
    })
    else (if r.form == 2 then FileState.Pcapng (order_of_flag r.big_endian)
    (link_by r.has_link_type r.link_type)
    else FileState.Unknown)

-- how many interfaces a reader knows, in a table that has room for `room` of them
abbrev pub most_known : Reader → ℕ → ℕ
most_known r room = min (min r.interfaces room) 256

-- an interface of the table; 0 units count as 1
abbrev pub described_of : Interface → Described
described_of i =
    record {
      link = i.link_type;
      snap = i.snap;
      name = take i.name_length i.name;
      units = if i.units == 0 then 1 else i.units;
      offset = i.offset;
    }

-- the first `count` interfaces of a table, as blocks look them up
abbrev pub first_interfaces : ℕ → List Interface → List Described
first_interfaces count table = map described_of (take count table)

-- what is declared by a reader and its table
abbrev pub declared_in : Reader → List Interface → Declared
declared_in r table = declared_by (reader_form r)
    (first_interfaces (most_known r (length table)) table)

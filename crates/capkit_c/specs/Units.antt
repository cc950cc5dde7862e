-- Units of a capture in memory.
use Rattle.std.specs.{List.slice_get, Option.option_map}
use Rattle.std.specs.Prelude.{◌≡◌, ℕ, ◌+◌, ◌<◌, ◌≤◌, List, [], ◌∷◌, ◌++◌, length, take, drop, Option, Some, None}
use Rattle.cap_octet.specs.{Packet.Captured, declared.fault.Fault.Fault}
use Rattle.cap_pcapng.specs.{Comment.comment_in, Interface.Described, Unit.Section}
use Rattle.cap_pcapng.specs.declared.effect.PacketSpans.{PacketSpans}
use Rattle.cap_io.specs.Capture.{Declared, Nothing, PcapFile, PcapngFile, Whole, NoUnit, first_link_of, front_of}
use Rattle.cap_io.specs.Reading.{UnitHas}
use Rattle.capkit_c.specs.Layout.{HasLink, declared_in, most_known}
use Rattle.capkit_c.specs.declared.memory.layout.Interface.{Interface}
use Rattle.capkit_c.specs.declared.memory.{layout.Packet.Packet, layout.Reader.Reader, reader.Found.Found}

-- the comment in a packet's options; empty if it has none or the file isn't pcapng
abbrev pub comment_by : Declared → List ℕ → List ℕ
comment_by Nothing options = []
comment_by (PcapFile head) options = []
comment_by (PcapngFile first section) options = comment_in section.order options

-- the name of the interface with this number; None if a pcapng file has no such interface, and
-- empty if the file isn't pcapng
abbrev pub name_by : Declared → ℕ → Option (List ℕ)
name_by Nothing number = Some []
name_by (PcapFile head) number = Some []
name_by (PcapngFile first section) number =
    option_map (λ (i : Described). i.name) (slice_get section.interfaces number)

-- the unit at the start of these bytes declares one interface after these
pub record DeclaresOne (declared : Declared) (text : List ℕ)
    (interfaces : List Described) : Type 0 where
  pub size : ℕ
  pub first : Option ℕ
  pub section : Section
  pub interface : Described
  pub front : front_of declared text ≡ Whole size [] (PcapngFile first section)
  pub more : section.interfaces ≡ interfaces ++ interface ∷ []

-- a packet of the unit at this offset of a capture, and the places of its parts
pub record IsPacketFound (capture : List ℕ) (offset : ℕ) (declared : Declared) (p : Packet)
    (q : Captured) : Type 0 where
  pub spans : PacketSpans
  pub lies : UnitHas declared (drop offset capture) spans
  pub number : p.interface ≡ spans.interface
  pub data_at : p.at ≡ offset + spans.bytes.start
  pub data_length : p.captured ≡ spans.bytes.length
  pub options_at : p.options_at ≡ offset + spans.options.start
  pub options_length : p.options_length ≡ spans.options.length
  pub link : q.link ≡ p.link_type
  pub snap : q.snap ≡ p.snap
  pub name : name_by declared p.interface ≡ Some q.name
  pub time : q.time ≡ p.time
  pub orig : q.orig ≡ p.original
  pub bytes : q.bytes ≡ take p.captured (drop p.at capture)
  pub within : p.at + p.captured ≤ length capture
  pub comment : q.comment ≡ comment_by declared (take p.options_length (drop p.options_at capture))
  pub options : p.options_at + p.options_length ≤ length capture

-- the reader, its table and its packet are unchanged
pub record Stays (r r' : Reader) (t t' : List Interface) (p p' : Packet) : Type 0 where
  pub reader : r' ≡ r
  pub table : t' ≡ t
  pub packet : p' ≡ p

-- the reader is after a unit of this size, which the capture has; it knows the first link type, and
-- its count of interfaces is that of the declarations
pub record IsPastUnit (capture : List ℕ) (size : ℕ) (r r' : Reader) (t' : List Interface) : Type 0
  where
    pub offset : r'.offset ≡ r.offset + size
    pub there : size ≤ length (drop r.offset capture)
    pub some : 0 < size
    pub link : HasLink (first_link_of (declared_in r' t')) r'
    pub counted : r'.interfaces ≡ most_known r' (length t')

-- the result for the unit at the reader's offset: it is skipped, or its packet is found; or the
-- capture ends there, or the unit has a fault, or the table has no room for its interface
pub data NextLeaves (capture : List ℕ) (r r' : Reader) (t t' : List Interface)
    (p p' : Packet) : Found → Type 0 where
  passes : (size : ℕ)
      → front_of (declared_in r t) (drop r.offset capture) ≡ Whole size [] (declared_in r' t')
      → IsPastUnit capture size r r' t' → p' ≡ p
      → NextLeaves capture r r' t t' p p' Found.Unit
  finds : (size : ℕ) (q : Captured)
      → front_of (declared_in r t) (drop r.offset capture) ≡ Whole size (q ∷ []) (declared_in r' t')
      → IsPastUnit capture size r r' t'
      → IsPacketFound capture r.offset (declared_in r' t') p' q
      → NextLeaves capture r r' t t' p p' Found.Packet
  ends : front_of (declared_in r t) (drop r.offset capture) ≡ NoUnit None → Stays r r' t t' p p'
      → NextLeaves capture r r' t t' p p' Found.End
  fails : (fault : Fault) → front_of (declared_in r t) (drop r.offset capture) ≡ NoUnit (Some fault)
      → Stays r r' t t' p p' → NextLeaves capture r r' t t' p p' (Found.Fault fault)
  is_full : (interfaces : List Described) → length t ≡ length interfaces
      → DeclaresOne (declared_in r t) (drop r.offset capture) interfaces → Stays r r' t t' p p'
      → NextLeaves capture r r' t t' p p' Found.NoRoom

-- what ends a search for a packet: neither a packet nor a unit without one
abbrev pub IsStop : Found → Type 0
IsStop Found.Unit = ⊥
IsStop Found.Packet = ⊥
IsStop what = Unit {0}

-- a reader and its table, at the start and after units without a packet
pub data PassesUnits (capture : List ℕ) (r : Reader) (t : List Interface)
    (p : Packet) : Reader → List Interface → Type 0 where
  none_passed : PassesUnits capture r t p r t
  one_passed : {s s' : Reader} {u u' : List Interface} → PassesUnits capture r t p s u
      → NextLeaves capture s s' u u' p p Found.Unit → PassesUnits capture r t p s' u'

-- units without a packet are skipped, and then something else is found: this
pub record PacketLeaves (capture : List ℕ) (r r' : Reader) (t t' : List Interface) (p p' : Packet)
    (what : Found) : Type 0 where
  pub between : Reader
  pub table : List Interface
  pub passes : PassesUnits capture r t p between table
  pub leaves : NextLeaves capture between r' table t' p p' what
  pub no_unit : ¬ what ≡ Found.Unit

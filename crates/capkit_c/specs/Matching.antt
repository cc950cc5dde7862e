-- The result of a search for the next packet that instructions accept.
use Rattle.std.specs.Prelude.{◌≡◌, ℕ, ◌<◌, List, take, drop}
use Rattle.flt_bpf.specs.declared.insn.Insn.{Insn}
use Rattle.capkit_c.specs.{Reading.found_number, Running.RunLeaves, Units.IsStop, Units.NextLeaves}
use Rattle.capkit_c.specs.declared.memory.layout.{Interface.Interface, Packet.Packet, Reader.Reader}
use Rattle.capkit_c.specs.declared.memory.reader.Found.{Found}

-- what instructions, valid or not, return for a packet of a capture: the same as in capkit_run and
-- capkit_matches
pub record Returns (insns : List Insn) (capture : List ℕ) (p : Packet) (answer : ℕ) : Type 0 where
  pub steps : ℕ
  pub runs : RunLeaves insns (take p.captured (drop p.at capture)) p.original answer steps

-- a packet ends the search with this number: the instructions accept it (0), or it has another link
-- type (226)
pub data EndsBy (insns : List Insn) (link_type : ℕ) (capture : List ℕ) (p : Packet)
    (number : ℕ) : Type 0 where
  accepted : (answer : ℕ) → p.link_type ≡ link_type → Returns insns capture p answer → 0 < answer
      → number ≡ 0 → EndsBy insns link_type capture p number
  another : ¬ p.link_type ≡ link_type → number ≡ 226 → EndsBy insns link_type capture p number

-- a packet has this link type, and the instructions reject it: they return 0
pub record IsRejected (insns : List Insn) (link_type : ℕ) (capture : List ℕ) (p : Packet) : Type 0
  where
    pub link : p.link_type ≡ link_type
    pub rejects : Returns insns capture p 0

-- one step past a unit without a packet, or past a packet that is rejected
pub data Skips (insns : List Insn) (link_type : ℕ) (capture : List ℕ) (r r' : Reader)
    (t t' : List Interface) (p p' : Packet) : Type 0 where
  past_unit : NextLeaves capture r r' t t' p p' Found.Unit
      → Skips insns link_type capture r r' t t' p p'
  past_packet : NextLeaves capture r r' t t' p p' Found.Packet
      → IsRejected insns link_type capture p'
      → Skips insns link_type capture r r' t t' p p'

-- the last step: to a packet that ends the search, or to the end, a fault or a full table
pub data Ends (insns : List Insn) (link_type : ℕ) (capture : List ℕ) (r r' : Reader)
    (t t' : List Interface) (p p' : Packet) (number : ℕ) : Type 0 where
  at_packet : NextLeaves capture r r' t t' p p' Found.Packet
      → EndsBy insns link_type capture p' number
      → Ends insns link_type capture r r' t t' p p' number
  at_stop : (what : Found) → NextLeaves capture r r' t t' p p' what → IsStop what
      → number ≡ found_number what → Ends insns link_type capture r r' t t' p p' number

-- reader, table and packet, at the start and after steps that aren't the last
pub data GoesPast (insns : List Insn) (link_type : ℕ) (capture : List ℕ) (r : Reader)
    (t : List Interface) (p : Packet) : Reader → List Interface → Packet → Type 0 where
  at_first : GoesPast insns link_type capture r t p r t p
  one_more : {s s' : Reader} {u u' : List Interface} {q q' : Packet}
      → GoesPast insns link_type capture r t p s u q
      → Skips insns link_type capture s s' u u' q q'
      → GoesPast insns link_type capture r t p s' u' q'

-- units without a packet and rejected packets are skipped, and then the search ends
pub record SearchLeaves (insns : List Insn) (link_type : ℕ) (capture : List ℕ) (r r' : Reader)
    (t t' : List Interface) (p p' : Packet) (number : ℕ) : Type 0 where
  pub between : Reader
  pub table : List Interface
  pub packet : Packet
  pub goes : GoesPast insns link_type capture r t p between table packet
  pub ends : Ends insns link_type capture between r' table t' packet p' number

-- One step of a search, and what is known of its instructions.
use Rattle.std.specs.Prelude.{ℕ, List}
use Rattle.flt_bpf.specs.{Valid.IsValid, declared.insn.Insn.Insn}
use Rattle.capkit_c.specs.Matching.{Ends, EndsBy, IsRejected, Skips}
use Rattle.capkit_c.specs.declared.matching.{Known.Known, SearchStep.SearchStep}
use Rattle.capkit_c.specs.declared.memory.layout.{Interface.Interface, Packet.Packet, Reader.Reader}

-- instructions that are known to be valid are
abbrev pub IsKnown : List Insn → Known → Type 0
IsKnown insns Known.Valid = IsValid insns
IsKnown insns known = Unit {0}

-- a packet is rejected, or ends the search
abbrev pub JudgedAs : List Insn → (link_type : ℕ) → (capture : List ℕ) → Packet → SearchStep
    → Type 0
JudgedAs insns link_type capture p (SearchStep.More steps) = IsRejected insns link_type capture p
JudgedAs insns link_type capture p (SearchStep.Last number) =
    EndsBy insns link_type capture p number

-- a step, and whether it is the last one
abbrev pub StepLeaves : List Insn → (link_type : ℕ) → (capture : List ℕ) → (r r' : Reader)
    → (t t' : List Interface) → (p p' : Packet) → SearchStep → Type 0
StepLeaves insns link_type capture r r' t t' p p' (SearchStep.More steps) =
    Skips insns link_type capture r r' t t' p p'
StepLeaves insns link_type capture r r' t t' p p' (SearchStep.Last number) =
    Ends insns link_type capture r r' t t' p p' number

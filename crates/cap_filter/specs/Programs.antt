-- What contracts see of an expression with its programs, and how many instructions their runs
-- execute.
use Rattle.std.specs.Prelude.{ℕ, suc, zero, ◌+◌, ◌-◌, ◌^◌, min, List, [], ◌∷◌, length, Option, None, Some}
use Rattle.cap_octet.specs.{Packet.Captured, declared.link.Link.Link}
use Rattle.flt_bpf.specs.Content.{Content}
use Rattle.flt_bpf.specs.{Machine.machine, Machine.Progress, Machine.Answered, Valid.IsValid, declared.insn.Insn.Insn}
use Rattle.flt_ast.specs.Tree.{Expression}
use Rattle.flt_gen.specs.Correct.{IsProgramOf}

-- an expression, and its programs in the order of the links
pub record CompiledView : Type 0 where
  pub tree : Expression
  pub programs : List Content

-- a valid program for an expression on a link: it has at most as many instructions as the
-- expression's bound, and accepts a packet exactly if the expression matches
pub record IsMade (program : Content) (e : Expression) (link : Link) : Type 0 where
  pub valid : IsValid program.insns
  pub right : IsProgramOf program.insns e link

-- one such program for each of some links, in their order
abbrev pub AreMade : Expression → List Link → List Content → Type 0
AreMade e [] [] = Unit {0}
AreMade e [] (program ∷ programs) = ⊥
AreMade e (link ∷ links) [] = ⊥
AreMade e (link ∷ links) (program ∷ programs) = IsMade program e link × AreMade e links programs

-- the number of instructions that a complete run executed; 0 for any other run
abbrev pub steps_of_run : Progress → ℕ
steps_of_run (Answered answer count) = count
steps_of_run _ = 0

-- how a run of a program on a packet ends
abbrev pub met_on : Captured → List Insn → Progress
met_on p prog = machine prog p.bytes p.orig (length prog)

-- a program after a run on a packet: its count of executed instructions grew by those of the run,
-- up to 2^128 - 1
abbrev pub ran_on : Captured → Content → Content
ran_on p program =
    record {
      insns = program.insns;
      spent = min (program.spent + steps_of_run (met_on p program.insns)) (2 ^ 128 - 1);
    }

-- the programs after the one with this index ran on a packet
abbrev pub ran_at : ℕ → Captured → List Content → List Content
ran_at i p [] = []
ran_at zero p (program ∷ programs) = ran_on p program ∷ programs
ran_at (suc i) p (program ∷ programs) = program ∷ ran_at i p programs

-- the number of instructions that the runs of these programs executed
abbrev pub spent_in : List Content → ℕ
spent_in [] = 0
spent_in (program ∷ programs) = program.spent + spent_in programs

-- the programs after the one with this index ran on a packet; without an index none of them ran
abbrev pub ran_if : Option ℕ → Captured → List Content → List Content
ran_if None p programs = programs
ran_if (Some i) p programs = ran_at i p programs

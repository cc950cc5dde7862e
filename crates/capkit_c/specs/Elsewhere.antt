-- Runs of portable programs on libpcap's machine, on Linux's, and from other words in memory.
use Rattle.std.specs.Prelude.{◌≡◌, ◌≢◌, ℕ, zero, suc, ◌+◌, ◌%◌, ◌^◌, nat_lt, if◌then◌else◌, List, length, Option, Some, None, slice_get, replicate, bit_and}
use Rattle.flt_bpf.specs.Instructions.{operation_of}
use Rattle.flt_bpf.specs.Machine.{Next, Goes, Lost, Progress, Stands, progress_after, field, into, with_register, compute, does, machine}
use Rattle.flt_bpf.specs.{Valid.IsValid, Valid.WORDS, declared.insn.Insn.Insn, declared.machine.State.State}
use Rattle.flt_bpf.specs.declared.operation.AluOperation.TheVariants.{ShiftLeft, ShiftRight}
use Rattle.flt_bpf.specs.declared.operation.{Operand.TheVariants.IndexRegister, Operation.Operation}
use Rattle.flt_bpf.specs.declared.operation.Operation.TheVariants.{LoadAbsolute, LoadIndirect, Load, LoadHeaderLength, Compute}
use Rattle.flt_bpf.specs.declared.operation.{Register.TheVariants.Accumulator, Source.TheVariants.Length}
use Rattle.capkit_c.specs.Portable.{sign_bit, portability}

-- a machine, by what each operation does there on a packet of original length n
abbrev pub Machine : Type 0
Machine = Operation → Insn → List ℕ → ℕ → State → Next

-- what an instruction of this operation does on a machine; nothing is defined without an operation
abbrev pub does_on : Machine → Option Operation → Insn → List ℕ → ℕ → State → Next
does_on there None i p n s = Lost
does_on there (Some operation) i p n s = there operation i p n s

-- what the instruction at an index does on a machine; nothing is defined without an instruction
abbrev pub step_on : Machine → Option Insn → List ℕ → ℕ → State → Next
step_on there None p n s = Lost
step_on there (Some i) p n s = does_on there (operation_of i.code) i p n s

-- a run of at most t more instructions on a machine, from an index on, after some number of them
abbrev pub run_on : Machine → List Insn → List ℕ → ℕ → ℕ → ℕ → State → ℕ → Progress
run_on there prog p n zero place s count = Stands place s
run_on there prog p n (suc t) place s count =
    progress_after (run_on there prog p n t) place count
    (step_on there (slice_get prog place) p n s)

-- the state at the start: A and X are 0, and memory has these words
abbrev pub start_with : List ℕ → State
start_with words = record { accumulator = 0; index = 0; memory = words }

-- state or result of a program after at most t instructions, on a packet of original length n, on a
-- machine whose memory has these words at the start
abbrev pub outcome_on : Machine → List ℕ → List Insn → List ℕ → ℕ → ℕ → Progress
outcome_on there words prog p n t = run_on there prog p n t 0 (start_with words) 0

-- on every packet, a program returns on a machine what it returns here with zeros in memory, after
-- as many instructions, whatever the 16 words of memory are at the start
abbrev pub ReturnsTheSame : Machine → List Insn → Type 0
ReturnsTheSame there insns =
    (words p : List ℕ) (n : ℕ) → length words ≡ WORDS
    → outcome_on there words insns p n (length insns) ≡ machine insns p n (length insns)

-- libpcap's machine: an indexed load adds X and k without wrapping at 2^32
abbrev pub on_libpcap : Machine
on_libpcap (LoadIndirect width) i p n s = into Accumulator (field p (s.index + i.k) width) s
on_libpcap operation i p n s = does operation i p n s

-- a load on Linux, by its offset: from 2^31 on it does something else
abbrev pub load_on_linux : Machine → ℕ → Machine
load_on_linux other at operation i p n s =
    if nat_lt at sign_bit then does operation i p n s else other operation i p n s

-- Linux's machine: loads from 2^31 on do something else, whatever it is; the length is the captured
-- one; a shift by X is one by X modulo 32
abbrev pub on_linux : Machine → Machine
on_linux other (LoadAbsolute width) i p n s = load_on_linux other i.k (LoadAbsolute width) i p n s
on_linux other LoadHeaderLength i p n s = load_on_linux other i.k LoadHeaderLength i p n s
on_linux other (LoadIndirect width) i p n s =
    load_on_linux other ((s.index + i.k) % 2 ^ 32) (LoadIndirect width) i p n s
on_linux other (Load register Length) i p n s = Goes 0 (with_register register (length p) s)
on_linux other (Compute ShiftLeft IndexRegister) i p n s =
    into Accumulator (compute ShiftLeft s.accumulator (s.index % 32)) s
on_linux other (Compute ShiftRight IndexRegister) i p n s =
    into Accumulator (compute ShiftRight s.accumulator (s.index % 32)) s
on_linux other operation i p n s = does operation i p n s

-- The machine here, with zeros in memory, is one of these: every run is the same.
abbrev pub HereFromZeros : Type 0
HereFromZeros =
    (insns : List Insn) (p : List ℕ) (n t : ℕ)
    → outcome_on does (replicate WORDS 0) insns p n t ≡ machine insns p n t

-- A valid program that has any of the bits returns the same here for all words in memory at the
-- start.
abbrev pub SameFromAnyWords : Type 0
SameFromAnyWords =
    (insns : List Insn) → IsValid insns → portability insns ≢ 0 → ReturnsTheSame does insns

-- A valid program that has libpcap's bit, 1, returns the same on libpcap's machine.
abbrev pub SameOnLibpcap : Type 0
SameOnLibpcap =
    (insns : List Insn) → IsValid insns → bit_and (portability insns) 1 ≡ 1
    → ReturnsTheSame on_libpcap insns

-- A valid program that has Linux's bit, 2, returns the same on Linux's machine, whatever its loads
-- from 2^31 on do.
abbrev pub SameOnLinux : Type 0
SameOnLinux =
    (insns : List Insn) (other : Machine) → IsValid insns → bit_and (portability insns) 2 ≡ 2
    → ReturnsTheSame (on_linux other) insns

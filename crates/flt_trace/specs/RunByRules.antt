-- A run of unchecked instructions: each is checked against the rules just before it is executed.
use Rattle.std.specs.Prelude.{◌≡◌, ℕ, zero, suc, ◌+◌, ◌-◌, List, length, Option, Some, None, slice_get, IsSomeAnd}
use Rattle.flt_bpf.specs.{Check.fault_of, Instructions.operation_of}
use Rattle.flt_bpf.specs.Machine.{Next, Lost, Progress, Stands, Answered, Stuck, step, progress_after, start, machine}
use Rattle.flt_bpf.specs.Valid.{OperationBreaks}
use Rattle.flt_bpf.specs.declared.{fault.CheckFault.CheckFault, insn.Insn.Insn, machine.State.State}

-- the result of an instruction; if it breaks a rule, the machine gets stuck
abbrev pub step_unless : Option CheckFault → Insn → List ℕ → ℕ → State → Next
step_unless (Some fault) i p n s = Lost
step_unless None i p n s = step i p n s

-- the result of the instruction at an index, if there is one and it breaks no rule; else the
-- machine gets stuck
abbrev pub step_by_rules : List Insn → ℕ → Option Insn → List ℕ → ℕ → State → Next
step_by_rules prog place None p n s = Lost
step_by_rules prog place (Some i) p n s =
    step_unless (fault_of i (length prog - (place + 1))) i p n s

-- the progress of at most t more instructions, from an index on, after a count of them
abbrev pub by_rules_from : List Insn → List ℕ → ℕ → ℕ → ℕ → State → ℕ → Progress
by_rules_from prog p n zero place s count = Stands place s
by_rules_from prog p n (suc t) place s count =
    progress_after (by_rules_from prog p n t) place count
    (step_by_rules prog place (slice_get prog place) p n s)

-- the result of a run, and the count of instructions executed; None if it returned nothing
abbrev pub run_end : Progress → Option (ℕ × ℕ)
run_end (Answered answer count) = Some (answer, count)
run_end (Stands place s) = None
run_end Stuck = None

-- result and count of a run on a packet of original length n; None if it reaches an instruction
-- that breaks a rule, or goes past the end
abbrev pub run_by_rules : List Insn → List ℕ → ℕ → Option (ℕ × ℕ)
run_by_rules prog p n = run_end (by_rules_from prog p n (length prog) 0 start 0)

-- the instruction at an index breaks a rule on single instructions
abbrev pub BreaksRuleAt : List Insn → CheckFault → ℕ → Type 0
BreaksRuleAt prog fault place =
    IsSomeAnd (slice_get prog place)
    (λ i. OperationBreaks fault (operation_of i.code) i place (length prog))

-- the machine's run reaches no instruction that breaks a rule
abbrev pub MeetsNoBrokenRule : List Insn → List ℕ → ℕ → Type 0
MeetsNoBrokenRule prog p n =
    (t place : ℕ) (s : State) (fault : CheckFault) → machine prog p n t ≡ Stands place s
    → ¬ BreaksRuleAt prog fault place

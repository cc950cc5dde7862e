-- The result of a check and a run for C.
use Rattle.std.specs.Prelude.{◌≡◌, ℕ, ◌+◌, List, length, Some, None}
use Rattle.flt_bpf.specs.{Machine.machine, Machine.Answered, Valid.IsValid, Valid.BreaksFirst, Valid.check_number}
use Rattle.flt_bpf.specs.declared.{fault.CheckFault.CheckFault, insn.Insn.Insn}
use Rattle.flt_trace.specs.RunByRules.{run_by_rules}
use Rattle.capkit_c.specs.Texts.{RULES}

-- the numbers of rules, 101 to 108
abbrev pub rule_number : CheckFault → ℕ
rule_number fault = RULES + check_number fault

-- 0 for a valid program; else the number of the first rule that the instructions break, and the
-- index at which they do
pub data CheckLeaves (insns : List Insn) (index : ℕ) : ℕ → Type 0 where
  passes : IsValid insns → index ≡ 0 → CheckLeaves insns index 0
  breaks : {status : ℕ} (fault : CheckFault) → status ≡ rule_number fault
      → BreaksFirst insns fault index → CheckLeaves insns index status

-- what the machine returns, and the number of its steps, if a run breaks no rule; otherwise both
-- are 0: the run breaks a rule or continues past the end, which a valid program never does
pub data RunLeaves (insns : List Insn) (p : List ℕ) (n answer steps : ℕ) : Type 0 where
  answers : run_by_rules insns p n ≡ Some (answer, steps)
      → machine insns p n (length insns) ≡ Answered answer steps
      → RunLeaves insns p n answer steps
  stops : run_by_rules insns p n ≡ None → ¬ IsValid insns → answer ≡ 0 → steps ≡ 0
      → RunLeaves insns p n answer steps

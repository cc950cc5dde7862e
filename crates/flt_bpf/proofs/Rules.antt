-- The check of one instruction finds a fault if and only if the instruction breaks that rule.
use Rattle.std.proofs.Common.{◌≡◌, ℕ, ◌+◌, ◌-◌, ◌<◌, Option, Some, arith}
use Rattle.flt_bpf.proofs.Common.{nat_tests, Insn, CheckFault, Operation, operation_of}
use Rattle.flt_bpf.specs.{Check.fault_if_known, Check.fault_of, Valid.OperationBreaks}

-- a fault that was found is a rule that is broken
found_breaks_if : (o : Option Operation) (i : Insn) (at len : ℕ) (f : CheckFault) → at < len → fault_if_known o i (len - (at + 1)) ≡ Some f
    → OperationBreaks f o i at len
found_breaks_if o i at len f l e = grind (arith, nat_tests)

pub found_breaks : (i : Insn) (at len : ℕ) (f : CheckFault) → at < len → fault_of i (len - (at + 1)) ≡ Some f → OperationBreaks f (operation_of i.code) i at len
unfolding fault_of
found_breaks i at len f l e = found_breaks_if (operation_of i.code) i at len f l e

-- a rule that is broken is the fault that is found
breaks_found_if : (f : CheckFault) (o : Option Operation) (i : Insn) (at len : ℕ) → at < len → OperationBreaks f o i at len
    → fault_if_known o i (len - (at + 1)) ≡ Some f
breaks_found_if f o i at len l h = grind (arith, nat_tests)

pub breaks_found : (f : CheckFault) (i : Insn) (at len : ℕ) → at < len → OperationBreaks f (operation_of i.code) i at len → fault_of i (len - (at + 1)) ≡ Some f
unfolding fault_of
breaks_found f i at len l h = breaks_found_if f (operation_of i.code) i at len l h

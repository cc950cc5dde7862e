-- The result of a call that emits code in front of existing code.
use Rattle.std.specs.Prelude.{◌≡◌, ℕ, List, Result, IfOk}
use Rattle.std.specs.declared.alloc.AllocError.{AllocError}
use Rattle.flt_bpf.specs.declared.insn.Insn.{Insn}
use Rattle.cap_octet.specs.declared.link.Link.{Link}
use Rattle.flt_gen.specs.{Formula.Formula, declared.code.Targets.Targets}
use Rattle.flt_gen.specs.inside.Code.{Block, block, emit_formula}

-- if the call succeeds, the code is that of the block, whose entry the call returns;
-- nothing is said of a call that fails
abbrev pub Emits : Result ℕ AllocError → Block → List Insn → Type 0
Emits result e after = IfOk result (λ entry. e ≡ block after entry)

-- the call emits the code of a formula, which goes on at these targets
abbrev pub EmitsFormula : Link → Formula → Targets → List Insn → Result ℕ AllocError → List Insn
    → Type 0
EmitsFormula link f to before result after =
    Emits result (emit_formula link f to.yes to.no before) after

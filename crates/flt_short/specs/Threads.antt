-- What is kept of code once the targets of its tests are others: what it does, and more.
use Rattle.std.specs.Prelude.{◌≡◌, ℕ, List, length, count_by}
use Rattle.flt_bpf.specs.{Answer.answer_of, Check.IsValidUnlessLong, Instructions.operation_of}
use Rattle.flt_bpf.specs.{Layout.is_branch, Layout.HasNoJump, Machine.start}
use Rattle.flt_bpf.specs.declared.insn.Insn.{Insn}

-- code instead of old code: it has as many instructions and tests, it returns the same on each
-- packet; if the old code breaks no rule but perhaps that on the length, nor does it, and if that
-- has no jump, it has none
pub record Threads (new old : List Insn) : Type 0 where
  pub same_length : length new ≡ length old
  pub branches : count_by (λ i. is_branch (operation_of i.code)) new
      ≡ count_by (λ i. is_branch (operation_of i.code)) old
  pub sound : IsValidUnlessLong old → IsValidUnlessLong new
  pub runs : (p : List ℕ) (n : ℕ) → answer_of new p n 0 start ≡ answer_of old p n 0 start
  pub no_jump : HasNoJump old → HasNoJump new

-- How the instructions of a program replace those of another one that does the same with as many of
-- them or more.
use Rattle.std.specs.Prelude.{◌≡◌, ℕ, ◌≤◌, List, length, count_by}
use Rattle.flt_bpf.specs.{Instructions.operation_of, Machine.machine, Machine.Answered}
use Rattle.flt_bpf.specs.{Layout.is_branch, Layout.HasNoJump, Layout.JumpsAreNeeded, Valid.IsValid}
use Rattle.flt_bpf.specs.declared.insn.Insn.{Insn}

-- on a packet `p` of original length n a run of a program reaches this answer in at most `most`
-- instructions, and in no more than the program has
pub record Comes (prog : List Insn) (p : List ℕ) (n answer most : ℕ) : Type 0 where
  pub count : ℕ
  pub answered : machine prog p n (length prog) ≡ Answered answer count
  pub upper_bound : count ≤ most
  pub inside : count ≤ length prog

-- a program instead of an old one: it is no longer, has no more tests, and on each packet on which
-- the old one returns it returns the same, in no more instructions; it is valid if the old one
-- is, and has no `ja` that isn't needed, or none, if that is true of the old one
pub record Shortens (new old : List Insn) : Type 0 where
  pub shorter : length new ≤ length old
  pub fewer : count_by (λ i. is_branch (operation_of i.code)) new
      ≤ count_by (λ i. is_branch (operation_of i.code)) old
  pub valid : IsValid old → IsValid new
  pub runs : (p : List ℕ) (n answer count : ℕ)
      → machine old p n (length old) ≡ Answered answer count → Comes new p n answer count
  pub needed : JumpsAreNeeded old → JumpsAreNeeded new
  pub no_jump : HasNoJump old → HasNoJump new

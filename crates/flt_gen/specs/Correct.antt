-- What is asked of a generated program.
use Rattle.std.specs.Prelude.{◌≡◌, ◌≢◌, ◌↔◌, ℕ, ◌≤◌, List, length}
use Rattle.flt_bpf.specs.{Machine.machine, Machine.Answered, declared.insn.Insn.Insn}
use Rattle.flt_ast.specs.{Counts.bound_of, Tree.Expression}
use Rattle.cap_octet.specs.declared.link.Link.{Link}
use Rattle.flt_gen.specs.{Elementary.Yes, Reading.holds}

-- a run on the captured bytes p of a packet of original length n reaches an answer, which is other
-- than 0 exactly if the expression matches
pub record Decides (prog : List Insn) (e : Expression) (link : Link) (p : List ℕ)
    (n : ℕ) : Type 0 where
  pub answer : ℕ
  pub count : ℕ
  pub answered : machine prog p n (length prog) ≡ Answered answer count
  pub upper_bound : count ≤ length prog
  pub right : (answer ≢ 0) ↔ (holds e link p n ≡ Yes)

-- a program for an expression: it has at most as many instructions as the bound says, and decides
-- each packet
pub record IsProgramOf (prog : List Insn) (e : Expression) (link : Link) : Type 0 where
  pub bounded : length prog ≤ bound_of e
  pub decides : (p : List ℕ) (n : ℕ) → Decides prog e link p n

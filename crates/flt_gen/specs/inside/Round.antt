-- A round of the optimiser.
use Rattle.std.specs.Prelude.{List}
use Rattle.flt_bpf.specs.declared.insn.Insn.{Insn}
use Rattle.flt_short.specs.{Alike.Shortens, Threads.Threads}

-- new code is old code, threaded and then shortened; perhaps without any change
pub record IsRound (new old : List Insn) : Type 0 where
  pub moved : List Insn
  pub threads : Threads moved old
  pub shortens : Shortens new moved

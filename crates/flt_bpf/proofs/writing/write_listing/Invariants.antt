-- Before each instruction, the listing of those before it is written.
use Rattle.std.proofs.Common.{◌≡◌, ◌+◌, ◌*◌, ◌≤◌, ◌++◌, IsTrue}
use Rattle.flt_bpf.proofs.{Common.length, Assembling.front_of}
use Rattle.flt_bpf.proofs.writing.write_listing.Given as goal

abbrev pub invariant-loop-insn : goal.invariant-loop-insn
invariant-loop-insn g l = record {
  bounded : l.written ≤ 25 * (l.insn-index + 1);
  size : l.written ≡ length (front_of l.insns l.insn-index);
  failed : g.O.Output.failures l.output ≡ g.O.Output.failures l.fn.output;
  room : g.O.Output.room l.output ≡ g.O.Output.room l.fn.output;
  exact : IsTrue g.O.Output.tells → g.O.Output.written l.output ≡ g.O.Output.written l.fn.output ++ front_of l.insns l.insn-index;
}

-- What is done so far.
use Rattle.std.proofs.Common.{◌≡◌, length}
use Rattle.flt_short.proofs.Threading.{ThreadedSoFar}
use Rattle.flt_short.proofs.thread.thread_all.Given as goal

abbrev pub invariant-loop-at : goal.invariant-loop-at
invariant-loop-at l = record {
  shape : length l.insns ≡ length l.initial.insns;
  so_far : ThreadedSoFar l.initial.seen l.initial.insns l.seen l.insns l.at;
}

-- The height and the greatest height so far.
use Rattle.std.proofs.Common.{◌≡◌, ◌≤◌, fold, take}
use Rattle.flt_lang.proofs.Common.{climb}
use Rattle.flt_lang.proofs.counts.most_waiting.Given as goal

abbrev pub invariant-loop-node : goal.invariant-loop-node
invariant-loop-node l = record {
  so_far : fold climb (0, 1) (take l.node-index l.nodes) ≡ (l.height, l.highest);
  upper_bound : l.height ≤ l.node-index;
}

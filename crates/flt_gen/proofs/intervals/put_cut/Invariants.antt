-- What is cut and put so far, and the rest after it.
use Rattle.flt_gen.proofs.Common.{◌≡◌, ◌++◌, drop, map, cut, without}
use Rattle.flt_gen.proofs.intervals.put_cut.Given as goal

abbrev pub invariant-loop-item : goal.invariant-loop-item
invariant-loop-item g l = record {
  all : l.all.items ++ map (cut l.last) (drop l.item-index l.items) ≡ map (cut l.last) l.items;
  others : l.others.items ++ without l.first (map (cut l.last) (drop l.item-index l.items)) ≡ without l.first (map (cut l.last) l.items);
}

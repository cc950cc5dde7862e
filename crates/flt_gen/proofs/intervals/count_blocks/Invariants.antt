-- The blocks so far are counted.
use Rattle.std.proofs.Common.{◌≡◌, ◌≤◌, count_by, take}
use Rattle.flt_gen.specs.inside.Intervals.{is_block}
use Rattle.flt_gen.proofs.intervals.count_blocks.Given as goal

abbrev pub invariant-loop-item : goal.invariant-loop-item
invariant-loop-item l = record { single : l.blocks ≡ count_by (is_block l.last) (take l.item-index l.items); within : l.blocks ≤ l.item-index }

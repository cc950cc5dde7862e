-- The mark isn't in the window from place `limit` on.
use Rattle.std.proofs.Common.{◌+◌, ◌≤◌, length}
use Rattle.cap_process.specs.inside.Index.{IsWay, Lacks}
use Rattle.cap_process.proofs.window.Window.contains.Given as goal

abbrev pub decreases-loop-step : goal.decreases-loop-step
decreases-loop-step g l = l.limit

abbrev pub invariant-loop-step : goal.invariant-loop-step
invariant-loop-step g l =
    let w = l.self-inside in
    record {
      way : IsWay w.mask w.marks.items w.links.items l.mark l.depth l.limit l.step;
      lacks : Lacks w.marks.items l.mark l.limit;
      within : l.depth + l.limit ≤ length w.marks.items;
    }

-- What is left to compare decides.
use Rattle.std.proofs.Common.{◌≡◌, drop}
use Rattle.flt_short.specs.inside.Alike.{are_alike}
use Rattle.flt_short.proofs.alike.are_alike.Given as goal

abbrev pub invariant-loop-at : goal.invariant-loop-at
invariant-loop-at l =
    are_alike l.code (drop l.at l.old) (drop l.at l.landings) ≡ are_alike l.code l.old l.landings

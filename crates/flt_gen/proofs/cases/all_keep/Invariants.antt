-- The cases so far keep it.
use Rattle.std.proofs.Common.{◌≡◌, true, take}
use Rattle.flt_gen.specs.inside.Cases.{case_tests, all_keep}
use Rattle.flt_gen.proofs.cases.all_keep.Given as goal

abbrev pub invariant-loop-case : goal.invariant-loop-case
invariant-loop-case l = all_keep (case_tests l.link l.direction) l.word l.bound (take l.case-index l.cases) ≡ true

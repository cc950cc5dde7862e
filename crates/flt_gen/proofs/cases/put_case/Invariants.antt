-- The cases so far that ascend before the new one are counted.
use Rattle.std.{proofs.Common.◌≡◌, proofs.Common.◌≤◌, proofs.Common.count_by, proofs.Common.take, specs.Prelude.nat_lt}
use Rattle.flt_gen.specs.inside.Cases.{key_of}
use Rattle.flt_gen.proofs.cases.put_case.Given as goal

abbrev pub invariant-loop-case : goal.invariant-loop-case
invariant-loop-case g l = record {
  lower : l.at ≡ count_by (λ c. nat_lt (key_of c) (key_of l.new)) (take l.case-index l.case-items);
  within : l.at ≤ l.case-index;
}

-- The cases so far are counted.
use Rattle.std.{proofs.Common.◌≡◌, proofs.Common.◌≤◌, proofs.Common.count_by, proofs.Common.take, specs.Prelude.nat_lt}
use Rattle.flt_gen.specs.inside.Cases.{case_tests, word_test, lowest}
use Rattle.flt_gen.proofs.cases.count_lower.Given as goal

abbrev pub invariant-loop-case : goal.invariant-loop-case
invariant-loop-case l = record {
  lower : l.count ≡ count_by (λ c. nat_lt (lowest (word_test (case_tests l.link l.direction) l.word c)) l.number) (take l.case-index l.cases);
  within : l.count ≤ l.case-index;
}

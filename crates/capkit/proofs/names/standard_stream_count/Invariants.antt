-- The standard streams among the names so far are counted.
use Rattle.capkit.proofs.Common.{◌≡◌, ◌≤◌, take, count_by}
use Rattle.capkit.specs.Names.{is_standard}
use Rattle.capkit.proofs.names.standard_stream_count.Given as goal

abbrev pub invariant-loop-name : goal.invariant-loop-name
invariant-loop-name l = record {
  counted : l.count ≡ count_by (λ name. is_standard name.now) (take l.name-index l.names);
  within : l.count ≤ l.name-index;
}

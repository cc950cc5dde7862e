-- The law is a lemma on merges.
use Rattle.cap_io.proofs.Merging.{merges-sort}
use Rattle.cap_io.proofs.laws.merges_sort.Goals as goal

pub returns : goal.returns
returns c = merges-sort

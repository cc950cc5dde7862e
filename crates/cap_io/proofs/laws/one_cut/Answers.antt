-- The law is a lemma on dividing a file into units.
use Rattle.cap_io.proofs.Cuts.{has_cut, one_cut, cut_tells}
use Rattle.cap_io.proofs.laws.one_cut.Goals as goal

pub returns : goal.returns
returns c = record { some = has_cut; one = one_cut; items = cut_tells }

-- A tree that is read from a text can be written, by the lemma on trees.
use Rattle.flt_explain.proofs.WritableTrees as proved
use Rattle.flt_explain.proofs.laws.writable.Goals as goal

pub returns : goal.returns
returns c = λ text tokens tree are reads. proved.writable text tokens tree are reads

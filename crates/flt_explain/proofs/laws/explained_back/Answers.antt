-- The text of the tokens is read as these tokens, and they as the tree.
use Rattle.flt_explain.proofs.ReadBack as proved
use Rattle.flt_explain.proofs.laws.explained_back.Goals as goal

pub returns : goal.returns
returns c = λ tree writes resolved small. proved.explained_back tree writes resolved small

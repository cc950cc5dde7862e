-- The inputs so far are open.
use Rattle.capkit.proofs.Common.{◌≡◌, vec_len}
use Rattle.capkit.proofs.opening.open_inputs.Given as goal

abbrev pub invariant-loop-name : goal.invariant-loop-name
invariant-loop-name l = vec_len l.inputs ≡ l.name-index

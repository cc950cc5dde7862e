-- What is read from the end on has no fault, and no jump.
use Rattle.std.proofs.Common.{drop}
use Rattle.flt_bpf.specs.{Check.IsFaultless, Layout.HasNoJump}
use Rattle.flt_short.proofs.alike.are_faultless.Given as goal

abbrev pub invariant-loop-at : goal.invariant-loop-at
invariant-loop-at l = IsFaultless (drop l.at l.code) × HasNoJump (drop l.at l.code)

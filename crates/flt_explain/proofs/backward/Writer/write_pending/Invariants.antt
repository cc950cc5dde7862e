-- Writing what is still pending gives the same as writing all of it.
use Rattle.std.proofs.Common.{◌≡◌, length}
use Rattle.flt_explain.specs.inside.Backward.{write_pending}
use Rattle.flt_explain.proofs.backward.Writer.write_pending.Given as goal

abbrev pub invariant-loop-pending : goal.invariant-loop-pending
invariant-loop-pending g l =
    write_pending l.self.pending l.self.tokens ≡ write_pending l.fn.self.pending l.fn.self.tokens

abbrev pub decreases-loop-pending : goal.decreases-loop-pending
decreases-loop-pending g l = length l.self.pending

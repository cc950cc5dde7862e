-- Reducing the remaining frames gives the same as reducing all of them.
use Rattle.std.proofs.Common.{◌≡◌, length}
use Rattle.flt_lang.specs.inside.Parser.{reduce}
use Rattle.flt_lang.proofs.reader.Reader.reduce.Given as goal

abbrev pub invariant-loop-frame : goal.invariant-loop-frame
invariant-loop-frame g l =
    reduce l.limit l.self.frames l.operand l.self.nodes ≡ reduce l.fn.limit l.fn.self.frames l.fn.operand l.fn.self.nodes

abbrev pub decreases-loop-frame : goal.decreases-loop-frame
decreases-loop-frame g l = length l.self.frames

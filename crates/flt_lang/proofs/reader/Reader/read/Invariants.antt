-- Reading the remaining tokens gives the same as reading all of them.
use Rattle.std.proofs.Common.{◌≡◌, ◌-◌, ◌≤◌, length, drop}
use Rattle.flt_lang.specs.{Grammar.kinds_of, inside.Parser.run, inside.Parser.nodes_of_tokens}
use Rattle.flt_lang.proofs.reader.Reader.read.Given as goal

abbrev pub invariant-loop-at : goal.invariant-loop-at
invariant-loop-at g l = record {
  in_range : l.at ≤ length l.tokens;
  runs : run (kinds_of (drop l.at l.tokens)) 0 l.self.frames l.operand l.self.nodes ≡ nodes_of_tokens (kinds_of l.tokens);
}

abbrev pub decreases-loop-at : goal.decreases-loop-at
decreases-loop-at g l = length l.tokens - l.at

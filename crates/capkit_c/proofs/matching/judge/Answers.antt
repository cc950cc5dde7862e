-- A program accepts a packet if it returns any number but 0.
use Rattle.std.proofs.Common.{arith, refl}
use Rattle.capkit_c.specs.Matching.{accepted}
use Rattle.capkit_c.proofs.matching.judge.Goals as goal

pub returns-else-answer-eq0 : goal.returns-else-answer-eq0
returns-else-answer-eq0 c = accepted c.verdict-answer.result.0 (omega arith) c.verdict-answer.ensures (omega arith) refl

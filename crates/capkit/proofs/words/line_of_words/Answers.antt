-- The line is that of the words, and may be run.
use Rattle.capkit.{proofs.Common.subst, specs.Line.SaysLine}
use Rattle.capkit.proofs.words.line_of_words.Goals as goal

pub returns-clause-ready : goal.returns-clause-ready
returns-clause-ready c = c.in_ok-line.ensures.ready

pub returns-clause-line : goal.returns-clause-line
returns-clause-line c = subst (λ words. SaysLine words c.in_ok-line.line) c.in_ok-words.ensures c.in_ok-line.ensures.line

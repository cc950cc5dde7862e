-- The line of a report has the names of the words, and may be run.
use Rattle.capkit.proofs.Common.{refl, and_from}
use Rattle.capkit.proofs.merge_line.infos_line.Goals as goal

pub returns-clause-line : goal.returns-clause-line
returns-clause-line c = record {
  command = refl;
  inputs = c.in_ok-inputs.ensures.names;
  output = refl;
  code = refl;
}

pub returns-clause-ready : goal.returns-clause-ready
returns-clause-ready c = and_from _ _ c.in_ok-inputs.ensures.count refl

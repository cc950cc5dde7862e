-- The line of a merge has the options and names of the words, and may be run.
use Rattle.capkit.proofs.Common.{◌∙◌, ap, refl, Some, and_from}
use Rattle.capkit.proofs.merge_line.merge_line.Goals as goal

pub returns-clause-line : goal.returns-clause-line
returns-clause-line c = record {
  merge = _;
  command = refl;
  append = c.flag.ensures;
  format = c.format.ensures;
  inputs = c.in_ok-inputs.ensures.names;
  output = ap Some (c.in_ok-output.ensures.ok ∙ c.text-output.ensures);
  code = refl;
}

pub returns-clause-ready : goal.returns-clause-ready
returns-clause-ready c = and_from _ _ c.in_ok-inputs.ensures.count refl

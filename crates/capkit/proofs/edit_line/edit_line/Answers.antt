-- The line of an edit has the options, ranges and names of the words, and may be run.
use Rattle.capkit.proofs.Common.{◌∙◌, ◌∷◌, [], ap, refl, map, Some, and_from, eq-eqb, range_of}
use Rattle.capkit.proofs.edit_line.edit_line.Goals as goal

pub returns-clause-line : goal.returns-clause-line
returns-clause-line c = record {
  edit = _;
  command = refl;
  ranges = ap (λ ranges. map Some ranges.items) c.edit_of.ensures.ranges ∙ c.in_ok-ranges.ensures.ranges ∙ ap (map range_of) c.texts.ensures;
  options = c.edit_of.ensures.options;
  inputs = c.in_ok-inputs.ensures.texts ∙ ap (λ name. name ∷ []) c.text-2.ensures;
  output = ap Some (c.in_ok-output.ensures.ok ∙ c.text.ensures);
  code = refl;
}

pub returns-clause-ready : goal.returns-clause-ready
returns-clause-ready c = and_from _ _ (and_from _ _ (eq-eqb _ 1 c.in_ok-inputs.ensures.count) c.edit_of.ensures.proper) refl

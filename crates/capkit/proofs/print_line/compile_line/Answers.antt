-- The line of a compilation has the expression and link type of the words.
use Rattle.capkit.proofs.Common.{refl}
use Rattle.capkit.proofs.print_line.compile_line.Goals as goal

pub returns-clause-line : goal.returns-clause-line
returns-clause-line c = record {
  compile = _;
  command = refl;
  expr = c.in_ok-expression_text.ensures;
  link = c.link.ensures;
  inputs = c.new.ensures.items;
  output = refl;
  code = refl;
}

-- The line of a print has the options, expression and names of the words, and may be run.
use Rattle.capkit.proofs.Common.{◌∙◌, ◌∷◌, [], ap, refl, string_bytes}
use Rattle.capkit.proofs.PrintReady.{ready}
use Rattle.capkit.proofs.print_line.print_line.Goals as goal

pub returns-clause-line : goal.returns-clause-line
returns-clause-line c = record {
  print = _;
  command = refl;
  expr = ap string_bytes c.print_of.ensures.expr ∙ c.in_ok-expr.ensures;
  unread = c.print_of.ensures.unread;
  count = c.print_of.ensures.count;
  link = c.print_of.ensures.link;
  bytes = c.print_of.ensures.bytes;
  write = c.print_of.ensures.write;
  inputs = c.in_ok-inputs.ensures.texts ∙ ap (λ name. name ∷ []) c.text.ensures;
  output = c.in_ok-output.ensures ∙ c.optional_text.ensures;
  code = c.in_ok-code.ensures ∙ c.optional_text-2.ensures;
}

pub returns-clause-ready : goal.returns-clause-ready
unfolding returns-clause-line
returns-clause-ready c = ready _ _ (returns-clause-line c) c.in_ok-check_print.ensures.passes c.in_ok-inputs.ensures.count c.print_of.ensures.proper

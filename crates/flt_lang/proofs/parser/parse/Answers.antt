-- Deep nesting is refused first, and then come the parser's other faults.
use Rattle.std.proofs.Common.{refl, sym, ◌∙◌, inl}
use Rattle.flt_lang.proofs.{Common.false≢true, Stepping.parse_fault, Stepping.not_too_deep}
use Rattle.flt_lang.proofs.parser.parse.Goals as goal

pub returns-then-is_nested_too_deep : goal.returns-then-is_nested_too_deep
returns-then-is_nested_too_deep g c = record {
  deep = (λ _. c.is_nested_too_deep.ensures.0 c.if-is_nested_too_deep.true, λ _. refl);
  ok = tt;
  none =
      λ e. cc;
  err = inl refl;
}

pub returns : goal.returns
returns g c =
    let told = c.read_tree.ensures in
    record {
      deep = (
        λ e. absurd (not_too_deep c.read_tree.result told.err e),
        λ t. absurd (false≢true (sym c.if-is_nested_too_deep.false ∙ c.is_nested_too_deep.ensures.1 t)),
      );
      ok = told.ok;
      none = told.none;
      err =
          parse_fault c.read_tree.result told.err;
    }

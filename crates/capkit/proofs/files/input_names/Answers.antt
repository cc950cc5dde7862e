-- Too many inputs, or a name that is used twice, are refused; otherwise the names are those of the
-- words.
use Rattle.capkit.proofs.Common.{◌∙◌, ◌∷◌, sym, inl, inr, arith, refl, common_steps, err_from_is_err_and}
use Rattle.std.proofs.Common.{ap₂, option_map}
use Rattle.capkit.proofs.RangeWords.{faultless, text_of, too_many_files, used_twice}
use Rattle.capkit.proofs.files.input_names.Goals as goal

pub returns-in_err-inputs-clause-fault : goal.returns-in_err-inputs-clause-fault
returns-in_err-inputs-clause-fault c =
    let p = err_from_is_err_and c.from_residual.result c.from_residual.ensures.1 in
    rw (p.1, p.2) (inl refl)

pub returns-then-more-ge-MOST_INPUTS-clause-fault : goal.returns-then-more-ge-MOST_INPUTS-clause-fault
returns-then-more-ge-MOST_INPUTS-clause-fault c =
    inr (too_many_files (c.text-first.result ∷ c.texts-more.result.now) _ (option_map text_of c.args.output)
    (ap₂ (λ name names. name ∷ names) c.text-first.ensures c.texts-more.ensures) (omega arith))

pub returns-then-uses_name_twice-clause-fault : goal.returns-then-uses_name_twice-clause-fault
returns-then-uses_name_twice-clause-fault c =
    inr (used_twice (c.text-first.result ∷ c.texts-more.result.now) _ (option_map text_of c.args.output)
    (ap₂ (λ name names. name ∷ names) c.text-first.ensures c.texts-more.ensures) (omega arith) (sym c.uses_name_twice.ensures ∙ c.if-uses_name_twice.true))

pub returns-clause-faultless : goal.returns-clause-faultless
returns-clause-faultless c =
    faultless (c.text-first.result ∷ c.texts-more.result.now) _ (option_map text_of c.args.output)
    (ap₂ (λ name names. name ∷ names) c.text-first.ensures c.texts-more.ensures) (omega arith) (sym c.uses_name_twice.ensures ∙ c.if-uses_name_twice.false)

pub returns-clause-names : goal.returns-clause-names
returns-clause-names c = c.in_ok-inputs.ensures.texts ∙ ap₂ (λ name names. name ∷ names) c.text-first.ensures c.texts-more.ensures

pub returns-clause-count : goal.returns-clause-count
returns-clause-count c = grind (arith, common_steps)

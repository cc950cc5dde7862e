-- One more option is read, and the first refused one ends the list.
use Rattle.std.proofs.Common.{◌≡◌, ◌∷◌, ◌∙◌, ap, Ok}
use Rattle.std.proofs.lemmas.Result.{err_from_is_err_and}
use Rattle.cap_pcapng.specs.OptionList.{coded_value, item_of}
use Rattle.cap_pcapng.proofs.{Common.options_left, InterfaceLists.HasRead-more, InterfaceLists.HasRead-refused}
use Rattle.cap_pcapng.proofs.interface.FoundOptions.of_options.Goals as goal

pub loop-option-preserved : goal.loop-option-preserved
loop-option-preserved c =
    let item : options_left c.loop-option.option-iterator ≡ Ok (coded_value c.in_ok-option.field-0) ∷ options_left c.next.new.self =
    c.in-Some.ensures.steps ∙ ap (λ item. item_of item ∷ options_left c.next.new.self) c.in_ok-option.was in
    let exact = c.in_ok-found.ensures in
    (tt, tt, HasRead-more _ _ _ _ _ _ _ c.loop-option.invariant.2 item exact.1 exact.0)

pub returns-in_err-found : goal.returns-in_err-found
returns-in_err-found c =
    let item : options_left c.loop-option.option-iterator ≡ Ok (coded_value c.in_ok-option.field-0) ∷ options_left c.next.new.self =
    c.in-Some.ensures.steps ∙ ap (λ item. item_of item ∷ options_left c.next.new.self) c.in_ok-option.was in
    let p = err_from_is_err_and c.from_residual-in_err-found.result c.from_residual-in_err-found.ensures.1 in
    rw (p.1, p.2) (HasRead-refused _ _ _ _ _ _ _ c.loop-option.invariant.2 item c.in_err-found.ensures)

-- Without a comment so far and with no options left, there is none.
use Rattle.std.proofs.Common.{◌≡◌, [], ◌∷◌, ◌∙◌, ap, sym, rules, IsErr, unwrap_or}
use Rattle.cap_pcapng.proofs.Common.{comment_code, first_value, fitting_options, options_left}
use Rattle.cap_pcapng.proofs.options.Options.comment.Goals.{in_default, in_default-2}
use Rattle.cap_pcapng.{specs.OptionList.item_of, proofs.OptionLists.misfit-fitting_options}
use Rattle.cap_pcapng.proofs.options.Options.comment.Goals as goal

pub returns-clause-value : goal.returns-clause-value
returns-clause-value c =
    let none : fitting_options (options_left c.loop-option.self) ≡ [] =
    elim c.match-next.branch [
      | in_default w ↦
          let misfit : IsErr w.in_default.field-0 = search rules in
          let item : options_left c.loop-option.self ≡ item_of w.in_default.field-0 ∷ options_left c.next.new.self =
          rw w.in_default.is at c.next.ensures.steps in
          misfit-fitting_options _ _ _ w.in_default.field-0 misfit item
      | in_default-2 w ↦
          let over = rw w.in_default.is at c.next.ensures.steps in
          ap fitting_options over.0
    ] in
    sym (ap (λ v. unwrap_or v []) (c.loop-option.invariant ∙ ap (first_value comment_code) none))

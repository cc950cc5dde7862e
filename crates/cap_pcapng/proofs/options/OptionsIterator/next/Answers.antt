-- Each step takes one option from the list, or ends it.
use Rattle.std.proofs.Common.{rules, arith, ◌∷◌, ap, ◌∙◌, sym, Err}
use Rattle.cap_pcapng.proofs.Common.{BadOption}
use Rattle.cap_pcapng.proofs.OptionLists.{options_in-short, options_in-code_end, options_in-past, options_in-next, options_in-none, shorter_by}
use Rattle.cap_pcapng.proofs.options.OptionsIterator.next.Goals as goal

pub returns-then-rest-lt4-clause-steps : goal.returns-then-rest-lt4-clause-steps
returns-then-rest-lt4-clause-steps c =
    let o = c.args.self.now in
    let none = options_in-short o.order o.rest.now c.if-rest-lt4.true in
    (none, none)

pub returns-then-code-eq-END_CODE-clause-steps : goal.returns-then-code-eq-END_CODE-clause-steps
returns-then-code-eq-END_CODE-clause-steps c =
    let o = c.args.self.now in
    let none = options_in-code_end o.order o.rest.now (omega arith) in
    (none, none)

pub returns-then-rest-size-clause-steps : goal.returns-then-rest-size-clause-steps
returns-then-rest-size-clause-steps c =
    let o = c.args.self.now in
    options_in-past o.order o.rest.now (omega arith) (omega arith) (omega arith) ∙ ap (λ items. Err BadOption ∷ items) (sym (options_in-none o.order))

pub returns-then-rest-size-clause-goes : goal.returns-then-rest-size-clause-goes
returns-then-rest-size-clause-goes c =
    let fewer = shorter_by _ _ _ (returns-then-rest-size-clause-steps c) in
    record { on = λ finite. search (rules, fewer); keeps = search rules; rests = search rules }

pub returns-clause-steps : goal.returns-clause-steps
returns-clause-steps c =
    let o = c.args.self.now in
    options_in-next o.order o.rest.now _ _ _ c.u16_at-code.ensures (omega arith) (omega arith) (omega arith) (omega arith) (search rules)

pub returns-clause-goes : goal.returns-clause-goes
returns-clause-goes c =
    let fewer = shorter_by _ _ _ (returns-clause-steps c) in
    record { on = λ finite. search (rules, fewer); keeps = search rules; rests = search rules }

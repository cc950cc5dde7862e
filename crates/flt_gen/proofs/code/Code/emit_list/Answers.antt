-- On either side or not.
use Rattle.flt_gen.proofs.Common.{◌∙◌, sym, ap, subst, Formula}
use Rattle.flt_gen.specs.inside.{Cases.case_tests, Cases.decision, Cases.either_formula, Cases.list_formula, Cases.MOST_DECISIONS, Emits.EmitsFormula}
use Rattle.flt_gen.proofs.code.Code.emit_list.Goals as goal

pub returns-then-are_either : goal.returns-then-are_either
returns-then-are_either g c =
    let a = c.args in let r = c.emit_either in
    let by = ap (λ b. list_formula b a.link a.direction a.first a.cases.now) (sym c.if-are_either.true ∙ c.are_either.ensures) in
    subst (λ (f : Formula). EmitsFormula a.link f a.to a.self.now r.result r.new.self)
    (ap (λ k. either_formula a.link k a.first a.cases.now) c.few_of-few.ensures ∙ by) r.ensures

pub returns : goal.returns
returns g c =
    let a = c.args in let r = c.emit_decision in
    let by = ap (λ b. list_formula b a.link a.direction a.first a.cases.now) (sym c.if-are_either.false ∙ c.are_either.ensures) in
    subst (λ (f : Formula). EmitsFormula a.link f a.to a.self.now r.result r.new.self)
    (ap (λ k. decision k MOST_DECISIONS (case_tests a.link a.direction) 0 a.cases.now) c.few_of-few.ensures ∙ by) r.ensures

-- Members with numbers or cases are looked for together.
use Rattle.flt_gen.proofs.Common.{◌≡◌, ◌∙◌, true, sym, ap, ap₂, subst, if◌then◌else◌, Link, Formula, Group, is_searched, several_formula, rows_formula}
use Rattle.std.specs.Prelude.{Option, Some, None}
use Rattle.flt_gen.{specs.declared.cases.Case.Case, proofs.Common.group_formula, proofs.Common.has_addresses, proofs.Common.sought}
use Rattle.flt_gen.specs.inside.{Cases.cases_formula, Group.has_networks, Group.together_formula, Emits.EmitsFormula}
use Rattle.flt_gen.proofs.group.Group.emit.Goals as goal

together_is : (link : Link) (group old : Group) (o : Option Case) → group ≡ old → is_searched old ≡ true → group.case ≡ o
    → together_formula link group o ≡ group_formula link old
together_is link group old o same searched is =
    sym (ap (λ b. if b then together_formula link group group.case else rows_formula link group.entries) (ap is_searched same ∙ searched)
    ∙ ap (together_formula link group) is) ∙ ap (group_formula link) same

pub returns-in-Some : goal.returns-in-Some
returns-in-Some g c =
    let a = c.args in let r = c.emit_cases in
    subst (λ (f : Formula). EmitsFormula a.link f a.to a.code.now r.result r.new.self)
    (ap (cases_formula a.link c.self.inside.qualifiers.direction c.in-Some.first) c.deref.ensures.value
    ∙ together_is a.link _ a.self.now (Some c.in-Some.first) c.self.view_is (sym c.is_searched.ensures ∙ c.if-not-is_searched.false) c.in-Some.is) r.ensures

pub returns : goal.returns
returns g c =
    let a = c.args in let i = c.self.inside in let r = c.emit_several in let numbers = c.in_ok-numbers.ensures ∙ ap₂ (λ b is. sought b i.first is)
    (c.has_networks-has_networks.ensures ∙ ap has_networks (sym c.self.view_is)) c.deref-2.ensures.value in
    subst (λ (f : Formula). EmitsFormula a.link f a.to a.code.now r.result r.new.self)
    (ap (several_formula a.link i.qualifiers (has_addresses i.qualifiers.value_type)) numbers
    ∙ together_is a.link _ a.self.now None c.self.view_is (sym c.is_searched.ensures ∙ c.if-not-is_searched.false) c.in_default.is) r.ensures

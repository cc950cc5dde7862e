-- The frames' test in front of the words of both sides.
use Rattle.flt_gen.proofs.Common.{ℕ, ◌+◌, ◌∙◌, sym, ap, ap₂, subst, List, Elementary, Block, ip6_tests}
use Rattle.flt_gen.specs.inside.{Code.emit_formula, Code.emit_elementary, Emits.Emits, Emitted.needed_sides}
use Rattle.flt_gen.proofs.code.Code.emit_ip6.Goals as goal

pub returns : goal.returns
returns g c =
    let a = c.args in let r = c.emit_elementary in let tests : ℕ → List Elementary = λ at. ip6_tests a.prefix a.address at in
    let code : List Elementary → List Elementary → Block = λ s t. emit_formula a.link (needed_sides a.direction s t) a.to.yes a.to.no a.self.now in
    let start = sym c.network_offset-start.ensures.place in let source = ap (λ x. tests (x + 8)) start ∙ sym c.ip6_tests-source.ensures in
    let destination = ap (λ x. tests (x + 24)) start ∙ sym c.ip6_tests-destination.ensures in
    subst (λ (e : Block). Emits r.result e r.new.self)
    (sym (ap₂ (λ t (e : Block). emit_elementary t e.entry a.to.no e.code) (sym c.kind_test.ensures) (ap₂ code source destination ∙ c.in_ok-yes.ensures a.link)))
    r.ensures

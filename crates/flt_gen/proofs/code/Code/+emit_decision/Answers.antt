-- A decision by its parts.
use Rattle.flt_gen.proofs.Common.{◌≡◌, ◌+◌, ◌-◌, ◌∙◌, take_rest, sym, ap, arith, None, true, false, Formula}
use Rattle.flt_gen.proofs.Decision.{chain_after, decision_chain, decision_same, decision_told, decision_halves}
use Rattle.std.{specs.Prelude.is_none, proofs.Common.rules, proofs.Common.inl, proofs.Common.inr}
use Rattle.flt_gen.specs.declared.cases.Bound.TheVariants.{Exactly}
use Rattle.flt_gen.specs.inside.{Cases.case_tests, Cases.all_keep, Cases.is_parted, Cases.test_at, Cases.lowest, Cases.decision, Code.emit_after}
use Rattle.flt_gen.proofs.code.Code.+emit_decision.Goals.{then-most-eq0-via-then-most-eq0, then-most-eq0-via-else-most-eq0+then-cases-few}
use Rattle.flt_gen.proofs.code.Code.+emit_decision.Goals as goal

pub returns-then-most-eq0 : goal.returns-then-most-eq0
returns-then-most-eq0 g t c =
    let a = c.args in
    rw (
      decision_chain a.few a.most (case_tests a.link a.direction) a.word a.cases.now (elim c.then-most-eq0.branch [
        | then-most-eq0-via-then-most-eq0 w ↦ inl (let none = w.if-most-eq0.true in omega arith)
        | then-most-eq0-via-else-most-eq0+then-cases-few w ↦ inr (let few = w.if-cases-few.true in omega arith)
      ]),
      chain_after a.held a.link (case_tests a.link a.direction) a.word a.cases.now a.to.yes a.to.no a.self.now,
    ) c.emit_cases_in_turn.ensures

pub returns-in_default : goal.returns-in_default
returns-in_default g t c =
    let a = c.args in let by = case_tests a.link a.direction in
    ap (λ (x : Formula). emit_after a.held a.link x a.to.yes a.to.no a.self.now)
    (sym (decision_same a.few a.most by a.word a.cases.now (omega arith) (omega arith) None (sym c.in_default.is ∙ c.test_at-test.ensures)
    (sym c.if-all_keep.true ∙ c.all_keep.ensures ∙ ap (λ n. all_keep by a.word (Exactly n) a.cases.now) (c.lowest.ensures ∙ ap lowest c.in_default.is))))

pub returns-then-is_none : goal.returns-then-is_none
returns-then-is_none g t c =
    let a = c.args in let by = case_tests a.link a.direction in let last : is_none (test_at by (a.word + 1) a.cases.now 0) ≡ true = search rules in
    rw (← decision_told a.few a.most by a.word a.cases.now (omega arith) (omega arith) c.in-Some.test true (sym c.in-Some.is ∙ c.test_at-test.ensures) last
    (sym c.if-all_keep.true ∙ c.all_keep.ensures ∙ ap (λ n. all_keep by a.word (Exactly n) a.cases.now) (c.lowest.ensures ∙ ap lowest c.in-Some.is)))
    c.emit_elementary.ensures

pub returns-then-all_keep : goal.returns-then-all_keep
returns-then-all_keep g t c =
    let a = c.args in let by = case_tests a.link a.direction in let more : is_none (test_at by (a.word + 1) a.cases.now 0) ≡ false = search rules in
    rw (
      ← decision_told a.few a.most by a.word a.cases.now (omega arith) (omega arith) c.in-Some.test false (sym c.in-Some.is ∙ c.test_at-test.ensures) more
          (sym c.if-all_keep.true ∙ c.all_keep.ensures ∙ ap (λ n. all_keep by a.word (Exactly n) a.cases.now) (c.lowest.ensures ∙ ap lowest c.in-Some.is)),
      c.in_ok-yes.ensures,
    ) c.emit_elementary-then-all_keep.ensures

pub returns-then-not-is_parted : goal.returns-then-not-is_parted
returns-then-not-is_parted g t c =
    let a = c.args in let by = case_tests a.link a.direction in let whole : false ≡ is_parted by a.word a.cases.now c.middle-at.result = search rules in
    rw (
      ← decision_halves a.few a.most by a.word a.cases.now (omega arith) (omega arith) c.test_at-test.result c.middle-at.result false
          c.test_at-test.ensures c.middle-at.ensures
          (sym c.if-all_keep.false ∙ c.all_keep.ensures ∙ ap (λ n. all_keep by a.word (Exactly n) a.cases.now) c.lowest.ensures) whole,
      chain_after a.held a.link by a.word a.cases.now a.to.yes a.to.no a.self.now,
    ) c.emit_cases_in_turn-then-not-is_parted.ensures

pub returns : goal.returns
returns g t c =
    let a = c.args in let by = case_tests a.link a.direction in let at = c.middle-at.result in
    let apart : true ≡ is_parted by a.word a.cases.now at = search rules in
    rw (
      ← decision_halves a.few a.most by a.word a.cases.now (omega arith) (omega arith) c.test_at-test.result at true c.test_at-test.ensures c.middle-at.ensures
          (sym c.if-all_keep.false ∙ c.all_keep.ensures ∙ ap (λ n. all_keep by a.word (Exactly n) a.cases.now) c.lowest.ensures) apart,
      ← c.test_at-2.ensures,
      ← c.lowest-number.ensures,
      ← c.from_test-half.ensures,
      ← c.left-left.ensures,
      c.in_ok-no.ensures,
      ap (λ cs. emit_after c.left-left.result a.link (decision a.few (a.most - 1) by a.word cs) a.to.yes a.to.no c.emit_decision-2.new.self)
          (sym (take_rest a.cases.now at)) ∙ c.in_ok-yes-2.ensures,
    ) c.emit_test.ensures

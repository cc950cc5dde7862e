-- A case in front of others.
use Rattle.flt_gen.proofs.{Common.◌∙◌, Common.sym, Common.ap, Common.take_rest, Common.block, Decision.turn_emitted}
use Rattle.flt_gen.specs.inside.{Cases.case_tests, Cases.chain, Code.emit_formula}
use Rattle.flt_gen.proofs.code.Code.+emit_cases_in_turn.Goals as goal

pub returns-in_ok-no-in-len1-up : goal.returns-in_ok-no-in-len1-up
returns-in_ok-no-in-len1-up g t c =
    let a = c.args in let r = c.emit_case_from in let by = case_tests a.link a.direction in
    turn_emitted r.result r.new.self a.link by a.word a.cases.now _ a.to.yes a.to.no a.self.now
    (block c.emit_cases_in_turn.new.self c.in_ok-no-in-len1-up.no) c.in-len1-up.len_at_least
    (ap (λ cs. emit_formula a.link (chain by a.word cs) a.to.yes a.to.no a.self.now) (sym (take_rest a.cases.now 1)) ∙ c.in_ok-no-in-len1-up.ensures) r.ensures

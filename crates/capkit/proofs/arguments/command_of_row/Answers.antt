-- The rows of a table, added one by one, give the subcommand with all its arguments.
use Rattle.capkit.proofs.Common.{◌≡◌, ◌∙◌, ap, map, app_of_fields, App, app_of, new_app, rules, with_rule, with_rules, rule_by}
use Rattle.capkit.proofs.Folds.{no_more, one_more, stays}
use Rattle.capkit.proofs.arguments.command_of_row.Goals as goal

pub loop-argument-init : goal.loop-argument-init
loop-argument-init c =
    let row = c.args.row.now in
    let about : app_of c.about.result ≡ new_app row.name.now = ap app_of_fields c.about.ensures ∙ c.new.ensures.app in
    let bare : app_of c.after_help-command.result ≡ new_app row.name.now = ap app_of_fields c.after_help-command.ensures ∙ about in
    (ap (λ (a : App). with_rules a (map (rule_by c.args.choices) row.arguments.now)) bare, search rules)

pub loop-argument-preserved : goal.loop-argument-preserved
loop-argument-preserved c = (
  one_more with_rule (rule_by c.args.choices) c.args.row.now.arguments.now c.loop-argument.argument-index _ _ _ _ c.loop-argument-test.true
      (c.in_ok-command.ensures.shape c.arg_of_row.ensures.local) c.arg_of_row.ensures.rule ∙ c.loop-argument.invariant.0,
  stays _ _ _ c.in_ok-command.ensures.globals c.arg_of_row.ensures.local ∙ c.loop-argument.invariant.1,
)

pub returns-clause-shape : goal.returns-clause-shape
returns-clause-shape c =
    no_more with_rule (rule_by c.args.choices) c.args.row.now.arguments.now c.loop-argument.argument-index _ _ c.loop-argument-test.false
    c.loop-argument.invariant.0

pub returns-clause-local : goal.returns-clause-local
returns-clause-local c = c.loop-argument.invariant.1

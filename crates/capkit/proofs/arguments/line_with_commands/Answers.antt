-- The subcommands, added one by one, give the whole command line.
use Rattle.capkit.proofs.Common.{◌∙◌, ap, map, App, with_subcommand, with_shapes, shape_by}
use Rattle.capkit.proofs.Folds.{no_more, one_more}
use Rattle.capkit.proofs.arguments.line_with_commands.Goals as goal

pub loop-row-init : goal.loop-row-init
loop-row-init c = ap (λ (a : App). with_shapes a (map (λ row. shape_by c.args.choices row.now) c.args.rows.now)) c.in_ok-command.ensures

pub loop-row-preserved : goal.loop-row-preserved
loop-row-preserved c =
    one_more with_subcommand (λ row. shape_by c.args.choices row.now) c.args.rows.now c.loop-row.row-index _ _ _ _ c.loop-row-test.true
    (c.in_ok-command-2.ensures.shape c.in_ok-command_of_row.ensures.local) (ap (λ (app : App). app.top) c.in_ok-command_of_row.ensures.shape)
    ∙ c.loop-row.invariant

pub returns : goal.returns
returns c = no_more with_subcommand (λ row. shape_by c.args.choices row.now) c.args.rows.now c.loop-row.row-index _ _ c.loop-row-test.false c.loop-row.invariant

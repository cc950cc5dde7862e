-- Adding the remaining subcommands gives the same line as adding all of them.
use Rattle.capkit.proofs.Common.{◌≡◌, drop, map, app_of, line_without_commands, with_shapes, shape_by}
use Rattle.capkit.proofs.arguments.line_with_commands.Given as goal

abbrev pub invariant-loop-row : goal.invariant-loop-row
invariant-loop-row l =
    with_shapes (app_of l.command) (map (λ row. shape_by l.choices row.now) (drop l.row-index l.rows))
    ≡ with_shapes line_without_commands (map (λ row. shape_by l.choices row.now) l.rows)

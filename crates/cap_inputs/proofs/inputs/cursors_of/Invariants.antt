-- Each input so far has its fresh cursor.
use Rattle.std.proofs.Common.{◌≡◌, ◌++◌, map}
use Rattle.cap_inputs.proofs.Common.{fresh_view, fresh_input, into_iter_items}
use Rattle.cap_inputs.proofs.inputs.cursors_of.Given as goal

abbrev pub invariant-loop-input : goal.invariant-loop-input
invariant-loop-input g l =
    (l.yielded ++ into_iter_items l.input-iterator ≡ l.fn.inputs.items)
    × (l.cursors.items ≡ map (λ input. fresh_view (fresh_input g.I.Input input)) l.yielded)

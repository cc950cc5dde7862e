-- After the last input, each one has its fresh cursor.
use Rattle.std.proofs.Common.{arith, ◌≡◌, ◌++◌, ◌∙◌, [], List, map, sym, ap}
use Rattle.cap_inputs.proofs.Common.{into_iter_items, fresh_view, fresh_input}
use Rattle.std.proofs.lemmas.{Grind.common_steps, List.append-nil}
use Rattle.cap_inputs.proofs.inputs.cursors_of.Goals as goal

pub loop-input-preserved : goal.loop-input-preserved
loop-input-preserved g c = grind (arith, common_steps)

pub returns : goal.returns
returns g c =
    let yielded = c.loop-input.yielded in
    let none : into_iter_items c.loop-input.input-iterator ≡ [] = grind (arith, common_steps) in
    let all = sym (append-nil yielded) ∙ ap (λ (l : List _). yielded ++ l) (sym none) ∙ c.loop-input.invariant.0 in
    c.loop-input.invariant.1 ∙ ap (map (λ input. fresh_view (fresh_input g.I.Input input))) all

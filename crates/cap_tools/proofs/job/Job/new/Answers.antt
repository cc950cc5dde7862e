-- A new job is sound, and has decided nothing.
use Rattle.cap_tools.proofs.CommandStarts.{few-inputs, first-decided, first-made, first-ready, first-few, first-less}
use Rattle.cap_tools.proofs.Common.{length-map, most_inputs, ◌≡◌, ◌≤◌, List, map, length, string_bytes, sym, ap, subst, ◌∙◌, arith, All, option_map, Content}
use Rattle.cap_tools.proofs.Common.{IsSmall, most_turns, steps_owed_in_all, HasFewOutputInterfaces, Target, InputsView, steps_left, HavePrograms, SelectorView}
use Rattle.cap_tools.proofs.Common.{policy_of, initial_state, HasFewMarks, PacketOrder, order_of, Assignment, preparing_of, Call, call_of, JobView, fresh_input}
use Rattle.cap_tools.proofs.Common.{fresh_output, fresh_inputs, nothing_done, DecidedBy, IsReadyIf}
use Rattle.cap_tools.proofs.Weights.{few-first, small-first}
use Rattle.cap_tools.proofs.job.Job.new.Goals as goal

pub invariant_of-result : goal.invariant_of-result
invariant_of-result g c =
    let call : Call = call_of (map string_bytes c.args.names.items) (map (fresh_input g.I.Input) c.args.inputs.items)
    (fresh_output g.O.Output c.args.out) (fresh_output g.E.Output c.args.err) in
    let order : PacketOrder = order_of c.assignment_of-preparation.result.merges in
    let count : length call.inputs ≡ length c.args.inputs.items = length-map c.args.inputs.items (fresh_input g.I.Input) in
    let proper = few-inputs c.args.command _ c.requires.proper in
    let within : length call.inputs ≤ most_inputs = omega (arith, proper, count) in
    let bound = first-less order call.inputs within in
    let left : steps_left c.in-Some.inputs ≡ steps_left (fresh_inputs order call.inputs) = ap steps_left c.in-Some.ensures in
    let owes : steps_owed_in_all c.in-Some.inputs ≡ steps_owed_in_all (fresh_inputs order call.inputs) = ap steps_owed_in_all c.in-Some.ensures in
    let most : most_turns c.in-Some.inputs ≡ most_turns (fresh_inputs order call.inputs) = ap most_turns c.in-Some.ensures in
    let turns = first-few order call.inputs in
    let cursors : All IsSmall c.in-Some.inputs.cursors = (let P : InputsView → Type 0 = λ f. All IsSmall f.cursors in subst P (sym c.in-Some.ensures)
    (small-first call.inputs)) in
    let upper_bound : HasFewOutputInterfaces c.new-output.result =
    (let P : Target → Type 0 = λ t. HasFewOutputInterfaces t in subst P (sym c.new-output.ensures)
    (few-first c.assignment_of-preparation.result.writing _ _ _)) in
    let marks : HasFewMarks c.in-Ok.selector.policy c.in-Ok.selector.state = (let P : SelectorView → Type 0 = λ v. HasFewMarks v.policy v.state in
    subst P (sym c.in-Ok.ensures) (omega arith)) in
    let sound : HavePrograms c.in-Ok.selector.policy c.in-Ok.selector.programs =
    (let P : SelectorView → Type 0 = λ v. HavePrograms v.policy v.programs in subst P (sym c.in-Ok.ensures) c.assignment_of-preparation.ensures.sound) in
    let a : Assignment = record {
      preparing = option_map preparing_of c.assignment_of-preparation.result.preparation;
      policy =
          policy_of c.assignment_of-preparation.result.policy;
      order = order;
      writing = c.assignment_of-preparation.result.writing;
    } in
    let programs : List Content → SelectorView = λ l. record { policy = a.policy; state = initial_state; programs = l } in
    let made = first-made c.args.command call a c.in-Some.inputs c.in-Ok.selector c.new-3.result c.new-output.result
    c.assignment_of-preparation.ensures.preparing c.assignment_of-preparation.ensures.order c.assignment_of-preparation.ensures.policy
    c.assignment_of-preparation.ensures.writing
    c.in-Some.ensures (c.in-Ok.ensures ∙ ap programs c.assignment_of-preparation.ensures.programs) c.new-3.ensures c.new-output.ensures in
    let J : JobView → Type 0 = λ j. IsReadyIf j.preparing j in (
      omega (arith, left, bound),
      (cursors, upper_bound),
      marks,
      sound,
      omega (arith, left, bound),
      omega (arith, owes, most, turns),
      subst J (sym made) (first-ready c.args.command call within),
    )

pub returns-clause-decided : goal.returns-clause-decided
returns-clause-decided g c =
    let call : Call = call_of (map string_bytes c.args.names.items) (map (fresh_input g.I.Input) c.args.inputs.items)
    (fresh_output g.O.Output c.args.out) (fresh_output g.E.Output c.args.err) in
    let order : PacketOrder = order_of c.assignment_of-preparation.result.merges in
    let a : Assignment = record {
      preparing = option_map preparing_of c.assignment_of-preparation.result.preparation;
      policy =
          policy_of c.assignment_of-preparation.result.policy;
      order = order;
      writing = c.assignment_of-preparation.result.writing;
    } in
    let programs : List Content → SelectorView = λ l. record { policy = a.policy; state = initial_state; programs = l } in
    let made = first-made c.args.command call a c.in-Some.inputs c.in-Ok.selector c.new-3.result c.new-output.result
    c.assignment_of-preparation.ensures.preparing c.assignment_of-preparation.ensures.order c.assignment_of-preparation.ensures.policy
    c.assignment_of-preparation.ensures.writing
    c.in-Some.ensures (c.in-Ok.ensures ∙ ap programs c.assignment_of-preparation.ensures.programs) c.new-3.ensures c.new-output.ensures in
    let J : JobView → Type 0 = λ j. DecidedBy j.preparing (map nothing_done call.inputs) call.output.written j in
    subst J (sym made) (first-decided c.args.command call)

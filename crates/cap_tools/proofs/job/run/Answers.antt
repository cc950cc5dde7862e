-- The run makes turns until the job ends, and writes what the command defines.
use Rattle.cap_tools.proofs.{CommandStarts.first-decided, Runs.first-output, Runs.fresh}
use Rattle.cap_tools.proofs.Common.{◌≡◌, [], map, refl, sym, ◌∙◌, ap, subst, string_bytes, arith, append-nil, IsTold, no_memory_message, OutputView}
use Rattle.cap_tools.proofs.Common.{fresh_input, fresh_output, output_view, Assignment, Call, call_of, JobView, room_by, ends, fault_outcome, of_nothing}
use Rattle.cap_tools.proofs.Common.{assignment}
use Rattle.cap_tools.proofs.Turns.{steps-done, steps-more, steps-room, steps-status, steps-undone}
use Rattle.cap_tools.proofs.job.run.Goals as goal

pub loop-status-init : goal.loop-status-init
loop-status-init g c = record { undone = λ none. none; room = refl; exact = λ ti to asked call is begun. fresh is }

pub loop-status-preserved : goal.loop-status-preserved
loop-status-preserved g c = record {
  undone = λ none. steps-undone _ _ _ _ _ c.in-More.ensures;
  room = steps-room _ _ _ _ _ _ c.in-More.ensures ∙ c.loop-status.invariant.room;
  exact = λ ti to asked call is begun.
      steps-more g.I.Input.tells g.O.Output.tells g.E.Output.tells asked call c.loop-status.job c.make_turn.new.self ti to begun c.in-More.ensures
      (c.loop-status.invariant.exact ti to asked call is begun);
}

pub returns-in-Done : goal.returns-in-Done
returns-in-Done g c = record {
  status = steps-status _ _ _ _ _ _ c.in-Done.ensures;
  exact = λ ti to.
      let asked : Assignment = assignment c.args.command in
      let call : Call = call_of (map string_bytes c.args.names.items) (map (fresh_input g.I.Input) c.args.inputs.items)
      (fresh_output g.O.Output c.args.out) (fresh_output g.E.Output c.args.err) in
      let room : g.O.Output.room c.close-out.result.0 ≡ call.room = c.close-out.ensures.room ∙ steps-room _ _ _ _ _ _ c.in-Done.ensures
      ∙ c.loop-status.invariant.room
      ∙ ap (λ (j : JobView). room_by j.state) c.in-Ok.ensures.fresh
      ∙ (first-output call.names asked.writing call.output.written call.output.failures call.room).room_is in
      let begun = first-decided c.args.command call in
      steps-done g.I.Input.tells g.O.Output.tells asked call c.loop-status.job c.make_turn.new.self _ ti to begun
      (λ failed. omega (arith, room, g.met.O.Output.filled c.close-out.result.0 failed)) c.in-Done.ensures
      (record { written = c.close-out.ensures.written; failures = c.close-out.ensures.failures; messages = c.close-out.ensures.messages })
      (c.loop-status.invariant.exact ti to asked call c.in-Ok.ensures.fresh begun);
}

pub returns-in-Err-clause-exact : goal.returns-in-Err-clause-exact
returns-in-Err-clause-exact g c = λ ti to.
    let P : OutputView → Type 0 = λ v. IsTold g.E.Output.tells v no_memory_message (output_view (g.E.Output.written c.report_no_memory.new.output)
    (g.E.Output.failures c.report_no_memory.new.output)) in
    let same = ap (λ o. output_view (g.O.Output.written o) (g.O.Output.failures o)) c.in-Err.ensures.refused.0 in
    ends (fault_outcome [] no_memory_message) of_nothing (record {
      output = ap (λ (v : OutputView). v.written) same ∙ sym (append-nil _);
      failures = ap (λ (v : OutputView). v.failures) same;
      message = subst P (ap (λ e. output_view (g.E.Output.written e) (g.E.Output.failures e)) c.in-Err.ensures.refused.1)
          (record { answer = c.report_no_memory.result; exact = λ te. c.report_no_memory.ensures.exact te; counted = c.report_no_memory.ensures.failed });
      quiet = λ zero. absurd (omega (arith, zero));
      status = refl;
    })

-- Finishing the output is the last step.
use Rattle.cap_tools.proofs.Common.{refl, subst, sym, ℕ, Option, Some, EndsOutput, JobEnd, JobView, EndLeaves, IsNext, reads_nothing, state_at, Next}
use Rattle.cap_tools.proofs.{Finishes.finish-leaves, Steps.step-of}
use Rattle.cap_tools.proofs.job.Job.finish.Goals as goal

pub returns : goal.returns
returns g c =
    let m = state_at c.self.inside.messages.names c.self.inside.inputs c.self.inside.selector c.self.inside.output c.self.inside.decided in
    let left = state_at c.self.inside.messages.names c.self.inside.inputs c.self.inside.selector c.finish.new.self c.self.inside.decided in
    let N : JobView → Type 0 = λ v. IsNext v.state.inputs Next.Finish in
    let F : Option ℕ → Type 0 = λ o. EndsOutput o m.output c.finish.result left.output in
    step-of g.I.Input.tells g.O.Output.tells _ c.args.self.now (Some c.end_of_write.result) c.self.inside.inputs c.self.inside.selector
    c.finish.new.self c.self.inside.decided c.self.inside.done c.self.view_is
    (record {
      policy = refl;
      programs = c.self.invariant.3;
      marks = c.self.invariant.2;
      room = c.finish.ensures.room;
      few =
          c.finish.ensures.upper_bound c.self.invariant.1.1;
    }) c.self.invariant.1.0 (λ more. (cc)) (λ more. refl)
    (λ ti to ss before d.
    let E : JobEnd → Type 0 = λ e. EndLeaves d e left in
    subst E (sym c.end_of_write.ensures)
    (finish-leaves ss before m.inputs.cursors m.inputs.order m.policy m.state m.names m.output m.decided left
    (subst N (sym c.self.view_is) c.requires.next) refl d c.finish.result (subst F c.first_link-first.ensures (c.finish.ensures.exact to))))
    (reads_nothing refl (record { inputs = refl; decided = refl; programs = refl }))

-- A job that has ended repeats its status; otherwise the next action is a step.
use Rattle.cap_tools.proofs.Common.{◌∙◌, sym, ap, subst, IsSound, JobView}
use Rattle.cap_tools.proofs.Turns.{after-end, may-count}
use Rattle.cap_tools.proofs.job.Job.step_prepared.Goals as goal

pub returns-in-Some : goal.returns-in-Some
returns-in-Some g c = after-end g.I.Input.tells g.O.Output.tells g.E.Output.tells _ c.args.self.now c.in-Some.status c.self.view_is c.self.invariant
    c.in-Some.is c.requires

pub count_step-requires : goal.count_step-requires
count_step-requires g c = record {
  prepared = c.do_next-end.ensures.preparing ∙ c.requires;
  upper_bound = may-count _ _ c.args.self.now _ _
      (record {
        step = c.do_next-end.ensures;
        prepared = c.requires;
        undone = (ap (λ (v : JobView). v.done) (sym c.self.view_is) ∙ c.in_default.is);
        sound = subst IsSound c.self.view_is c.self.invariant;
      });
}

pub returns : goal.returns
returns g c = c.count_step.ensures c.args.self.now
    (record {
      step = c.do_next-end.ensures;
      prepared = c.requires;
      undone = (ap (λ (v : JobView). v.done) (sym c.self.view_is) ∙ c.in_default.is);
      sound = subst IsSound c.self.view_is c.self.invariant;
    })

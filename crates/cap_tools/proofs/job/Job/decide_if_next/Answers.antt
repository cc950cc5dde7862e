-- A packet is decided if that is the next action; otherwise the job goes on or finishes.
use Rattle.cap_tools.proofs.Common.{◌≡◌, ◌∙◌, true, refl, ap, subst, IsSound, JobView, next_of, is_read, makes, rests}
use Rattle.cap_tools.proofs.Turns.{may-count, told-read}
use Rattle.cap_tools.proofs.job.Job.decide_if_next.Goals as goal

pub count_step-requires : goal.count_step-requires
count_step-requires g c = record {
  prepared = c.decide_next-end.ensures.preparing ∙ c.requires.prepared;
  upper_bound = may-count _ _ c.args.self.now _
      _ (record {
        step = c.decide_next-end.ensures;
        prepared = c.requires.prepared;
        undone = c.requires.undone;
        sound = subst IsSound c.self.view_is
            c.self.invariant;
      });
}

pub returns-in-Decide : goal.returns-in-Decide
returns-in-Decide g c = makes (c.count_step.ensures c.args.self.now
    (record {
      step = c.decide_next-end.ensures;
      prepared = c.requires.prepared;
      undone = c.requires.undone;
      sound = subst IsSound c.self.view_is
          c.self.invariant;
    }))

pub returns-in-Read : goal.returns-in-Read
returns-in-Read g c =
    let N : JobView → Type 0 = λ v. is_read (next_of v.state.inputs) ≡ true in
    rests (subst N c.self.view_is (told-read c.self.inside.inputs c.next.result true c.next.ensures (ap is_read c.in-Read.is))) refl refl

pub finish_step-requires-clause-sound : goal.finish_step-requires-clause-sound
finish_step-requires-clause-sound g c = subst IsSound c.self.view_is c.self.invariant

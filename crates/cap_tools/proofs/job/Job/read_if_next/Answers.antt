-- An input is read if that is the next action.
use Rattle.cap_tools.proofs.Common.{◌≡◌, ◌∙◌, false, refl, subst, IsSound, JobView, next_of, is_read, makes, rests}
use Rattle.cap_tools.proofs.Turns.{may-count, told-no-read}
use Rattle.cap_tools.proofs.job.Job.read_if_next.Goals as goal

pub count_step-requires : goal.count_step-requires
count_step-requires g c = record {
  prepared = c.read_next-end.ensures.preparing ∙ c.requires.prepared;
  upper_bound = may-count _ _ c.args.self.now _ _
      (record {
        step = c.read_next-end.ensures;
        prepared = c.requires.prepared;
        undone = c.requires.undone;
        sound = subst IsSound c.self.view_is
            c.self.invariant;
      });
}

pub returns-in-Read : goal.returns-in-Read
returns-in-Read g c = makes (c.count_step.ensures c.args.self.now
    (record {
      step = c.read_next-end.ensures;
      prepared = c.requires.prepared;
      undone = c.requires.undone;
      sound = subst IsSound c.self.view_is
          c.self.invariant;
    }))

pub returns-in-Decide : goal.returns-in-Decide
returns-in-Decide g c =
    let N : JobView → Type 0 = λ v. is_read (next_of v.state.inputs) ≡ false in
    rests (subst N c.self.view_is (told-no-read c.self.inside.inputs c.next.result c.next.ensures c.in-Decide.is)) refl refl

-- The finishing step is counted.
use Rattle.cap_tools.proofs.{Common.◌∙◌, Turns.may-count}
use Rattle.cap_tools.proofs.job.Job.finish_step.Goals as goal

pub count_step-requires : goal.count_step-requires
count_step-requires g c = record {
  prepared = c.finish-end.ensures.preparing ∙ c.requires.prepared;
  upper_bound = may-count _ _ c.args.self.now _ _
      (record { step = c.finish-end.ensures; prepared = c.requires.prepared; undone = c.requires.undone; sound = c.requires.sound });
}

pub returns : goal.returns
returns g c = c.count_step.ensures c.args.self.now (record {
  step = c.finish-end.ensures;
  prepared = c.requires.prepared;
  undone = c.requires.undone;
  sound = c.requires.sound;
})

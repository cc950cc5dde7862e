-- Reading and deciding are two steps, or one if the job ends.
use Rattle.cap_tools.proofs.Turns.{steps-made, step-ended, undone-on}
use Rattle.cap_tools.proofs.job.Job.read_and_decide.Goals as goal

pub decide_if_next-requires-clause-prepared : goal.decide_if_next-requires-clause-prepared
decide_if_next-requires-clause-prepared g c = (undone-on _ _ _ _ _ _ c.in-More.ensures c.requires.prepared c.requires.undone).0

pub decide_if_next-requires-clause-undone : goal.decide_if_next-requires-clause-undone
decide_if_next-requires-clause-undone g c = (undone-on _ _ _ _ _ _ c.in-More.ensures c.requires.prepared c.requires.undone).1

pub returns-in-More : goal.returns-in-More
returns-in-More g c = steps-made _ _ _ _ _ _ _ c.in-More.ensures c.decide_if_next.ensures

pub returns-in-Done : goal.returns-in-Done
returns-in-Done g c = step-ended _ _ _ _ _ _ c.in-Done.ensures

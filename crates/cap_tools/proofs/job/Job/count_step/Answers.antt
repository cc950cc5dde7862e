-- The step is counted, and the job goes on or ends.
use Rattle.cap_tools.proofs.Common.{◌+◌, sym, subst, Option, JobEnd, JobView, Turn, MakesStep}
use Rattle.cap_tools.{proofs.Turns.counted-more, proofs.Turns.counted-end, specs.inside.Jobs.IsUncounted}
use Rattle.cap_tools.proofs.job.Job.count_step.Goals as goal

pub returns-in-None : goal.returns-in-None
returns-in-None g c = λ before is.
    let U : JobView → Option JobEnd → Type 0 = λ j e. IsUncounted g.I.Input.tells g.O.Output.tells j e c.args.self.now in
    let P : JobView → Type 0 = λ v. MakesStep g.I.Input.tells g.O.Output.tells g.E.Output.tells before Turn.More
    (record { preparing = v.preparing; state = v.state; programs = v.programs; err = v.err; turns = v.turns + 1; done = v.done }) in
    subst P (sym c.self.view_is) (counted-more g.I.Input.tells g.O.Output.tells g.E.Output.tells before c.args.self.now (subst (U before) c.in-None.is is))

pub returns-in-Some : goal.returns-in-Some
returns-in-Some g c = λ before is.
    let U : JobView → Option JobEnd → Type 0 = λ j e. IsUncounted g.I.Input.tells g.O.Output.tells j e c.args.self.now in
    rw c.end.ensures.done (counted-end g.I.Input.tells g.O.Output.tells g.E.Output.tells before c.args.self.now c.end.new.self c.in-Some.end
    (subst (U before) c.in-Some.is is) c.end.ensures.ended c.end.ensures.exact c.end.ensures.quiet)

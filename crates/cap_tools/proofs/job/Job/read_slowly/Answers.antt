-- If the output can't be released before a read, the job ends.
use Rattle.cap_tools.proofs.Common.{◌∙◌, Some, refl, subst, sym, reads_nothing, JobView, IsStep, JobEnd}
use Rattle.cap_tools.proofs.Steps.{same-kept, step-of}
use Rattle.cap_tools.proofs.job.Job.read_slowly.Goals as goal

pub returns-then-not-release_before : goal.returns-then-not-release_before
returns-then-not-release_before g c =
    let P : JobView → Type 0 = λ v. IsStep g.I.Input.tells g.O.Output.tells c.args.self.now (Some JobEnd.OutputFailed) v in
    subst P (c.self.view_is ∙ sym c.release_before.ensures.kept)
    (step-of g.I.Input.tells g.O.Output.tells _ c.args.self.now (Some JobEnd.OutputFailed) c.self.inside.inputs c.self.inside.selector
    c.self.inside.output c.self.inside.decided c.self.inside.done c.self.view_is (same-kept _ c.self.invariant) c.self.invariant.1.0
    (λ more. (cc)) (λ more. refl)
    (λ ti to. absurd (let sure = c.release_before.ensures.sure to in cc (sure, c.if-not-release_before.true)))
    (reads_nothing refl (record { inputs = refl; decided = refl; programs = refl })))

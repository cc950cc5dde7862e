-- The first step prepares, and each later one does the next action.
use Rattle.cap_tools.proofs.CommandStarts.{none-before, some-before}
use Rattle.cap_tools.proofs.Common.{◌∙◌, sym, ap, JobView}
use Rattle.cap_tools.proofs.job.Job.step.Goals as goal

pub prepare-requires : goal.prepare-requires
prepare-requires g c = λ none. some-before c.self.inside.preparation (sym c.if-is_some.ensures) (ap (λ (v : JobView). v.preparing) c.self.view_is ∙ none)

pub step_prepared-requires : goal.step_prepared-requires
step_prepared-requires g c = ap (λ (v : JobView). v.preparing) (sym c.self.view_is) ∙ none-before c.self.inside.preparation (sym c.if-is_some.ensures)

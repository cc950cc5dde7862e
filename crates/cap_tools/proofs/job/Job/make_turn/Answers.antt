-- A turn is one step or two.
use Rattle.cap_tools.{proofs.CommandStarts.none-before, proofs.CommandStarts.some-before, proofs.Turns.after-end, specs.inside.Jobs.one_step}
use Rattle.cap_tools.proofs.Common.{◌∙◌, sym, ap, JobView}
use Rattle.cap_tools.proofs.job.Job.make_turn.Goals as goal

pub prepare-requires : goal.prepare-requires
prepare-requires g c = λ none. some-before c.self.inside.preparation (sym c.if-is_some.ensures) (ap (λ (v : JobView). v.preparing) c.self.view_is ∙ none)

pub returns-then-is_some : goal.returns-then-is_some
returns-then-is_some g c = one_step c.prepare.ensures

pub returns-in-Some : goal.returns-in-Some
returns-in-Some g c =
    one_step (after-end g.I.Input.tells g.O.Output.tells g.E.Output.tells _ c.args.self.now c.in-Some.status c.self.view_is c.self.invariant
    c.in-Some.is (ap (λ (v : JobView). v.preparing) (sym c.self.view_is) ∙ none-before c.self.inside.preparation (sym c.if-is_some.ensures)))

-- The filter becomes the policy, and the job's memory remains bounded.
use Rattle.cap_tools.proofs.Common.{arith, subst, sym, common_steps, SelectorView, HasFewMarks}
use Rattle.cap_tools.proofs.Weights.{is-light}
use Rattle.cap_tools.proofs.job.Job.install_filter.Goals as goal

pub returns-clause-keeps : goal.returns-clause-keeps
returns-clause-keeps g c = λ p.
    let upper_bound : HasFewMarks c.filtering.result.policy c.filtering.result.state =
    (let P : SelectorView → Type 0 = λ v. HasFewMarks v.policy v.state in subst P (sym c.filtering.ensures) (omega arith)) in
    let light = is-light (record {
      inputs = c.self.inside.inputs;
      policy = c.filtering.result.policy;
      state = c.filtering.result.state;
      names =
          c.self.inside.messages.names;
      output = c.self.inside.output;
      decided = c.self.inside.decided;
    })
    c.self.invariant.1 upper_bound in
    grind (arith, common_steps, light)

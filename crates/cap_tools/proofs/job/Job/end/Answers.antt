-- The job ends with its status and message.
use Rattle.cap_tools.proofs.Common.{◌≡◌, ℕ, ◌+◌, List, Some, ap, ap₂, subst, Option, IsTold, MessagesView, Preparing, preparing_of, option_map, JobView}
use Rattle.cap_tools.proofs.Common.{end_message, ending}
use Rattle.cap_tools.proofs.job.Job.end.Goals as goal

pub returns-clause-ended : goal.returns-clause-ended
returns-clause-ended g c =
    let preparing : Option Preparing = option_map preparing_of c.self.inside.preparation in
    let with : List (List ℕ) → ℕ → JobView = λ names status. record {
      preparing = preparing;
      state = record {
        inputs = c.self.inside.inputs;
        policy = c.self.inside.selector.policy;
        state = c.self.inside.selector.state;
        names = names;
        output = c.self.inside.output;
        decided = c.self.inside.decided;
      };
      programs = c.self.inside.selector.programs;
      err = c.end.new.self.device;
      turns = c.self.inside.turns + 1;
      done = Some status;
    } in
    let P : JobView → Type 0 = λ v. with c.end.new.self.names c.status_at_end-status.result ≡ ending c.args.end c.end.new.self.device v in
    subst P c.self.view_is (ap₂ with c.end.ensures.names c.status_at_end-status.ensures)

pub returns-clause-exact : goal.returns-clause-exact
returns-clause-exact g c =
    let P : JobView → Type 0 = λ v. IsTold g.E.Output.tells v.err (end_message v.state.names v.state.inputs.cursors c.args.end) c.end.new.self.device in
    subst P c.self.view_is c.end.ensures.exact

pub returns-clause-quiet : goal.returns-clause-quiet
returns-clause-quiet g c = λ clean.
    let P : JobView → Type 0 = λ v. c.end.new.self.device ≡ v.err in
    subst P c.self.view_is (ap (λ (m : MessagesView). m.device) (c.end.ensures.quiet clean))

-- A refusal writes its message, and ends the job.
use Rattle.cap_tools.proofs.Common.{◌≡◌, ◌∙◌, ℕ, ◌+◌, List, Option, None, Some, refl, ap, ap₂, arith, subst, common_steps, option_map, refusal_status}
use Rattle.cap_tools.proofs.Common.{Preparing, preparing_of, JobView, state_at, RefusesStart}
use Rattle.cap_tools.proofs.Weights.{is-light}
use Rattle.cap_tools.proofs.job.Job.refuse.Goals as goal

pub returns-clause-refused : goal.returns-clause-refused
returns-clause-refused g c =
    let preparing : Option Preparing = option_map preparing_of c.self.inside.preparation in
    let none : preparing ≡ None = ap (λ (v : JobView). v.preparing) c.self.view_is ∙ c.requires.taken in
    let with : Option Preparing → List (List ℕ) → ℕ → JobView = λ p names status. record {
      preparing = p;
      state = state_at names c.self.inside.inputs c.self.inside.selector c.self.inside.output c.self.inside.decided;
      programs = c.self.inside.selector.programs;
      err = c.refuse.new.self.device;
      turns = c.self.inside.turns + 1;
      done = Some status;
    } in
    let P : JobView → Type 0 = λ v. RefusesStart c.args.refusal g.E.Output.tells v (refusal_status c.args.refusal)
    (with preparing c.refuse.new.self.names c.status-status.result) in
    let N : Option Preparing → JobView = λ p. with p c.refuse.new.self.names c.status-status.result in
    subst P c.self.view_is (record {
      status_is = refl;
      exact = c.refuse.ensures.exact;
      new_is = ap N none ∙ ap₂ (with None) c.refuse.ensures.names
          c.status-status.ensures;
    })

pub returns-clause-keeps : goal.returns-clause-keeps
returns-clause-keeps g c = λ p.
    let light = is-light (state_at c.refuse.new.self.names c.self.inside.inputs c.self.inside.selector c.self.inside.output c.self.inside.decided)
    c.self.invariant.1 c.self.invariant.2 in
    grind (arith, common_steps, light)

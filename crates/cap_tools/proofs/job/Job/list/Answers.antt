-- The listing is written, and ends the job.
use Rattle.cap_tools.proofs.{CommandStarts.listed, Weights.is-light}
use Rattle.cap_tools.proofs.Common.{◌≡◌, true, subst, sym, arith, common_steps, JobView, IsLight, is_text, EndsList, Turn, end_of_write, end_status}
use Rattle.cap_tools.proofs.job.Job.list.Goals as goal

pub list-requires : goal.list-requires
list-requires g c =
    let T : JobView → Type 0 = λ v. is_text v.state.output ≡ true in
    subst T (sym c.self.view_is) c.requires.text

pub returns-clause-exact : goal.returns-clause-exact
returns-clause-exact g c = λ to.
    let T : JobView → Type 0 = λ v. is_text v.state.output ≡ true in
    let P : JobView → Type 0 = λ v. EndsList c.args.program.now.insns g.E.Output.tells v (Turn.Done (end_status (end_of_write c.list.result))) c.end.new.self in
    rw (c.end.ensures.done, c.end_of_write-end.ensures)
    (subst P c.self.view_is (listed c.args.program.now.insns g.E.Output.tells _ c.end.new.self c.list.new.self c.list.result
    (subst T (sym c.self.view_is) c.requires.text) (c.list.ensures.exact to)
    (rw c.end_of_write-end.ensures at c.end.ensures.ended) (rw c.end_of_write-end.ensures at c.end.ensures.exact)
    (rw c.end_of_write-end.ensures at c.end.ensures.quiet)))

pub returns-clause-keeps : goal.returns-clause-keeps
returns-clause-keeps g c = λ p.
    let L : JobView → Type 0 = λ v. IsLight v.state in
    let light = subst L (sym c.end.ensures.ended)
    (is-light (record {
      inputs = c.self.inside.inputs;
      policy = c.self.inside.selector.policy;
      state = c.self.inside.selector.state;
      names =
          c.self.inside.messages.names;
      output = c.list.new.self;
      decided = c.self.inside.decided;
    })
    (c.self.invariant.1.0, c.list.ensures.upper_bound c.self.invariant.1.1) c.self.invariant.2) in
    grind (arith, common_steps, light)

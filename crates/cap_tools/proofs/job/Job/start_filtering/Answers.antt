-- The filter is installed, or refused.
use Rattle.cap_tools.proofs.CommandStarts.{first-step, refused-step, new-unspent}
use Rattle.cap_tools.proofs.Common.{refl, sym, ap, subst, ◌∙◌, programs_of, rule_of, spent_in, ReadsFilter, asked_by, Turn, JobView, PreparesBy, PreparesOnly}
use Rattle.cap_tools.proofs.Common.{Some, with_preparing}
use Rattle.cap_tools.proofs.job.Job.start_filtering.Goals as goal

pub returns-in-Ok : goal.returns-in-Ok
returns-in-Ok g c =
    let O : JobView → Type 0 = λ j. PreparesOnly c.args.self.now j in
    let P : Turn → Type 0 = λ t. PreparesBy (Some (ReadsFilter (asked_by c.args.print.now))) g.O.Output.tells g.E.Output.tells
    (with_preparing (Some (ReadsFilter (asked_by c.args.print.now))) c.args.self.now) t c.install_filter.new.self in
    first-step g.I.Input.tells g.O.Output.tells g.E.Output.tells (ReadsFilter (asked_by c.args.print.now)) c.args.self.now c.install_filter.result
    c.install_filter.new.self c.requires.fresh
    (subst P (sym c.install_filter.ensures.more)
    (record {
      rule = rule_of c.in-Ok.filter;
      is = c.in-Ok.ensures.rule;
      programs = programs_of c.in-Ok.filter;
      made = c.in-Ok.ensures.programs;
      new_is = c.install_filter.ensures.filtered;
    })) c.install_filter.ensures.keeps
    (subst O (sym c.install_filter.ensures.filtered)
    (record {
      inputs = refl;
      decided = refl;
      unspent = new-unspent (rule_of c.in-Ok.filter) (programs_of c.in-Ok.filter) c.in-Ok.ensures.programs
          ∙ sym (ap spent_in c.requires.fresh.programs);
    }))

pub returns-in-Err : goal.returns-in-Err
returns-in-Err g c =
    refused-step g.I.Input.tells g.O.Output.tells g.E.Output.tells (ReadsFilter (asked_by c.args.print.now)) c.in-Err.refusal c.args.self.now
    c.refuse.result c.refuse.new.self c.requires.fresh c.refuse.ensures.done c.refuse.ensures.refused
    (λ refuses. record { refusal = c.in-Err.refusal; why = c.in-Err.ensures.refused; refuses = refuses }) c.refuse.ensures.keeps

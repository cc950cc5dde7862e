-- Reading an input is a step of the job, and keeps it sound.
use Rattle.cap_tools.proofs.{CommandStarts.ready-none, Programs.have-kept, Weights.read_input-small, Lefts.counted-turns, Lefts.read-on}
use Rattle.cap_tools.proofs.Common.{◌≡◌, ◌∙◌, true, false, Ok, Err, refl, ap, arith, None, Some, InputsView, asks_report, JobView, JobEnd}
use Rattle.cap_tools.proofs.Steps.{moves-sound, read-step, reads-move, same-kept}
use Rattle.cap_tools.proofs.job.Job.read_input.Goals as goal

pub invariant_of-self : goal.invariant_of-self
invariant_of-self g c =
    let found : c.read_input.result ≡ Ok true = c.in-Ok-true.is ∙ ap Ok c.in-Ok-true.field-0-test in
    moves-sound _ _ c.read_input.new.self c.self.inside.selector c.self.inside.output c.self.inside.decided c.self.view_is c.self.invariant
    c.requires.prepared (same-kept _ c.self.invariant)
    (reads-move _ _ c.args.input c.read_input.new.self c.read_input.result (Ok true) c.self.view_is c.self.invariant c.requires.next found
    c.read_input.ensures.steps tt) (omega arith)

pub invariant_of-self-in-Ok-false : goal.invariant_of-self-in-Ok-false
invariant_of-self-in-Ok-false g c =
    let found : c.read_input.result ≡ Ok false = c.in-Ok-false.is ∙ ap Ok c.in-Ok-false.field-0-test in
    moves-sound _ _ c.read_input.new.self c.close.new.selector c.close.new.output c.self.inside.decided c.self.view_is c.self.invariant c.requires.prepared
    (record {
      policy = c.close.ensures.policy;
      programs = have-kept c.self.inside.selector c.close.new.selector c.close.ensures.programs
          c.close.ensures.policy c.self.invariant.3;
      marks = c.close.ensures.marks c.self.invariant.2;
      room = c.close.ensures.room;
      few =
          c.close.ensures.upper_bound c.self.invariant.1.1;
    })
    (reads-move _ _ c.args.input c.read_input.new.self c.read_input.result (Ok false) c.self.view_is c.self.invariant c.requires.next found
    c.read_input.ensures.steps tt) (omega arith)

pub invariant_of-self-in-Err : goal.invariant_of-self-in-Err
invariant_of-self-in-Err g c =
    let less = (read-on c.self.inside.inputs c.read_input.new.self c.args.input c.read_input.result (rw (← c.self.view_is) at c.requires.next)
    c.read_input.ensures.steps).kept in
    let was = c.self.invariant.0 in (
      omega (arith, less, was),
      (
        read_input-small c.self.inside.inputs c.read_input.new.self c.args.input c.read_input.result c.read_input.ensures.steps c.self.invariant.1.0,
        c.self.invariant.1.1,
      ),
      c.self.invariant.2,
      c.self.invariant.3,
      (counted-turns c.self.inside.done c.self.inside.turns _ c.self.invariant.4, omega arith),
      tt,
      ready-none _ _ (ap (λ (v : JobView). v.preparing) c.self.view_is ∙ c.requires.prepared),
    )

pub returns-in-Ok-true : goal.returns-in-Ok-true
returns-in-Ok-true g c =
    read-step g.I.Input.tells g.O.Output.tells _ _ c.args.input c.read_input.new.self c.read_input.result (Ok true) None c.self.inside.selector
    c.self.inside.output c.self.inside.done c.self.view_is c.self.invariant c.requires.next
    (c.in-Ok-true.is ∙ ap Ok c.in-Ok-true.field-0-test) c.read_input.ensures.steps c.read_input.ensures.exact (same-kept _ c.self.invariant) refl
    (λ on. tt) (λ on. refl) (λ none. refl) (λ to. (refl, refl, refl))

pub returns-in-Ok-false : goal.returns-in-Ok-false
returns-in-Ok-false g c =
    read-step g.I.Input.tells g.O.Output.tells _ _ c.args.input c.read_input.new.self c.read_input.result (Ok false) c.close.result
    c.close.new.selector c.close.new.output c.self.inside.done c.self.view_is c.self.invariant c.requires.next
    (c.in-Ok-false.is ∙ ap Ok c.in-Ok-false.field-0-test) c.read_input.ensures.steps c.read_input.ensures.exact
    (record {
      policy = c.close.ensures.policy;
      programs = have-kept c.self.inside.selector c.close.new.selector c.close.ensures.programs
          c.close.ensures.policy c.self.invariant.3;
      marks = c.close.ensures.marks c.self.invariant.2;
      room = c.close.ensures.room;
      few =
          c.close.ensures.upper_bound c.self.invariant.1.1;
    })
    c.close.ensures.programs (λ on. tt) (λ on. refl)
    (λ none. c.close.ensures.kept (ap (λ (f : InputsView). asks_report f.order c.self.inside.selector.policy) c.read_input.ensures.steps.is ∙ none))
    c.close.ensures.exact

pub returns-in-Err : goal.returns-in-Err
returns-in-Err g c =
    read-step g.I.Input.tells g.O.Output.tells _ _ c.args.input c.read_input.new.self c.read_input.result (Err c.in-Err.fault)
    (Some (JobEnd.FaultIn c.args.input c.in-Err.fault)) c.self.inside.selector c.self.inside.output (Some 1) c.self.view_is c.self.invariant c.requires.next
    c.in-Err.is c.read_input.ensures.steps c.read_input.ensures.exact (same-kept _ c.self.invariant) refl (λ on. (cc)) (λ on. (cc)) (λ none. refl)
    (λ to. (refl, refl, refl))

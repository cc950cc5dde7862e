-- Deciding a packet is a step of the job, and keeps it sound.
use Rattle.cap_tools.proofs.{CommandStarts.ready-none, Programs.have-decided, Steps.decided-step, Steps.decides-move, Steps.failed-step, Steps.moves-sound}
use Rattle.cap_tools.proofs.Common.{◌+◌, ◌∙◌, ap, arith, JobView, decided-waits}
use Rattle.cap_tools.proofs.job.Job.decide_next.Goals as goal

pub decide-requires : goal.decide-requires
decide-requires g c =
    decided-waits c.self.inside.inputs.order c.self.inside.inputs.cursors c.args.input c.cursor.result.now c.cursor.ensures
    (rw (← c.self.view_is) at c.requires.next)

pub invariant_of-self : goal.invariant_of-self
invariant_of-self g c =
    let sound = have-decided c.cursor.result.now.source.packet c.self.inside.selector (c.self.inside.decided + 1) c.decide.new.selector
    c.decide.ensures.spends c.decide.ensures.policy c.self.invariant.3 in
    moves-sound _ _ c.mark_decided.new.self c.decide.new.selector c.decide.new.output (c.self.inside.decided + 1) c.self.view_is c.self.invariant
    c.requires.prepared
    (record {
      policy = c.decide.ensures.policy;
      programs = sound;
      marks = c.decide.ensures.marks;
      room = c.decide.ensures.room;
      few =
          c.decide.ensures.upper_bound c.self.invariant.1.1;
    })
    (decides-move _ _ c.args.input c.mark_decided.new.self c.self.view_is c.self.invariant c.requires.next c.mark_decided.ensures) (omega arith)

pub invariant_of-self-in-Err : goal.invariant_of-self-in-Err
invariant_of-self-in-Err g c = (
  c.self.invariant.0,
  (c.self.invariant.1.0, c.decide.ensures.upper_bound c.self.invariant.1.1),
  c.decide.ensures.marks,
  have-decided c.cursor.result.now.source.packet c.self.inside.selector (c.self.inside.decided + 1) c.decide.new.selector c.decide.ensures.spends
      c.decide.ensures.policy c.self.invariant.3,
  c.self.invariant.4,
  c.self.invariant.5,
  ready-none _ _ (ap (λ (v : JobView). v.preparing) c.self.view_is ∙ c.requires.prepared),
)

pub returns-in-Ok : goal.returns-in-Ok
returns-in-Ok g c =
    let sound = have-decided c.cursor.result.now.source.packet c.self.inside.selector (c.self.inside.decided + 1) c.decide.new.selector
    c.decide.ensures.spends c.decide.ensures.policy c.self.invariant.3 in
    rw c.end_after.ensures (decided-step g.I.Input.tells g.O.Output.tells _ c.args.self.now c.args.input c.cursor.result.now c.mark_decided.new.self
    c.in-Ok.verdict c.decide.new.selector c.decide.new.output (record {
      is = c.self.view_is;
      sound = c.self.invariant;
      comes = c.requires.next;
      among = c.cursor.ensures;
      keeps = record {
        policy = c.decide.ensures.policy;
        programs = sound;
        marks = c.decide.ensures.marks;
        room = c.decide.ensures.room;
        few =
            c.decide.ensures.upper_bound c.self.invariant.1.1;
      };
      spends = c.decide.ensures.spends;
      passed = c.decide.ensures.passed;
      counted = c.decide.ensures.counted;
      exact = c.in-Ok.ensures.exact;
    }) c.mark_decided.ensures)

pub returns-in-Err : goal.returns-in-Err
returns-in-Err g c =
    let sound = have-decided c.cursor.result.now.source.packet c.self.inside.selector (c.self.inside.decided + 1) c.decide.new.selector
    c.decide.ensures.spends c.decide.ensures.policy c.self.invariant.3 in
    failed-step g.I.Input.tells g.O.Output.tells _ c.args.self.now c.args.input c.cursor.result.now c.in-Err.end c.decide.new.selector
    c.decide.new.output (record {
      is = c.self.view_is;
      sound = c.self.invariant;
      comes = c.requires.next;
      among = c.cursor.ensures;
      keeps = record {
        policy = c.decide.ensures.policy;
        programs = sound;
        marks = c.decide.ensures.marks;
        room = c.decide.ensures.room;
        few =
            c.decide.ensures.upper_bound c.self.invariant.1.1;
      };
      spends = c.decide.ensures.spends;
      passed = c.decide.ensures.passed;
      counted = c.decide.ensures.counted;
      exact = c.in-Err.ensures.exact;
    })

-- If the next packet is at hand, it is taken in this step; else the input is read on as it was.
use Rattle.cap_tools.proofs.Common.{true, Ok, refl, None, arith}
use Rattle.cap_tools.proofs.Steps.{moves-sound, read-step, reads-move, same-kept}
use Rattle.cap_tools.proofs.job.Job.read_next.Goals as goal

pub invariant_of-self : goal.invariant_of-self
invariant_of-self g c =
    moves-sound _ _ c.take_at_hand.new.self c.self.inside.selector c.self.inside.output c.self.inside.decided c.self.view_is c.self.invariant
    c.requires.prepared (same-kept _ c.self.invariant)
    (reads-move _ _ c.args.input c.take_at_hand.new.self (Ok true) (Ok true) c.self.view_is c.self.invariant c.requires.next refl
    (c.take_at_hand.ensures.steps c.if-take_at_hand.true) tt) (omega arith)

pub returns-then-take_at_hand : goal.returns-then-take_at_hand
returns-then-take_at_hand g c =
    read-step g.I.Input.tells g.O.Output.tells _ _ c.args.input c.take_at_hand.new.self (Ok true) (Ok true) None c.self.inside.selector
    c.self.inside.output c.self.inside.done c.self.view_is c.self.invariant c.requires.next refl (c.take_at_hand.ensures.steps c.if-take_at_hand.true)
    (c.take_at_hand.ensures.exact c.if-take_at_hand.true) (same-kept _ c.self.invariant) refl (λ on. tt) (λ on. refl) (λ none. refl)
    (λ to. (refl, refl, refl))

pub invariant_of-self-2 : goal.invariant_of-self-2
invariant_of-self-2 g c = rw (c.take_at_hand.ensures.nothing c.if-take_at_hand.false) c.self.invariant

pub returns : goal.returns
returns g c = rw (c.take_at_hand.ensures.nothing c.if-take_at_hand.false, c.self.view_is) at c.read_slowly.ensures

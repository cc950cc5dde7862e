-- Two nodes at once lead to the same walk.
use Rattle.flt_gen.proofs.{Common.◌∙◌, Common.if◌then◌else◌, Common.sym, Common.ap, Common.arith, Common.Some, Common.None, Turned.both_put}
use Rattle.flt_gen.proofs.walk.Walk.emit_nodes.Goals as goal

pub nodes-preserved-then-branch : goal.nodes-preserved-then-branch
nodes-preserved-then-branch g c =
    let i = c.nodes.invariant in let v = c.emit_both_nodes.new.self in let within = i.within in let more = c.if-left-eq0.false in
    let none = sym c.last_relation.ensures.is ∙ c.in_default.is in
    let both = c.in_ok-emit_both_nodes.ensures.emits ∙ ap (λ t. if t then Some v else None) c.if-branch.true in
    record { within = omega arith; same = both_put c.args.link c.args.nodes.now c.nodes.left c.nodes.self v (omega arith) within none both ∙ i.same }

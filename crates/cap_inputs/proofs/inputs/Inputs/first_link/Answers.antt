-- At the first cursor, the link type found is that of all cursors.
use Rattle.std.proofs.{Common.◌≡◌, Common.arith, lemmas.Grind.common_steps}
use Rattle.cap_inputs.proofs.inputs.Inputs.first_link.Goals as goal

pub loop-i-preserved : goal.loop-i-preserved
loop-i-preserved g c = grind (arith, common_steps)

pub loop-i-init : goal.loop-i-init
loop-i-init g c = grind (arith, common_steps)

pub returns : goal.returns
returns g c =
    let none : c.loop-i.i ≡ 0 = omega arith in
    rw (← c.self.view_is, ← c.as_slice-cursors.ensures.value) (rw none at c.loop-i.invariant.1)

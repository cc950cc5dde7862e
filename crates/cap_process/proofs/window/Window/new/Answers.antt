-- An empty window has a sound index.
use Rattle.{cap_process.proofs.Indexes.sound_new, std.proofs.Common.arith, std.proofs.lemmas.Grind.common_steps}
use Rattle.cap_process.proofs.window.Window.new.Goals as goal

pub invariant_of-result : goal.invariant_of-result
invariant_of-result g c =
    rw (c.in_ok-marks.ensures, c.in_ok-links.ensures)
    (sound_new c.head_mask-mask.result c.args.capacity c.in_ok-heads.heads.items c.requires (grind (arith, common_steps)) (λ h lt. grind (arith, common_steps)))

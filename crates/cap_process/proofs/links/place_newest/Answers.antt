-- The newest mark goes on top of its tree, and each mark that it displaces moves one level down.
use Rattle.std.proofs.Common.{◌≡◌, ◌==◌, ◌∙◌, ℕ, false, ◌-◌, ◌<◌, sym, ap, refl, arith, length}
use Rattle.cap_process.specs.inside.Index.{mark_bit, links_at, mark_at}
use Rattle.cap_process.proofs.Trees.{after_links, placing_end, placing_equal, placing_next, step_at}
use Rattle.{std.proofs.lemmas.List.length-set, cap_process.proofs.Marks.got}
use Rattle.cap_process.proofs.links.place_newest.Goals as goal

nonzero : (n : ℕ) → (n == 0) ≡ false → 0 < n
nonzero n e = grind arith

pub loop-step-init : goal.loop-step-init
loop-step-init g c =
    let some : 0 < length c.args.marks.now.items = grind (arith, nonzero) in
    record {
      long = c.requires.long;
      capacity = refl;
      counted = omega (arith, c.len.ensures.len);
      placing = λ mask hung. (let place : c.len.result - 1 ≡ length c.args.marks.now.items - 1 = omega (arith, c.len.ensures.len) in
          rw place (record { tree = hung; finish = λ done same below. record { below = below; others = same } }));
    }

pub returns-then-is_same_mark-clause-placed : goal.returns-then-is_same_mark-clause-placed
returns-then-is_same_mark-clause-placed g c = λ some mask hung.
    let marks = c.args.marks.now.items in
    let place = c.loop-step.place in
    let top = place - c.loop-step.step in
    let above : mark_at marks place ≡ c.unwrap-above.result.now = got marks place _ _ _ c.get.ensures c.unwrap-above.ensures in
    let below : mark_at marks top ≡ c.unwrap-below.result.now = got marks top _ _ _ c.get-in-loop-step.ensures c.unwrap-below.ensures in
    let under : links_at c.loop-step.links.items top ≡ c.unwrap.result.now =
    got c.loop-step.links.items top _ _ _ c.get-in-loop-step-2.ensures c.unwrap.ensures in
    placing_equal (c.loop-step.invariant.placing mask hung) c.plus_step.result (omega arith) (omega arith) (omega arith) (omega arith)
    (above ∙ c.is_same_mark.ensures.0 c.if-is_same_mark.true ∙ sym below)
    (rw under (after_links c.unwrap.result.now c.plus_step.result c.loop-step.step c.plus_step.ensures.zeros c.plus_step.ensures.ones))

pub loop-step-preserved : goal.loop-step-preserved
loop-step-preserved g c =
    let marks = c.args.marks.now.items in
    let place = c.loop-step.place in
    let top = place - c.loop-step.step in
    let below : mark_at marks top ≡ c.unwrap-below.result.now = got marks top _ _ _ c.get-in-loop-step.ensures c.unwrap-below.ensures in
    let under : links_at c.loop-step.links.items top ≡ c.unwrap.result.now =
    got c.loop-step.links.items top _ _ _ c.get-in-loop-step-2.ensures c.unwrap.ensures in
    let bit = c.mark_bit-bit.result in
    let step = step_at (c.loop-step.invariant.placing (c.requires.hung (omega arith)).0 (c.requires.hung (omega arith)).1) in
    record {
      long = grind (arith, length-set);
      capacity = c.loop-step.invariant.capacity;
      counted = omega (arith, step);
      placing = λ mask hung.
          (rw (c.link.ensures, ← under)
          (placing_next (c.loop-step.invariant.placing mask hung) c.with_link.result bit (omega arith) (omega arith) (omega arith)
          (c.mark_bit-bit.ensures ∙ ap (λ m. mark_bit m c.loop-step.depth) (sym below))
          c.with_link.ensures.bit
          (grind (arith, after_links))));
    }

pub loop-step-smaller : goal.loop-step-smaller
loop-step-smaller g c = grind (arith, step_at)

pub returns-clause-placed : goal.returns-clause-placed
returns-clause-placed g c = λ some mask hung.
    placing_end (c.loop-step.invariant.placing mask hung) (record { zeros = c.loop-step.step; ones = c.loop-step.step }) (omega arith) (omega arith) refl refl

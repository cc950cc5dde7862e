-- The parts fit within the length of all parts together.
use Rattle.std.proofs.{Common.[], Common.ℕ, Common.List, Common.arith, lemmas.List.Folds.length-flat_map-take}
use Rattle.std.specs.Borrow.{Bor}
use Rattle.capkit_c.proofs.memory.writing.put_parts.Goals as goal

abbrev none : Bor (List ℕ)
none = record { ref_ptr = (0, 0); now = [] }

pub slice_bounds-copy_from_slice-end : goal.slice_bounds-copy_from_slice-end
slice_bounds-copy_from_slice-end c =
    let within = length-flat_map-take (λ (part : Bor (List ℕ)). part.now) c.args.parts.now c.loop-part.part-index none c.loop-part-test.true in
    omega (arith, within, c.loop-part.invariant.counted, c.requires)

-- If a part fails, all parts before it and a prefix of it are written, and the count says how many
-- bytes.
use Rattle.std.proofs.Common.{[], ℕ, List, arith}
use Rattle.{cap_octet.proofs.Writing.parts-stop-at, std.proofs.lemmas.List.Folds.length-flat_map-take, std.specs.Borrow.Bor}
use Rattle.cap_octet.proofs.device.write_all_parts.Goals as goal

abbrev none : Bor (List ℕ)
none = record { ref_ptr = (0, 0); now = [] }

pub returns-in-Err-clause-front : goal.returns-in-Err-clause-front
returns-in-Err-clause-front g c =
    let within = length-flat_map-take (λ (part : Bor (List ℕ)). part.now) c.args.parts.now c.loop-part.part-index none c.loop-part-test.true in
    omega (arith, within, c.in-Err.ensures.front, c.loop-part.invariant.before)

pub returns-in-Err-clause-exact : goal.returns-in-Err-clause-exact
returns-in-Err-clause-exact g c = λ tells.
    parts-stop-at (λ (part : Bor (List ℕ)). part.now) c.args.parts.now c.loop-part.part-index none _ _ _ _ c.in-Err.stopped c.loop-part-test.true
    c.loop-part.invariant.before (c.loop-part.invariant.exact tells) c.in-Err.ensures.front (c.in-Err.ensures.exact tells)

pub overflow_add-result : goal.overflow_add-result
overflow_add-result g c =
    let within = length-flat_map-take (λ (part : Bor (List ℕ)). part.now) c.args.parts.now c.loop-part.part-index none c.loop-part-test.true in
    omega (arith, within, c.in-Err.ensures.front, c.loop-part.invariant.before, c.requires)

pub overflow_add-before : goal.overflow_add-before
overflow_add-before g c =
    let within = length-flat_map-take (λ (part : Bor (List ℕ)). part.now) c.args.parts.now c.loop-part.part-index none c.loop-part-test.true in
    omega (arith, within, c.loop-part.invariant.before, c.requires)

-- If a part fails, all parts before it and a prefix of it are written.
use Rattle.std.proofs.Common.{[], ℕ, List}
use Rattle.{std.specs.Borrow.Bor, cap_octet.proofs.Writing.parts-stop}
use Rattle.cap_octet.proofs.device.write_parts.Goals as goal

abbrev none : Bor (List ℕ)
none = record { ref_ptr = (0, 0); now = [] }

pub returns-in-Err-clause-exact : goal.returns-in-Err-clause-exact
returns-in-Err-clause-exact g c = λ tells.
    parts-stop (λ (part : Bor (List ℕ)). part.now) c.args.parts.now c.loop-part.part-index none _ _ _ c.in-Err.field-0 c.loop-part-test.true
    (c.loop-part.invariant.exact tells) c.in-Err.ensures.front (c.in-Err.ensures.exact tells)

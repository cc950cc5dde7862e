-- With no lower one, those that aren't higher are counted.
use Rattle.std.proofs.Common.{arith, refl, ◌≡◌}
use Rattle.flt_gen.proofs.cases.middle.Goals as goal

pub returns : goal.returns
returns c =
    let none : c.count_lower-at.result ≡ 0 = omega (arith, c.if-at-gt0.false) in
    rw (← c.test_at.ensures, ← c.lowest.ensures, ← c.into-number.ensures, ← c.count_lower-at.ensures, none, c.count_lower.ensures) refl

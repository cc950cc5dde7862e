-- After lower intervals one comes before the first that isn't lower.
use Rattle.std.proofs.Common.{arith}
use Rattle.flt_gen.proofs.Ascending.{inserted_at}
use Rattle.flt_gen.proofs.group.place_among.Goals as goal

pub returns-else-numbers-at-clause-place : goal.returns-else-numbers-at-clause-place
returns-else-numbers-at-clause-place c =
    let i = c.lower.invariant in let no = c.if-numbers-at.false in
    inserted_at c.args.new c.args.numbers.now c.lower.at i.within i.lower (λ m. omega arith)

pub returns-after-lower-clause-place : goal.returns-after-lower-clause-place
returns-after-lower-clause-place c =
    let i = c.lower.invariant in let no = c.lower-test.false in
    inserted_at c.args.new c.args.numbers.now c.lower.at i.within i.lower (λ m. omega arith)

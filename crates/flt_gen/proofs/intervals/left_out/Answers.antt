-- More than one block, or not.
use Rattle.std.proofs.{Common.arith, Common.refl, Common.◌≡◌, Common.true, Common.false, lemmas.Bool.Decides.nat_tests}
use Rattle.std.specs.Prelude.{nat_lt}
use Rattle.flt_gen.proofs.intervals.left_out.Goals as goal

pub returns-then-count_blocks-gt1 : goal.returns-then-count_blocks-gt1
returns-then-count_blocks-gt1 c =
    let more = c.if-count_blocks-gt1.true in let many : nat_lt 1 c.count_blocks.result ≡ true = grind (arith, nat_tests) in
    rw (← c.idle_bits-last.ensures, ← c.count_blocks.ensures, c.if-not-is_masked.false, many) refl

pub returns : goal.returns
returns c =
    let few = c.if-count_blocks-gt1.false in let less : nat_lt 1 c.count_blocks.result ≡ false = grind (arith, nat_tests) in
    rw (← c.idle_bits-last.ensures, ← c.count_blocks.ensures, c.if-not-is_masked.false, less) refl

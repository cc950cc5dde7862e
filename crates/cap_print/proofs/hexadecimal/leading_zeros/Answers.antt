-- The search stops at the first digit that isn't zero, or at `most`.
use Rattle.std.proofs.Common.{◌∙◌, arith}
use Rattle.cap_print.proofs.Digits.{zeros-more, zeros-end}
use Rattle.cap_print.proofs.hexadecimal.leading_zeros.Goals as goal

pub returns-then-digits-i-ne48-clause-value : goal.returns-then-digits-i-ne48-clause-value
returns-then-digits-i-ne48-clause-value c =
    zeros-end c.args.digits.now c.args.most c.loop-i.i c.loop-i-test.true (omega arith) c.if-digits-i-ne48.true ∙ c.loop-i.invariant

pub loop-i-preserved : goal.loop-i-preserved
loop-i-preserved c =
    zeros-more c.args.digits.now c.args.most c.loop-i.i c.loop-i-test.true (omega arith) c.if-digits-i-ne48.false ∙ c.loop-i.invariant

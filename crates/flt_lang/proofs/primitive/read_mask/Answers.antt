-- The two tokens of a mask are read.
use Rattle.flt_lang.proofs.Stepping.{mask_prefix_at, mask_at}
use Rattle.flt_lang.proofs.primitive.read_mask.Goals as goal

pub returns-in-Some-Operator-Divide-Some-Number : goal.returns-in-Some-Operator-Divide-Some-Number
returns-in-Some-Operator-Divide-Some-Number c = mask_prefix_at c.args.tokens.now _ (cc) (cc)

pub returns-in-Some-Mask-Some-Dotted : goal.returns-in-Some-Mask-Some-Dotted
returns-in-Some-Mask-Some-Dotted c = mask_at c.args.tokens.now _ _ (cc) (cc)

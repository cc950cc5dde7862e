-- The two tokens of a prefix length are read.
use Rattle.flt_lang.proofs.Stepping.{prefix_at}
use Rattle.flt_lang.proofs.primitive.read_prefix_len.Goals as goal

pub returns-in-Some-Operator-Divide-Some-Number : goal.returns-in-Some-Operator-Divide-Some-Number
returns-in-Some-Operator-Divide-Some-Number c = prefix_at c.args.tokens.now _ (cc) (cc)

-- One more is joined, or all are.
use Rattle.std.proofs.Common.{arith}
use Rattle.flt_short.proofs.Knowing.{joined_more, joined_all}
use Rattle.flt_short.proofs.facts.join_facts.Goals as goal

pub loop-at-preserved : goal.loop-at-preserved
loop-at-preserved c = joined_more c.args.facts.now c.args.others.now c.loop-at.facts c.loop-at.at _ _ (omega arith)
    c.loop-at.invariant c.claim_of_both.ensures

pub returns : goal.returns
returns c = joined_all c.args.facts.now c.args.others.now c.loop-at.facts c.loop-at.at (omega arith) c.loop-at.invariant

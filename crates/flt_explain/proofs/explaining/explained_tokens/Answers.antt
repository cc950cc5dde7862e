-- Each turn writes the node before those that are written.
use Rattle.flt_explain.proofs.{Common.arith, Writing.writes_on, Writing.all_written}
use Rattle.flt_explain.proofs.explaining.explained_tokens.Goals as goal

pub loop-at-preserved : goal.loop-at-preserved
loop-at-preserved g c = record {
  in_range = omega arith;
  writer = writes_on c.nodes-nodes.result.now c.loop-at.at _ c.loop-at.writer _ (omega arith) c.loop-at.invariant.in_range c.loop-at.invariant.writer
      c.in_ok-write_node.ensures;
}

pub returns : goal.returns
returns g c =
    all_written c.args.expr.now c.nodes-nodes.result.now c.loop-at.writer c.into_tokens.result.items c.loop-at.at c.loop-at-test.false
    c.nodes-nodes.ensures c.loop-at.invariant.writer c.into_tokens.ensures

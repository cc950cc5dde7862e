-- A step consumes tokens, and the others are read as before.
use Rattle.std.proofs.Common.{◌≤◌, length, drop, arith, zero-le}
use Rattle.std.proofs.lemmas.List.{length-drop, take_rest}
use Rattle.flt_lang.proofs.Stepping.{runs_on, run_whole, read_stops, run_ends, same_given}
use Rattle.flt_lang.proofs.reader.Reader.read.Goals as goal

pub loop-at-preserved : goal.loop-at-preserved
loop-at-preserved g c =
    let ts = c.args.tokens.now in
    let at = c.loop-at.at in
    let within : c.in_ok-used.used ≤ length (drop at ts) = rw (take_rest ts at) at c.in_ok-used.ensures.within in
    record {
      in_range = omega (arith, length-drop at ts);
      runs = runs_on ts at c.in_ok-used.used c.loop-at.self.frames c.step.new.self.frames c.loop-at.operand c.in_ok-used.next c.loop-at.self.nodes
          c.step.new.self.nodes _ c.in_ok-used.ensures.ok c.loop-at.invariant.runs;
    }

pub loop-at-init : goal.loop-at-init
loop-at-init g c = record {
  in_range = zero-le;
  runs = run_whole c.args.tokens.now c.args.self.now.frames c.args.self.now.nodes c.requires.frames
      c.requires.nodes c.if-is_empty.ensures;
}

pub returns-in_err-used : goal.returns-in_err-used
returns-in_err-used g c = record {
  reads = read_stops c.args.tokens.now c.loop-at.at c.loop-at.self.frames c.loop-at.operand c.loop-at.self.nodes
      c.in_err-used.field-0.0 _ c.step.new.self.nodes c.from_residual.result c.in_err-used.ensures.none c.in_err-used.ensures.err
      c.loop-at.invariant.runs c.from_residual.ensures.1;
}

pub returns : goal.returns
returns g c = record {
  reads = same_given (run_ends c.args.tokens.now c.loop-at.at c.loop-at.self.frames c.loop-at.operand c.loop-at.self.nodes _
      c.loop-at-test.false c.loop-at.invariant.runs) c.finish.ensures.reads;
}

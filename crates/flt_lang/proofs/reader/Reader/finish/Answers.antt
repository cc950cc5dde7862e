-- All frames are completed, and one truth value remains.
use Rattle.std.proofs.Common.{refl}
use Rattle.flt_lang.proofs.Stepping.{failed, same_given, finish_reads}
use Rattle.flt_lang.proofs.reader.Reader.finish.Goals as goal

pub returns-in_err-reduced : goal.returns-in_err-reduced
returns-in_err-reduced g c = record {
  reads = failed c.from_residual.result c.in_err-reduced.ensures.reads c.from_residual.ensures.1
      (λ none. rw (c.in-Some.is, none) refl);
}

pub returns-in-None : goal.returns-in-None
returns-in-None g c = record {
  reads = same_given (finish_reads c.args.operand c.in-Some.read c.in_ok-reduced.reduced c.args.self.now.frames
      c.reduce.new.self.frames c.args.self.now.nodes c.reduce.new.self.nodes c.pop_frame.new.self.nodes c.in-Some.is c.in_ok-reduced.ensures.reads.ok
      c.in-None.ensures.frames c.in-None.ensures.nodes) c.write_truth.ensures.reads;
}

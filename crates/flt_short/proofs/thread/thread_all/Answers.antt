-- One more is threaded, or all are.
use Rattle.flt_short.proofs.Threading.{threaded_more, threaded_all, threads}
use Rattle.std.proofs.{Common.length-set, Common.◌+◌, Common.arith, lemmas.List.take_rest}
use Rattle.flt_short.proofs.thread.thread_all.Goals as goal

pub loop-at-preserved : goal.loop-at-preserved
loop-at-preserved c =
    let at = c.loop-at.at in
    let insns = c.loop-at.insns in
    let seen = c.thread_insn-insn.new.seen in
    let here = rw (take_rest insns (at + 1), c.index-insns-at.is) at c.thread_insn-insn.ensures in
    record {
      shape = omega (arith, length-set insns at c.thread_insn-insn.result);
      so_far = threaded_more c.arrive.new.seen c.args.insns.now c.loop-at.seen seen c.known_at-here.result insns at c.index-insns-at.result
          c.thread_insn-insn.result (omega arith) c.loop-at.invariant.so_far
          c.known_at-here.ensures here;
    }

pub returns : goal.returns
returns c =
    threads _ c.args.insns.now c.arrive.new.seen (λ p n s. c.arrive.ensures.comes p n s (c.nothing_known.ensures p n s))
    (threaded_all c.arrive.new.seen c.args.insns.now c.loop-at.seen c.loop-at.insns c.loop-at.at (omega arith) c.loop-at.invariant.so_far)

-- The lines so far are written, and if the output fails, a prefix of the listing.
use Rattle.flt_bpf.proofs.Assembling.{line_bytes, stopped_front, stopped_told, more_told, more_size}
use Rattle.std.proofs.Common.{◌∙◌, arith, rules}
use Rattle.flt_bpf.proofs.{Checking.parts, Common.length-decimal-le, Common.common_steps}
use Rattle.flt_bpf.proofs.writing.write_listing.Goals as goal

pub put_number-start-requires-clause-room : goal.put_number-start-requires-clause-room
put_number-start-requires-clause-room g c = search (arith, parts, length-decimal-le)

pub returns-in-Err-clause-front : goal.returns-in-Err-clause-front
returns-in-Err-clause-front g c = search (arith, stopped_front, line_bytes)

pub returns-in-Err-clause-exact : goal.returns-in-Err-clause-exact
returns-in-Err-clause-exact g c =
    λ tells. rw (← c.insns-insns.ensures.insns) (stopped_told _ _ _ c.insns-insns.result.now c.loop-insn.insn-index _ c.loop-insn.written
    c.in-Err.stopped.written _ c.loop-insn-test.true (line_bytes c.put_insn_line-start.new.line c.put_insn_line-start.result
    c.put_insn_line-start.array_long ∙ c.put_insn_line-start.ensures.written) c.in-Err.ensures.front c.loop-insn.invariant.size
    (c.loop-insn.invariant.exact tells) (c.in-Err.ensures.exact tells))

pub loop-insn-preserved : goal.loop-insn-preserved
loop-insn-preserved g c =
    let bytes = line_bytes c.put_insn_line-start.new.line c.put_insn_line-start.result c.put_insn_line-start.array_long
    ∙ c.put_insn_line-start.ensures.written in
    record {
      bounded = omega arith;
      size = more_size c.insns-insns.result.now c.loop-insn.insn-index _ c.loop-insn.written c.put_insn_line-start.result
          c.put_insn_line-start.new.line c.loop-insn-test.true c.put_insn_line-start.array_long bytes c.loop-insn.invariant.size;
      failed = search rules;
      room = search rules;
      exact = λ tells. more_told _ _ _ c.insns-insns.result.now c.loop-insn.insn-index _ _ c.loop-insn-test.true bytes
          (c.loop-insn.invariant.exact tells) (c.in_default.ensures.exact tells);
    }

pub loop-insn-init : goal.loop-insn-init
loop-insn-init g c = search (arith, common_steps)

pub overflow_add-result : goal.overflow_add-result
overflow_add-result g c = search (arith, parts)

pub overflow_add-written : goal.overflow_add-written
overflow_add-written g c = search (arith, parts)

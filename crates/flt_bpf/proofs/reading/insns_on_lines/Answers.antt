-- The instructions so far, followed by those of the other lines, are all instructions.
use Rattle.std.proofs.Common.{◌∙◌, sym, arith, rules}
use Rattle.flt_bpf.proofs.LineByLine.{read_all, read_beyond, read_missing, read_more, read_none, read_wrong}
use Rattle.flt_bpf.proofs.reading.insns_on_lines.Goals as goal

pub loop-at-init : goal.loop-at-init
loop-at-init g c = search (arith, read_none)

pub returns-then-is_empty-clause-wrong : goal.returns-then-is_empty-clause-wrong
returns-then-is_empty-clause-wrong g c = (_, read_missing c.loop-at.rest.now c.loop-at.invariant c.loop-at-test.true (search rules), omega arith)

pub returns-in-None-clause-wrong : goal.returns-in-None-clause-wrong
returns-in-None-clause-wrong g c =
    (_, read_wrong c.loop-at.invariant c.loop-at-test.true c.first_line-first.ensures (sym c.insn_on_line.ensures ∙ c.in-None.is), omega arith)

pub loop-at-preserved : goal.loop-at-preserved
loop-at-preserved g c =
    read_more c.in-Some.insn c.loop-at.invariant c.loop-at-test.true c.first_line-first.ensures (sym c.insn_on_line.ensures ∙ c.in-Some.is)
    c.in-Ok.ensures.items

pub returns-then-is_empty-2-clause-insns : goal.returns-then-is_empty-2-clause-insns
returns-then-is_empty-2-clause-insns g c = read_all c.loop-at.rest.now c.loop-at.invariant (omega arith) (search rules)

pub returns-else-is_empty-2-clause-wrong : goal.returns-else-is_empty-2-clause-wrong
returns-else-is_empty-2-clause-wrong g c = (_, read_beyond c.loop-at.rest.now c.loop-at.invariant (omega arith) (search rules), omega arith)

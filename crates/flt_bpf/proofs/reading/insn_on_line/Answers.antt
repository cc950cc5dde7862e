-- The four numbers of a line are found one after the other.
use Rattle.std.proofs.Common.{◌∙◌, sym, Some, None, arith}
use Rattle.flt_bpf.proofs.Lines.{four_numbers}
use Rattle.flt_bpf.proofs.reading.insn_on_line.Goals as goal

pub returns-in-Some : goal.returns-in-Some
returns-in-Some c =
    c.insn_with_fields.ensures ∙ sym (four_numbers c.args.line.now c.in_ok-code.code.1.now c.in_ok-jt.jt.1.now c.in_ok-jf.jf.1.now c.in_ok-code.code.0
    c.in_ok-jt.jt.0 c.in_ok-jf.jf.0 (Some c.in-Some.k) c.in_ok-code.ensures.first c.in_ok-jt.ensures.first c.in_ok-jf.ensures.first
    (sym c.in-Some.is ∙ c.only_number.ensures))

pub returns-in-None : goal.returns-in-None
returns-in-None c =
    sym (four_numbers c.args.line.now c.in_ok-code.code.1.now c.in_ok-jt.jt.1.now c.in_ok-jf.jf.1.now c.in_ok-code.code.0 c.in_ok-jt.jt.0
    c.in_ok-jf.jf.0 None c.in_ok-code.ensures.first c.in_ok-jt.ensures.first c.in_ok-jf.ensures.first (sym c.in-None.is ∙ c.only_number.ensures))

pub returns-in_err-jt : goal.returns-in_err-jt
returns-in_err-jt c = grind arith

pub returns-in_err-jf : goal.returns-in_err-jf
returns-in_err-jf c = grind arith

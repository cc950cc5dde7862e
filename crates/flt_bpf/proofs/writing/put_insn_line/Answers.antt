-- The four numbers fit the line, one after the other.
use Rattle.{flt_bpf.proofs.Common.append_assoc, std.proofs.Common.arith, std.proofs.lemmas.List.drop_all}
use Rattle.flt_bpf.proofs.writing.put_insn_line.Goals as goal

pub returns-clause-written : goal.returns-clause-written
returns-clause-written c = let end = drop_all 25 c.args.line.now (omega arith) in simp append_assoc (cc)

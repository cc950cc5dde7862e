-- The piece before the first line feed is the first line.
use Rattle.{std.proofs.Common.arith, flt_bpf.proofs.LineByLine.line_more}
use Rattle.flt_bpf.proofs.reading.first_line.Goals as goal

pub returns-in-Some : goal.returns-in-Some
returns-in-Some c = search (arith, line_more)

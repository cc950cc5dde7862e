-- The lines so far are read.
use Rattle.flt_bpf.{specs.Listing.lines_of, proofs.LineByLine.ReadTo}
use Rattle.flt_bpf.proofs.reading.insns_on_lines.Given as goal

abbrev pub invariant-loop-at : goal.invariant-loop-at
invariant-loop-at g l = ReadTo (lines_of l.text) (lines_of l.rest) l.count l.at l.insns.items

-- A text is cut at the first such byte, or is one piece.
use Rattle.std.proofs.Common.{arith}
use Rattle.flt_bpf.proofs.Lines.{cut_range, cut_none}
use Rattle.flt_bpf.proofs.reading.split_at_first.Goals as goal

pub returns-clause-pieces : goal.returns-clause-pieces
returns-clause-pieces c = cut_none c.args.stop c.args.text.now (λ k less. c.loop-at.invariant k (omega arith))

pub returns-then-byte-stop-clause-pieces : goal.returns-then-byte-stop-clause-pieces
returns-then-byte-stop-clause-pieces c = search (arith, cut_range)

-- A line with a blank isn't a single number.
use Rattle.std.proofs.Common.{◌∙◌, ap, sym, ◌∷◌}
use Rattle.flt_bpf.{proofs.Lines.blank_not_only, specs.inside.Reading.pieces_after, specs.Listing.BLANK}
use Rattle.flt_bpf.proofs.reading.only_number.Goals as goal

pub returns-in-Some : goal.returns-in-Some
returns-in-Some c =
    sym (blank_not_only c.args.line.now c.split_at_first-cut.result.piece.now c.in-Some.field-0.now (c.split_at_first-cut.ensures.pieces
    ∙ ap (λ r. c.split_at_first-cut.result.piece.now ∷ pieces_after BLANK r) c.in-Some.is))

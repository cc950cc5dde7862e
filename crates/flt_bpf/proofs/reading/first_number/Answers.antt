-- The piece before the first blank is the first number.
use Rattle.std.proofs.Common.{◌∙◌, ap, sym, ◌∷◌}
use Rattle.flt_bpf.{proofs.Lines.number_first, specs.inside.Reading.pieces_after, specs.Listing.BLANK}
use Rattle.flt_bpf.proofs.reading.first_number.Goals as goal

pub returns-clause-first : goal.returns-clause-first
returns-clause-first c =
    number_first c.args.line.now c.split_at_first-cut.result.piece.now c.in-Some-Some.rest.now c.after_blanks.result.now c.in-Some-Some.number
    (c.split_at_first-cut.ensures.pieces ∙ ap (λ r. c.split_at_first-cut.result.piece.now ∷ pieces_after BLANK r) c.in-Some-Some.is-1)
    (sym c.parse_number.ensures ∙ c.in-Some-Some.is-0) c.after_blanks.ensures

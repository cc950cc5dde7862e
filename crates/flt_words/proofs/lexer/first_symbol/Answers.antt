-- A symbol of two bytes is tried before one of one byte.
use Rattle.flt_words.proofs.Pieces.{longest_one, longest_two, no_piece_at}
use Rattle.flt_words.proofs.lexer.first_symbol.Goals as goal

pub returns-in-Some : goal.returns-in-Some
returns-in-Some c = (longest_two c.in-Some.ensures.0 c.requires c.in-Some.ensures.1, c.in-Some.ensures.1)

pub returns-in_err-kind : goal.returns-in_err-kind
returns-in_err-kind c = rw c.from_residual.ensures (no_piece_at c.args.inside c.args.rest.now c.requires c.in_default.ensures c.in_err-kind.ensures)

pub returns : goal.returns
returns c = (longest_one c.in_ok-kind.ensures.0 c.requires c.in_default.ensures c.in_ok-kind.ensures.1, c.in_ok-kind.ensures.1)

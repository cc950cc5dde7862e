-- The word is cut at its first dash.
use Rattle.std.proofs.Common.{arith}
use Rattle.flt_words.proofs.Numbers.{range_from_parts, range_lacks_none, range_parts}
use Rattle.flt_words.proofs.{Answering.answers_along, Answering.answers_both, Common.take_rest}
use Rattle.flt_words.proofs.number.parse_range.Goals as goal

pub returns-in-Some : goal.returns-in-Some
returns-in-Some c = search (arith, answers_both, take_rest, answers_along, range_from_parts, range_parts)

pub returns-in-None : goal.returns-in-None
returns-in-None c = search (arith, range_lacks_none)

-- The words are accepted or refused as the rules of the command line say.
use Rattle.capkit.proofs.Parses.{no_memory, refuses_words, takes_words}
use Rattle.capkit.proofs.arguments.matches_of.Goals as goal

pub returns-in-Ok-clause-taken : goal.returns-in-Ok-clause-taken
returns-in-Ok-clause-taken c =
    let shape = c.in-Ok.ensures in
    takes_words _ shape.0 shape.1 _ c.try_get_matches_from.result shape.4 shape.2 shape.3
    c.try_get_matches_from.ensures.matches c.try_get_matches_from.ensures.kinds

pub returns-in-Ok-clause-refused : goal.returns-in-Ok-clause-refused
returns-in-Ok-clause-refused c =
    let shape = c.in-Ok.ensures in
    refuses_words _ shape.0 shape.1 _ c.try_get_matches_from.result shape.4 shape.2 shape.3
    c.try_get_matches_from.ensures.passes c.try_get_matches_from.ensures.kinds

pub returns-in-Err-clause-refused : goal.returns-in-Err-clause-refused
returns-in-Err-clause-refused c = no_memory _ _ c.from.ensures

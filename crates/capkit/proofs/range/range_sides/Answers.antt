-- A word is split at its first hyphen; without one, both sides are the word.
use Rattle.capkit.proofs.{Common.refl, Numbers.is_split, Numbers.not_split}
use Rattle.capkit.proofs.range.range_sides.Goals as goal

pub returns-in-None : goal.returns-in-None
returns-in-None c = rw (not_split c.args.word.now _ c.split_once.ensures.cases c.in-None.is) (record { first = refl; last = refl })

pub returns-in-Some : goal.returns-in-Some
returns-in-Some c =
    let split = is_split c.args.word.now c.split_once.result c.in-Some.first c.in-Some.last c.split_once.ensures.cases c.in-Some.is in
    record { first = split.0; last = split.1 }

-- Looking the piece up in the remaining rows gives the same as in the whole table.
use Rattle.std.proofs.Common.{◌≡◌, drop, map}
use Rattle.flt_words.specs.Spellings.{look_up}
use Rattle.flt_words.proofs.spelling.look_up.Given as goal

abbrev pub invariant-loop-spelling : goal.invariant-loop-spelling
invariant-loop-spelling l =
    look_up (map (λ entry. (entry.0.now, entry.1)) (drop l.spelling-index l.table)) l.piece
    ≡ look_up (map (λ entry. (entry.0.now, entry.1)) l.table) l.piece

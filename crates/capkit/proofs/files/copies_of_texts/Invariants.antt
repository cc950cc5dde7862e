-- The names so far are copied.
use Rattle.capkit.proofs.Common.{◌≡◌, ◌∷◌, map, string_bytes, take}
use Rattle.capkit.proofs.files.copies_of_texts.Given as goal

abbrev pub invariant-loop-name : goal.invariant-loop-name
invariant-loop-name l = map string_bytes l.owned.items ≡ l.first ∷ map (λ name. name.now) (take l.name-index l.more)

-- Adding the rows of a table one by one gives the same as adding them all.
use Rattle.capkit.proofs.Common.{arith, ◌≡◌, ◌∙◌, ◌||◌, Bool, false, ◌+◌, ◌<◌, ◌≤◌, ap, add-one, drop-cons, ℕ, List, length, drop, map, slice_index_or, fold}
use Rattle.std.proofs.{Math.Bool.or-false, lemmas.List.drop_all}

pub one_more : {A B X : Type 0} (step : A → B → A) (f : X → B) (xs : List X) (i : ℕ) (d : X) (old new : A) (made : B) → i < length xs
    → new ≡ step old made → made ≡ f (slice_index_or xs i d)
    → fold step new (map f (drop (i + 1) xs)) ≡ fold step old (map f (drop i xs))
one_more step f xs i d old new made within adds is = grind (arith, slice_index_or, add-one, drop-cons)

-- after the last row none remains
pub no_more : {A B X : Type 0} (step : A → B → A) (f : X → B) (xs : List X) (i : ℕ) (new whole : A) → length xs ≤ i
    → fold step new (map f (drop i xs)) ≡ whole → new ≡ whole
no_more step f xs i new whole past is = grind (arith, drop_all)

-- an argument of only one command doesn't change the other arguments of all subcommands
pub stays : (new old own : Bool) → new ≡ (old || own) → own ≡ false → new ≡ old
stays new old own is local = is ∙ ap (λ b. old || b) local ∙ or-false old

-- Members on either side, of which one stands first: what is read of all, of the first one, and of its destination.
use Rattle.flt_gen.proofs.Common.{◌≡◌, Bool, Some, ap, ◌∙◌, arith, MatchResult, Yes, No, reading_of, both, either}

-- what isn't a rejection
abbrev pub exact : Bool → MatchResult
exact b = reading_of (Some b)

abbrev pub Known : MatchResult → Type 0
Known r = (b : Bool) × (r ≡ exact b)

pub known_either : {r s : MatchResult} → Known r → Known s → Known (either r s)
known_either h h' = grind arith

pub or_yes : (b : Bool) → either (exact b) Yes ≡ Yes
or_yes b = grind arith

surely : (r : MatchResult) → Known r → either r Yes ≡ Yes
surely r k = ap (λ x. either x Yes) k.1 ∙ or_yes k.0

-- all sources, the first one's, the first one's destination, and all destinations
abbrev pub by_first : MatchResult → MatchResult → MatchResult → MatchResult → MatchResult
by_first all s d others = either (both all (either s (either d Yes))) others

pub first_more : (s d first second all others : MatchResult) → (s ≡ No → Known all × Known first) → (d ≡ No → Known second)
    → by_first (either s all) s d (either d others) ≡ either (either s d) (by_first all first second others)
first_more s d first second all others h k = grind (arith, surely)

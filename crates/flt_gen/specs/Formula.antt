-- Tests joined by and, or and not, and how they are read.
use Rattle.std.specs.Prelude.{ℕ, true, List, [], ◌∷◌, Some}
use Rattle.flt_words.specs.declared.token.{Comparison.Comparison, Join.TheVariants.And, Join.TheVariants.Or}
use Rattle.flt_words.specs.declared.token.{Protocol.Protocol, Side.TheVariants.Source, Side.TheVariants.Destination}
use Rattle.flt_ast.specs.{Tree.NumberTree, declared.qualifiers.Direction.Direction}
use Rattle.cap_octet.specs.declared.link.Link.{Link}
use Rattle.flt_gen.specs.Elementary.{MatchResult, Yes, No, Rejected, reading_of, with, compares, elementary_reads}
use Rattle.flt_gen.specs.{Numbers.number, Numbers.accessor_tests, declared.elementary.Elementary.Elementary}
use Rattle.flt_gen.specs.declared.elementary.Elementary.TheVariants.{Outcome}

-- a test, a comparison of two numbers, two formulas that both hold or either of which does, one
-- that doesn't hold, or one of two by a test
pub data Formula : Type 0 where
  Single : Elementary → Formula
  Compare : Comparison → NumberTree → NumberTree → Formula
  Both : Formula → Formula → Formula
  Either : Formula → Formula → Formula
  Except : Formula → Formula
  Split : Elementary → Formula → Formula → Formula

-- both hold: the second is read only if the first is yes
abbrev pub both : MatchResult → MatchResult → MatchResult
both Yes b = b
both No b = No
both Rejected b = Rejected

-- either holds: the second is read only if the first is no
abbrev pub either : MatchResult → MatchResult → MatchResult
either Yes b = Yes
either No b = b
either Rejected b = Rejected

-- yes and no are exchanged
abbrev pub negation : MatchResult → MatchResult
negation Yes = No
negation No = Yes
negation Rejected = Rejected

-- one of two readings, by a test
abbrev pub choose : MatchResult → MatchResult → MatchResult → MatchResult
choose Yes a b = a
choose No a b = b
choose Rejected a b = Rejected

-- whether two numbers compare so; if one of them has no value, the packet is rejected
abbrev pub relation_reads : Link → Comparison → NumberTree → NumberTree → List ℕ → ℕ → MatchResult
relation_reads link c l r p n =
    reading_of (with (number link l p n)
    (λ x. with (number link r p n) (λ y. Some (compares c x y))))

-- the reading of a formula on a packet of original length n
abbrev pub reads : Link → Formula → List ℕ → ℕ → MatchResult
reads link (Single t) p n = elementary_reads t p
reads link (Compare c l r) p n = relation_reads link c l r p n
reads link (Both a b) p n = both (reads link a p n) (reads link b p n)
reads link (Either a b) p n = either (reads link a p n) (reads link b p n)
reads link (Except a) p n = negation (reads link a p n)
reads link (Split t a b) p n = choose (elementary_reads t p) (reads link a p n) (reads link b p n)

-- some tests that all hold, read one after the other; for no tests that is always so
abbrev pub all_of : List Elementary → Formula
all_of [] = Single (Outcome true)
all_of (t ∷ []) = Single t
all_of (t ∷ u ∷ ts) = Both (Single t) (all_of (u ∷ ts))

-- some tests, and then a formula
abbrev pub guarded_formula : List Elementary → Formula → Formula
guarded_formula [] f = f
guarded_formula (t ∷ ts) f = Both (Single t) (guarded_formula ts f)

-- the tests of accessors, and then a formula
abbrev pub checked_formula : Link → List Protocol → Formula → Formula
checked_formula link [] f = f
checked_formula link (protocol ∷ rest) f =
    guarded_formula (accessor_tests link protocol) (checked_formula link rest f)

-- the tests of the source and of the destination, as a direction asks for them
abbrev pub sides : Direction → List Elementary → List Elementary → Formula
sides (Direction.One Source) source destination = all_of source
sides (Direction.One Destination) source destination = all_of destination
sides (Direction.Both Or) source destination = Either (all_of source) (all_of destination)
sides (Direction.Both And) source destination = Both (all_of source) (all_of destination)

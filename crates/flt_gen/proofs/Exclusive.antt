-- Laws of readings that are joined.
use Rattle.flt_gen.proofs.Common.{◌≡◌, arith, Yes, No, MatchResult, both, either}

pub both_either : (i a b : MatchResult) → both i (either a b) ≡ either (both i a) (both i b)
both_either i a b = grind arith

pub or_no : (r : MatchResult) → either r No ≡ r
or_no r = grind arith

pub either_assoc : (a b c : MatchResult) → either (either a b) c ≡ either a (either b c)
either_assoc a b c = grind arith

pub and_yes : (r : MatchResult) → both r Yes ≡ r
and_yes r = grind arith

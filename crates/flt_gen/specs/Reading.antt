-- What an expression says of a packet.
use Rattle.flt_ast.specs.Tree.{TruthTree, check, cast, sized, bare, valued, qualified, compared, denied, joined, Expression, empty, truth}
use Rattle.std.specs.Prelude.{ℕ, false, List, []}
use Rattle.flt_words.specs.declared.token.Join.TheVariants.{And, Or}
use Rattle.cap_octet.specs.declared.link.Link.{Link}
use Rattle.flt_gen.specs.{Elementary.MatchResult, Elementary.Yes, declared.elementary.Elementary.TheVariants.Outcome}
use Rattle.flt_gen.specs.Formula.{Formula, Single, Compare, Both, Either, Except, checked_formula, reads}
use Rattle.flt_gen.specs.Numbers.{accessors}
use Rattle.flt_gen.specs.Primitives.{check_formula, cast_formula, sized_formula, qualified_formula}

-- the formula of a truth; a value whose qualifiers aren't filled in yet is no
abbrev pub formula : Link → TruthTree → Formula
formula link (check protocol) = check_formula link protocol
formula link (cast protocol c) = cast_formula link protocol c
formula link (sized size n) = sized_formula size n
formula link (bare v) = Single (Outcome false)
formula link (valued qualifiers v) = Single (Outcome false)
formula link (qualified qualifiers v) = qualified_formula link qualifiers v
formula link (compared c l r) = checked_formula link (accessors l (accessors r [])) (Compare c l r)
formula link (denied a) = Except (formula link a)
formula link (joined And a b) = Both (formula link a) (formula link b)
formula link (joined Or a b) = Either (formula link a) (formula link b)

-- the reading of an expression on the captured bytes p of a packet of original length n; the empty
-- expression is yes
abbrev pub holds : Expression → Link → List ℕ → ℕ → MatchResult
holds empty link p n = Yes
holds (truth a) link p n = reads link (formula link a) p n

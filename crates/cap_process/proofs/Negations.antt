-- Each packet matches an expression, matches its negation, or is rejected.
use Rattle.std.proofs.Common.{◌≡◌, ℕ, ◌+◌, true, if◌then◌else◌, List, [], ◌∷◌, refl, arith}
use Rattle.cap_filter.specs.FilterRules.{by_reading, decision_of}
use Rattle.flt_ast.specs.Tree.{TruthTree, denied, truth}
use Rattle.cap_octet.specs.{Packet.Captured, Link.link_of}
use Rattle.flt_gen.specs.{Elementary.MatchResult, Formula.negation}
use Rattle.std.{proofs.lemmas.List.Sums.sum_by-append, specs.List.sum_by, specs.Option.is_some}
use Rattle.cap_process.specs.{Lists.kept_by, Lists.packets_kept, Whole.AreRead, Whole.NegationParts, Whole.is_rejection, Whole.packets_rejected}

module _ (f : Captured → ℕ) where
  first : (p : Captured) (ps : List Captured) → sum_by f (p ∷ ps) ≡ f p + sum_by f ps
  first p ps = omega (arith, sum_by-append f (p ∷ []) ps)

  -- one packet, by its reading
  part : (r : MatchResult) (p : Captured) (ks os rs : List Captured) (n : ℕ) → sum_by f ks + (sum_by f os + sum_by f rs) ≡ n
      → sum_by f (kept_by (decision_of r) p ks) + (sum_by f (kept_by (decision_of (negation r)) p os) + sum_by f
      (if is_rejection r then p ∷ rs else rs)) ≡ f p + n
  part r p ks os rs n h = grind (arith, first)

  abbrev Parts : TruthTree → List Captured → Type 0
  Parts a ps = sum_by f (packets_kept (by_reading (truth a)) ps) + (sum_by f (packets_kept (by_reading (truth (denied a))) ps) + sum_by f
      (packets_rejected a ps)) ≡ sum_by f ps

  -- one packet, where those after it are parted so
  parts-next : (a : TruthTree) (p : Captured) (ps : List Captured) → is_some (link_of p.link) ≡ true → Parts a ps → Parts a (p ∷ ps)
  parts-next a p ps read next = grind (arith, first, by_reading, truth, denied, part)

  parts : (a : TruthTree) (ps : List Captured) → AreRead ps → Parts a ps
  parts a [] read = refl
  parts a (p ∷ ps) read = parts-next a p ps read.0 (parts a ps read.1)

pub negation_parts : NegationParts
negation_parts a ps f read = parts f a ps read

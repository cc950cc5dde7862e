-- The tests of a protocol's accessors stand once: the formula reads the same, and has no more tests.
use Rattle.flt_gen.proofs.Common.{◌≡◌, ℕ, ◌+◌, ◌≤◌, List, [], ◌∷◌, refl, sym, ap, ◌∙◌, arith, Comparison, Protocol, NumberTree, load, negated, applied}
use Rattle.flt_gen.proofs.Common.{compared, accessor_test_count, number_tests, truth_tests, Link, Elementary, MatchResult, Yes, elementary_reads, accessors}
use Rattle.flt_gen.proofs.Common.{accessor_tests, Formula, Compare, both, reads, guarded_formula, checked_formula, nodes, words, length, without_protocol}
use Rattle.flt_gen.proofs.{Common.protocols_of, Common.relation_formula, Common.formula, Counted.Sized, Counted.bare_within, Counted.bare_after}

-- tests in front of a formula add neither nodes nor words
pub guarded_sizes : {f : Formula} {s w n : ℕ} (ts : List Elementary) → Sized f s w n → Sized (guarded_formula ts f) s w (length ts + n)
guarded_sizes [] h = bare_within _ (omega arith) h
guarded_sizes (t ∷ ts) h = bare_within _ (omega arith) (bare_after (guarded_sizes ts h))

-- how many tests the accessors of some protocols have
abbrev checks : List Protocol → ℕ
checks [] = 0
checks (p ∷ ps) = accessor_test_count p + checks ps

checked_sizes : {f : Formula} {s w n : ℕ} (link : Link) (ps : List Protocol) → Sized f s w n → Sized (checked_formula link ps f) s w (checks ps + n)
checked_sizes link [] h = bare_within _ (omega arith) h
checked_sizes link (p ∷ ps) h = grind (arith, bare_within, guarded_sizes, checked_sizes link ps h)

-- no more tests
without_tests : (p : Protocol) (qs : List Protocol) → checks (without_protocol p qs) ≤ checks qs
without_tests p [] = omega arith
without_tests p (q ∷ qs) = grind (arith, without_tests p qs)

protocols_tests : (a : NumberTree) (rest : List Protocol) → checks (protocols_of a rest) ≤ number_tests a + checks rest
protocols_tests (load p s a) rest = let h = protocols_tests a rest in let w = without_tests p (protocols_of a rest) in omega arith
protocols_tests (negated a) rest = protocols_tests a rest
protocols_tests (applied o a b) rest = let h = protocols_tests a (protocols_of b rest) in let k = protocols_tests b rest in omega arith
protocols_tests _ rest = omega arith

pub relation_sizes : (link : Link) (c : Comparison) (l r : NumberTree) → Sized (relation_formula link c l r) (nodes (Compare c l r))
    (words (Compare c l r)) (truth_tests (compared c l r))
relation_sizes link c l r =
    let h = protocols_tests l (protocols_of r []) in let k = protocols_tests r [] in
    let one : Sized (Compare c l r) (nodes (Compare c l r)) (words (Compare c l r)) 1 =
    record { nodes_fit = omega arith; words_fit = omega arith; short_fit = omega arith; light_fit = omega arith } in
    bare_within _ (omega arith) (checked_sizes link (protocols_of l (protocols_of r [])) one)

-- the same reading
pub both_again : (a b r : MatchResult) → both a (both b r) ≡ both (both a b) r
both_again a b r = grind arith

module _ (link : Link) (p : List ℕ) (n : ℕ) where
  abbrev pub all_read : List Elementary → MatchResult
  all_read [] = Yes
  all_read (t ∷ ts) = both (elementary_reads t p) (all_read ts)

  abbrev told : Protocol → MatchResult
  told q = all_read (accessor_tests link q)

  pub guarded_read : (ts : List Elementary) (f : Formula) → reads link (guarded_formula ts f) p n ≡ both (all_read ts) (reads link f p n)
  guarded_read [] f = refl
  guarded_read (t ∷ ts) f = ap (λ r. both (elementary_reads t p) r) (guarded_read ts f) ∙ both_again (elementary_reads t p) (all_read ts) (reads link f p n)

  -- what is read after the tests of protocols
  abbrev following : List Protocol → Formula → MatchResult
  following qs f = reads link (checked_formula link qs f) p n

  one_read : (q : Protocol) (qs : List Protocol) (f : Formula) → following (q ∷ qs) f ≡ both (told q) (following qs f)
  one_read q qs f = guarded_read (accessor_tests link q) (checked_formula link qs f)

  pub checked_same : (qs : List Protocol) (f g : Formula) → reads link f p n ≡ reads link g p n → following qs f ≡ following qs g
  checked_same [] f g h = h
  checked_same (q ∷ qs) f g h = one_read q qs f ∙ ap (λ r. both (told q) r) (checked_same qs f g h) ∙ sym (one_read q qs g)

  without_read : (q : Protocol) (qs : List Protocol) (f : Formula) → told q ≡ Yes → following (without_protocol q qs) f ≡ following qs f
  without_read q [] f sure = refl
  without_read q (r ∷ qs) f sure = grind (arith, without_read q qs f sure, one_read)

  protocols_read : (a : NumberTree) (ps qs : List Protocol) (f : Formula) → following ps f ≡ following qs f → following (protocols_of a ps) f ≡
      following (accessors a qs) f
  protocols_read (load q s a) ps qs f h = grind (arith, one_read, without_read, protocols_read a ps qs f h)
  protocols_read (negated a) ps qs f h = protocols_read a ps qs f h
  protocols_read (applied o a b) ps qs f h = protocols_read a (protocols_of b ps) (accessors b qs) f (protocols_read b ps qs f h)
  protocols_read _ ps qs f h = h

  pub relation_same : (c : Comparison) (l r : NumberTree) → reads link (relation_formula link c l r) p n ≡ reads link (formula link (compared c l r)) p n
  relation_same c l r = protocols_read l (protocols_of r []) (accessors r []) (Compare c l r) (protocols_read r [] [] (Compare c l r) refl)

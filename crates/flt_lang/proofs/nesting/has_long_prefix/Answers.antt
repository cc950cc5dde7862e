-- Too many prefix operators in a row begin at some token, or at none.
use Rattle.std.proofs.Common.{arith, refl, below_more, drop, sym, ◌∙◌}
use Rattle.std.proofs.lemmas.List.{length-drop, take_rest}
use Rattle.flt_lang.{proofs.Common.false≢true, specs.Nesting.BeginsWithLongPrefix}
use Rattle.flt_lang.proofs.nesting.has_long_prefix.Goals as goal

pub returns-then-begins_with_long_prefix : goal.returns-then-begins_with_long_prefix
returns-then-begins_with_long_prefix c =
    let found = rw take_rest at (c.begins_with_long_prefix.ensures.0 c.if-begins_with_long_prefix.true) in (λ _. (c.loop-i.i, found), λ _. refl)

pub loop-i-preserved : goal.loop-i-preserved
loop-i-preserved c = below_more (λ k. BeginsWithLongPrefix (drop k c.args.tokens.now) → ⊥) c.loop-i.i c.loop-i.invariant
    (λ begins. false≢true (sym c.if-begins_with_long_prefix.false ∙ c.begins_with_long_prefix.ensures.1 (rw (take_rest c.args.tokens.now c.loop-i.i) begins)))

pub returns : goal.returns
returns c =
    (λ e. absurd (false≢true e), λ found. absurd (c.loop-i.invariant found.0 (omega (arith, length-drop found.0 c.args.tokens.now, found.1.0)) found.1))

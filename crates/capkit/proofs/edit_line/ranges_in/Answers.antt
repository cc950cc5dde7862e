-- The ranges are those of the words; too many words, or a word that isn't a range, are refused.
use Rattle.capkit.proofs.Common.{arith, ◌∙◌, ap, sym, inl, inr, map, refl, common_steps, take_all, err_from_is_err_and, range_of}
use Rattle.capkit.proofs.RangeWords.{bad_range, no_range_fault, proper_ranges, too_many}
use Rattle.capkit.proofs.edit_line.ranges_in.Goals as goal

pub returns-then-words-gt-MOST_RANGES-clause-fault : goal.returns-then-words-gt-MOST_RANGES-clause-fault
returns-then-words-gt-MOST_RANGES-clause-fault c = inr (too_many c.args.words.now (omega arith))

pub returns-in_err-ranges-clause-fault : goal.returns-in_err-ranges-clause-fault
returns-in_err-ranges-clause-fault c =
    let p = err_from_is_err_and c.from_residual.result c.from_residual.ensures.1 in
    rw (p.1, p.2) (inl refl)

pub returns-in_default-clause-fault : goal.returns-in_default-clause-fault
returns-in_default-clause-fault c =
    inr (bad_range c.args.words.now c.loop-word.word-index _ (omega arith) c.loop-word-test.true (sym c.range_in.ensures.value ∙ c.in_default.is))

pub returns-clause-ranges : goal.returns-clause-ranges
returns-clause-ranges c =
    c.loop-word.invariant
    ∙ ap (λ words. map range_of (map (λ word. word.now) words)) (take_all c.loop-word.word-index c.args.words.now c.loop-word-test.false)

pub returns-clause-none : goal.returns-clause-none
returns-clause-none c = no_range_fault c.args.words.now c.loop-word.ranges.items c.loop-word.word-index (omega arith) (omega arith) c.loop-word.invariant

pub returns-clause-proper : goal.returns-clause-proper
returns-clause-proper c = proper_ranges c.args.words.now c.loop-word.ranges.items c.loop-word.word-index (omega arith) (omega arith) c.loop-word.invariant

pub loop-word-preserved : goal.loop-word-preserved
loop-word-preserved c = grind (arith, common_steps)

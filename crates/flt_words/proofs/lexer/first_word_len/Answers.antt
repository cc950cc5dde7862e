-- Each turn looks at one more byte, up to the first that can't be in the word.
use Rattle.std.proofs.Common.{◌+◌, arith, sym, ◌∙◌, subst}
use Rattle.flt_words.proofs.Pieces.{IsScanned, begins_some, longest_word, scanned_between, scanned_end, scanned_first}
use Rattle.flt_words.proofs.lexer.first_word_len.Goals.{then-starts_word, else-starts_word}
use Rattle.flt_words.proofs.lexer.first_word_len.Goals as goal

pub loop-i-init : goal.loop-i-init
loop-i-init c = scanned_first c.requires

pub loop-i-preserved : goal.loop-i-preserved
loop-i-preserved c =
    let within = sym c.within_word.ensures ∙ c.if-not-within_word.false in
    let P = IsScanned c.args.inside c.args.rest.now in
    elim c.if-starts_word.branch [
      | then-starts_word w ↦ subst (λ n. P n (c.loop-i.i + 1)) (sym w.len-is)
          (scanned_end c.loop-i.invariant within (sym c.starts_word.ensures ∙ w.if-starts_word.true))
      | else-starts_word w ↦ subst (λ n. P n (c.loop-i.i + 1)) (sym w.len-is)
          (scanned_between c.loop-i.invariant within (sym c.starts_word.ensures ∙ w.if-starts_word.false))
    ]

pub returns-after-loop-i : goal.returns-after-loop-i
returns-after-loop-i c =
    longest_word c.args.inside c.args.rest.now c.loop-i.len c.loop-i.i c.loop-i.invariant
    (omega (arith, begins_some c.args.inside c.args.rest.now c.requires)) c.requires (λ h. absurd (omega arith))

pub returns-then-not-within_word : goal.returns-then-not-within_word
returns-then-not-within_word c = longest_word c.args.inside c.args.rest.now c.loop-i.len c.loop-i.i c.loop-i.invariant (omega arith) c.requires
    (λ h. sym c.within_word.ensures ∙ c.if-not-within_word.true)

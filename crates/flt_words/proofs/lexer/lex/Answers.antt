-- Each turn cuts off a blank or a token, or finds why none begins here.
use Rattle.std.proofs.Common.{◌≡◌, ◌+◌, ◌==◌, arith, refl, sym, ◌∙◌, subst, length-drop, Err}
use Rattle.flt_words.proofs.Lexing.{blank_keeps, counted_few, counted_step, cut_blank, cut_end, cut_refused, cut_token, inside_at}
use Rattle.flt_words.proofs.Tables.{closes_none, closings, openings, opens_none, token_has}
use Rattle.flt_words.proofs.lexer.lex.Goals.{in-OpenBracket, in-CloseBracket, in_default-kind}
use Rattle.flt_words.proofs.{Common.err_from_is_err_and, Pieces.longest_some}
use Rattle.flt_words.specs.Tokens.{IsRefused, IsToken, Tokens, Tokens.short, Tokens.too_long}
use Rattle.flt_words.proofs.lexer.lex.Goals as goal

pub returns-then-bytes-gt-LONGEST-clause-err : goal.returns-then-bytes-gt-LONGEST-clause-err
returns-then-bytes-gt-LONGEST-clause-err g c = λ other. too_long (omega arith)

pub loop-at-preserved-then-is_blank : goal.loop-at-preserved-then-is_blank
loop-at-preserved-then-is_blank g c =
    let text = c.as_bytes-bytes.result.now in
    let is = sym c.is_blank.ensures ∙ c.if-is_blank.true in
    record {
      in_range = omega arith;
      opened = c.loop-at.invariant.opened ∙ sym (blank_keeps 91 text c.loop-at.at refl c.loop-at-test.true is);
      closed = c.loop-at.invariant.closed ∙ sym (blank_keeps 93 text c.loop-at.at refl c.loop-at-test.true is);
      opened_few = omega arith;
      closed_few = omega arith;
      cut = cut_blank c.loop-at.invariant.cut is;
    }

pub returns-in_err-kind-clause-err : goal.returns-in_err-kind-clause-err
returns-in_err-kind-clause-err g c =
    let text = c.as_bytes-bytes.result.now in
    let at = c.loop-at.at in
    let refusal = c.in_err-kind.field-0.0 in
    let is = inside_at (λ inside rest. IsRefused inside (at + 1) rest refusal) text at c.loop-at.opened c.loop-at.closed c.loop-at.invariant.opened
    c.loop-at.invariant.closed c.in_err-kind.ensures in
    let whole = cut_refused c.loop-at.invariant.cut c.loop-at-test.true (sym c.is_blank.ensures ∙ c.if-is_blank.false) is in
    let p = err_from_is_err_and c.from_residual.result c.from_residual.ensures.1 in
    rw (p.1, p.2) (λ other. subst (λ bytes. Tokens bytes (Err refusal)) c.as_bytes-bytes.ensures.value (short (omega arith) whole))

pub loop-at-smaller : goal.loop-at-smaller
loop-at-smaller g c = search (arith, longest_some)

pub loop-at-preserved : goal.loop-at-preserved
loop-at-preserved g c =
    let text = c.as_bytes-bytes.result.now in
    let at = c.loop-at.at in
    let kind = c.in_ok-kind.kind in
    let len = c.in_ok-kind.len in
    let is = inside_at (λ inside rest. IsToken inside (at + 1) rest kind len) text at c.loop-at.opened c.loop-at.closed c.loop-at.invariant.opened
    c.loop-at.invariant.closed c.in_ok-kind.ensures in
    let has = token_has is in
    let grown : (c.match-kind.opened ≡ c.loop-at.opened + openings kind) × (c.match-kind.closed ≡ c.loop-at.closed + closings kind) = elim c.match-kind.branch [
      | in-OpenBracket w ↦ rw w.in-OpenBracket.is (omega (arith, w.opened-is), omega (arith, w.closed-is))
      | in-CloseBracket w ↦ rw w.in-CloseBracket.is (omega (arith, w.opened-is), omega (arith, w.closed-is))
      | in_default-kind w ↦ (
        omega (arith, w.opened-is, opens_none kind w.in_default-kind.not-OpenBracket),
        omega (arith, w.closed-is, closes_none kind w.in_default-kind.not-CloseBracket),
      )
    ] in
    let opened = grown.0 ∙ counted_step (λ b. b == 91) text at len c.loop-at.opened (openings kind) c.loop-at.invariant.opened has.opened in
    let closed = grown.1 ∙ counted_step (λ b. b == 93) text at len c.loop-at.closed (closings kind) c.loop-at.invariant.closed has.closed in
    record {
      in_range = omega (arith, is.longest.in_range, length-drop at text);
      opened = opened;
      closed = closed;
      opened_few = counted_few (λ b. b == 91) text (at + len) _ opened;
      closed_few = counted_few (λ b. b == 93) text (at + len) _ closed;
      cut = rw c.in-Ok.ensures.items (cut_token c.loop-at.invariant.cut is);
    }

pub returns-clause-ok : goal.returns-clause-ok
returns-clause-ok g c = search (arith, short, cut_end)

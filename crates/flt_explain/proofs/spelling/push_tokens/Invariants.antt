-- The text so far, followed by the text of the remaining tokens, is the whole text.
use Rattle.std.proofs.Common.{◌≡◌, ◌++◌, drop}
use Rattle.std.specs.String.{string_bytes}
use Rattle.flt_explain.{proofs.Common.Other, specs.Texts.tokens_text}
use Rattle.flt_explain.proofs.spelling.push_tokens.Given as goal

abbrev pub invariant-loop-i : goal.invariant-loop-i
invariant-loop-i g l =
    string_bytes l.text ++ tokens_text l.following (drop l.i l.tokens)
    ≡ string_bytes l.initial.text ++ tokens_text Other l.tokens

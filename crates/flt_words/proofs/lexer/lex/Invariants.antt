-- The text is cut into tokens up to `at`, and its brackets are counted.
use Rattle.std.proofs.Common.{◌≡◌, ◌≤◌, ◌-◌, ◌==◌, count_by, length, take}
use Rattle.flt_words.proofs.Lexing.{IsCut}
use Rattle.flt_words.proofs.lexer.lex.Given as goal

abbrev pub invariant-loop-at : goal.invariant-loop-at
invariant-loop-at g l = record {
  in_range : l.at ≤ length l.bytes;
  opened : l.opened ≡ count_by (λ b. b == 91) (take l.at l.bytes);
  closed : l.closed ≡ count_by (λ b. b == 93) (take l.at l.bytes);
  opened_few : l.opened ≤ l.at;
  closed_few : l.closed ≤ l.at;
  cut : IsCut l.bytes l.at l.tokens.items;
}

abbrev pub decreases-loop-at : goal.decreases-loop-at
decreases-loop-at g l = length l.bytes - l.at

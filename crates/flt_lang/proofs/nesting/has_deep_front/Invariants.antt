-- The parentheses and brackets so far are counted, and no prefix so far nests too deep.
use Rattle.std.proofs.Common.{◌≡◌, ℕ, ◌+◌, ◌≤◌, take, count_by}
use Rattle.flt_lang.specs.Nesting.{is_opening, is_closing}
use Rattle.flt_lang.proofs.nesting.has_deep_front.Given as goal

abbrev pub invariant-loop-token : goal.invariant-loop-token
invariant-loop-token l = record {
  opened : l.opened ≡ count_by is_opening (take l.token-index l.tokens);
  closed : l.closed ≡ count_by is_closing (take l.token-index l.tokens);
  upper_bound : l.opened ≤ l.token-index;
  few_closed : l.closed ≤ l.token-index;
  shallow : (n : ℕ) → n ≤ l.token-index → count_by is_opening (take n l.tokens) ≤ count_by is_closing (take n l.tokens) + 100;
}

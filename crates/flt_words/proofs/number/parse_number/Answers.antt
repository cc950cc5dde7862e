-- The first bytes of a word decide its base.
use Rattle.std.proofs.Common.{◌≡◌, ◌≢◌, ◌⊎◌, ◌≤◌, inl, inr, length, get_or, arith}
use Rattle.flt_words.proofs.Common.{nat_tests, take_rest, is_word_sized, decimal}
use Rattle.flt_words.proofs.number.parse_number.Goals.{then-word-eq120, else-word-eq120}
use Rattle.flt_words.proofs.{Answering.answers_along, Numbers.hexadecimal_by_front, Numbers.octal_by_front, Numbers.only_decimal}
use Rattle.flt_words.proofs.number.parse_number.Goals as goal

pub returns-then-word-ne48 : goal.returns-then-word-ne48
returns-then-word-ne48 c = search (arith, inr, answers_along, decimal, only_decimal)

pub returns-then-word-eq88 : goal.returns-then-word-eq88
returns-then-word-eq88 c =
    let long : 2 ≤ length c.args.word.now = grind (arith, nat_tests) in
    let zero : get_or c.args.word.now 0 0 ≡ 48 = grind (arith, nat_tests) in
    let x : (get_or c.args.word.now 1 0 ≡ 120) ⊎ (get_or c.args.word.now 1 0 ≡ 88) = elim c.if-word-eq120.branch
    [ then-word-eq120 w ↦ inl w.if-word-eq120.true | else-word-eq120 w ↦ inr (grind (arith, nat_tests)) ] in
    let is = hexadecimal_by_front c.args.word.now long zero x in
    answers_along _ _ is_word_sized (λ n. (is n).0) (λ n. (is n).1) _ (rw take_rest at c.parse_digits.ensures)

pub returns-else-word-eq88 : goal.returns-else-word-eq88
returns-else-word-eq88 c =
    let long : 2 ≤ length c.args.word.now = grind (arith, nat_tests) in
    let zero : get_or c.args.word.now 0 0 ≡ 48 = grind (arith, nat_tests) in
    let x : get_or c.args.word.now 1 0 ≢ 120 = grind (arith, nat_tests) in
    let y : get_or c.args.word.now 1 0 ≢ 88 = grind (arith, nat_tests) in
    let is = octal_by_front c.args.word.now long zero x y in
    answers_along _ _ is_word_sized (λ n. (is n).0) (λ n. (is n).1) _ (rw take_rest at c.parse_digits-else-word-eq88.ensures)

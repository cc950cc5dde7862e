-- Each turn reads the next part.
use Rattle.flt_words.proofs.AddressValues.{all_read, bad_part, each_pushed, parts_of, step_fits, step_small, step_value, too_many}
use Rattle.std.proofs.Common.{◌≡◌, ◌<◌, ◌==◌, length, get_or, List, ℕ, length-append, map, arith, sym, ap, ◌∙◌, rules, of_calls}
use Rattle.std.proofs.lemmas.List.{length-map, map-append}
use Rattle.std.proofs.lemmas.Iterator.{Consumers.YieldsList-end, Consumers.YieldsList-turn, Splits.YieldsList-from_slice_split}
use Rattle.flt_words.proofs.{address.parse_groups.Goals.In-Some, Common.IsGroup, Numbers.some_unless_test}
use Rattle.std.specs.{Borrow.Bor, Slice.Iter.split_callee}
use Rattle.flt_words.proofs.address.parse_groups.Goals as goal

some_text : (c : In-Some) → 0 < length c.args.text.now
some_text c = search (arith, some_unless_test)

next_part : (c : In-Some) → (length c.loop-digits.yielded < length (parts_of c.args.form c.args.text.now))
    × (c.in-Some.digits.now ≡ get_or (parts_of c.args.form c.args.text.now) (length c.loop-digits.yielded) c.in-Some.digits.now)
next_part c =
    let callee = ap split_callee c.into_iter-digits-iterator.ensures.into_iter_gives ∙ c.split-digits-items.ensures.closure in
    rw (← c.separator-separator.ensures)
    (YieldsList-turn (YieldsList-from_slice_split _ (λ b. b == c.separator-separator.result) c.args.text.now (cc) (cc) callee
    (λ x b q k. search rules)) c.loop-digits.yielded _ c.loop-digits.yielded_by _ _ c.in-Some.digits c.in-Some.is c.next.ensures.steps)

pub returns-in_err-digit : goal.returns-in_err-digit
returns-in_err-digit c =
    let here = (goal.at.returns-in_err-digit c).In-Some in
    rw c.from_residual.ensures (bad_part _ (some_text here) (next_part here) c.in_err-digit.ensures)

pub returns-then-count-eq8 : goal.returns-then-count-eq8
returns-then-count-eq8 c =
    let here = (goal.at.returns-then-count-eq8 c).In-Some in
    too_many _ (some_text here) (next_part here).0 (sym c.loop-digits.invariant.count ∙ c.if-count-eq8.true)

pub overflow_mul-value : goal.overflow_mul-value
overflow_mul-value c = search (arith, step_fits)

pub overflow_add-value : goal.overflow_add-value
overflow_add-value c = search (arith, step_fits)

pub loop-digits-preserved : goal.loop-digits-preserved
loop-digits-preserved c =
    let base = c.from.ensures ∙ c.base.ensures in
    let seen = map (λ (x : Bor (List ℕ)). x.now) c.loop-digits.yielded in
    let each = each_pushed (IsGroup c.args.form) seen c.in-Some.digits.now c.loop-digits.invariant.each c.in_ok-digit.ensures.0 in
    let value = step_value c.args.form seen c.in-Some.digits.now c.loop-digits.value c.in_ok-digit.digit c.from.result base c.in_ok-digit.ensures
    c.loop-digits.invariant.value in
    let small = step_small c.args.form c.in-Some.digits.now c.loop-digits.value c.loop-digits.count c.in_ok-digit.digit c.from.result base
    c.in_ok-digit.ensures c.loop-digits.invariant.small in
    record {
      can_next = search of_calls;
      is_finite = tt;
      upper_bound = omega arith;
      count = simp length-append (omega arith);
      each = rw map-append each;
      value = rw (map-append, c.from-in-loop-digits.ensures) value;
      small = rw c.from-in-loop-digits.ensures small;
    }

pub returns : goal.returns
returns c =
    let callee = ap split_callee c.into_iter-digits-iterator.ensures.into_iter_gives ∙ c.split-digits-items.ensures.closure in
    let ended = YieldsList-end (YieldsList-from_slice_split _ (λ b. b == c.separator-separator.result) c.args.text.now (cc) (cc) callee
    (λ x b q k. search rules)) c.loop-digits.yielded _ c.loop-digits.yielded_by _ _ c.in-None.is c.next.ensures.steps in
    let all : map (λ (x : Bor (List ℕ)). x.now) c.loop-digits.yielded ≡ parts_of c.args.form c.args.text.now = rw (← c.separator-separator.ensures) ended.0 in
    let long = length-map c.loop-digits.yielded (λ (x : Bor (List ℕ)). x.now) in
    (map (λ x. x.now) c.loop-digits.yielded, all_read _ c.loop-digits.invariant.each all, omega arith, omega arith, c.loop-digits.invariant.value)

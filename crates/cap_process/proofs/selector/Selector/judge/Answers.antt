-- The verdict, the counts and the executed instructions are those of the policy in each case.
use Rattle.std.proofs.Common.{◌≡◌, false, refl, sym, ◌∙◌, arith}
use Rattle.cap_octet.specs.Packet.{Captured, captured}
use Rattle.cap_process.specs.Selector.{policy_of, programs_in, window_of, is_count, marks_in, state_of}
use Rattle.cap_process.proofs.Selectors.{counted-spends, judged-spends, refused-spends, upper_bound, too-many, tells-count, tells-none, tells-passed}
use Rattle.cap_process.proofs.Selectors.{window-few}
use Rattle.cap_process.proofs.selector.Selector.judge.Goals.{then-passed-number, else-passed-number}
use Rattle.cap_process.specs.{Verdict.SelectorState, Verdict.judge_by, inside.Selector.count_limit, declared.selector.Verdict.Verdict}
use Rattle.cap_process.proofs.selector.Selector.judge.Goals as goal

pub returns-then-is_count-clause-exact : goal.returns-then-is_count-clause-exact
returns-then-is_count-clause-exact g c = grind (arith, tells-count)

pub returns-then-is_count-clause-counted : goal.returns-then-is_count-clause-counted
returns-then-is_count-clause-counted g c = grind arith

pub returns-then-is_count-clause-spends : goal.returns-then-is_count-clause-spends
returns-then-is_count-clause-spends g c = grind (arith, counted-spends)

pub returns-then-is_count-clause-upper_bound : goal.returns-then-is_count-clause-upper_bound
returns-then-is_count-clause-upper_bound g c = grind (arith, window-few)

pub returns-then-number-ge-NUMBER_END-clause-exact : goal.returns-then-number-ge-NUMBER_END-clause-exact
returns-then-number-ge-NUMBER_END-clause-exact g c = grind (arith, too-many)

pub returns-then-number-ge-NUMBER_END-clause-spends : goal.returns-then-number-ge-NUMBER_END-clause-spends
returns-then-number-ge-NUMBER_END-clause-spends g c = grind (arith, refused-spends)

pub returns-then-number-ge-NUMBER_END-clause-upper_bound : goal.returns-then-number-ge-NUMBER_END-clause-upper_bound
returns-then-number-ge-NUMBER_END-clause-upper_bound g c = grind (arith, window-few)

pub returns-in_err-keeps-clause-spends : goal.returns-in_err-keeps-clause-spends
returns-in_err-keeps-clause-spends g c = grind (arith, judged-spends)

pub returns-in_err-keeps-clause-upper_bound : goal.returns-in_err-keeps-clause-upper_bound
returns-in_err-keeps-clause-upper_bound g c = grind (arith, window-few)

pub returns-then-not-branch-clause-exact : goal.returns-then-not-branch-clause-exact
returns-then-not-branch-clause-exact g c =
    let w = c.self.inside in
    let p : Captured = captured c.args.packet.now in
    let judges : is_count (policy_of w.policy) ≡ false = sym c.is_count.ensures ∙ c.if-is_count.false in
    let state : SelectorState = state_of w.passed (marks_in w.window) w.tally in
    rw (← c.self.view_is, upper_bound (policy_of w.policy) state c.args.number p judges c.if-number-ge-NUMBER_END.false) (λ within counted.
    tells-none (count_limit (policy_of w.policy)) (judge_by (policy_of w.policy) state c.args.number p)
    (state_of w.passed (marks_in c.keeps.new.window) w.tally) (captured c.keeps.new.packet) Verdict.Skip
    (rw c.if-not-branch.true at (c.in_ok-keeps.ensures.exact w.passed w.tally judges)) refl)

pub returns-then-not-branch-clause-spends : goal.returns-then-not-branch-clause-spends
returns-then-not-branch-clause-spends g c = grind (arith, judged-spends)

pub returns-then-not-branch-clause-upper_bound : goal.returns-then-not-branch-clause-upper_bound
returns-then-not-branch-clause-upper_bound g c = grind (arith, window-few)

pub returns : goal.returns
returns g c =
    let w = c.self.inside in
    let p : Captured = captured c.args.packet.now in
    let q : Captured = captured c.keeps.new.packet in
    let judges : is_count (policy_of w.policy) ≡ false = sym c.is_count.ensures ∙ c.if-is_count.false in
    let less = c.if-number-ge-NUMBER_END.false in
    let keeps = rw c.if-not-branch.false at (c.in_ok-keeps.ensures.exact w.passed w.tally judges) in
    let is = rw c.count_limit.ensures at (c.pass_verdict.ensures q) in
    let spends = c.keeps.ensures.spends ∙ judged-spends (policy_of w.policy) c.args.number p (programs_in w.policy) judges less in
    let few = window-few (window_of (policy_of w.policy)) c.keeps.new.window c.keeps.ensures.window in
    elim c.if-passed-number.branch [
      | then-passed-number b ↦
          let last = rw b.self-inside-is at is in
          rw (b.self-inside-is, ← c.self.view_is) (record {
            exact = λ within counted. tells-passed (policy_of w.policy) (policy_of c.keeps.new.self)
                (state_of w.passed (marks_in w.window) w.tally) (state_of w.passed (marks_in c.keeps.new.window) w.tally) c.args.number p q
                c.pass_verdict.result judges less keeps c.keeps.ensures.policy last;
            policy = c.keeps.ensures.policy;
            passed = λ few. omega (arith, b.if-passed-number.true);
            counted = (omega arith, omega arith, omega arith);
            spends = spends;
            bounded = c.keeps.ensures.bounded;
            upper_bound = rw c.keeps.ensures.policy few;
          })
      | else-passed-number b ↦
          rw (b.self-inside-is, ← c.self.view_is) (record {
            exact = grind arith;
            policy = c.keeps.ensures.policy;
            passed = λ few. few;
            counted = (omega arith, omega arith, omega arith);
            spends = spends;
            bounded = c.keeps.ensures.bounded;
            upper_bound = rw c.keeps.ensures.policy few;
          })
    ]

-- Closing an input reports on it if the job counts, and changes nothing else.
use Rattle.cap_tools.proofs.Common.{◌≡◌, true, sym, ◌∙◌, ap₂, is_in_turn, is_count, get-input, policy_state}
use Rattle.cap_tools.proofs.Fetches.{closes-by, counted, uncounted, unreported}
use Rattle.cap_process.proofs.Selectors.{closes-policy}
use Rattle.cap_tools.proofs.step.close.Goals as goal

pub returns-clause-exact : goal.returns-clause-exact
returns-clause-exact g c = λ to.
    let turn : is_in_turn c.args.inputs.now.order ≡ true = sym c.is_in_turn.ensures ∙ c.if-not-is_in_turn.false in
    record {
      cursor = c.cursor-cursor.result.now;
      among = get-input c.args.inputs.now.cursors c.args.input c.cursor-cursor.result.now c.cursor-cursor.ensures;
      by = closes-by c.args.inputs.now.order c.args.input c.cursor-cursor.result.now (policy_state c.args.selector.now)
          (policy_state c.close.new.self) c.args.messages.now.names c.args.output.now c.report.new.self c.unless_failed.result c.in-Some.tally _
          c.report.result turn
          c.in-Some.ensures.closes (ap₂ (λ k n. record { input = c.args.input; kind = k; size = n; tally = c.in-Some.tally }) c.kind.ensures
          c.offset.ensures) (rw c.name.ensures at (c.report.ensures.exact to)) c.unless_failed.ensures;
    }

pub returns-clause-policy : goal.returns-clause-policy
returns-clause-policy g c = closes-policy (is_count c.args.selector.now.policy) (policy_state c.args.selector.now) (policy_state c.close.new.self) _
    c.in-Some.ensures.closes

pub returns-clause-kept : goal.returns-clause-kept
returns-clause-kept g c = λ none.
    let turn : is_in_turn c.args.inputs.now.order ≡ true = sym c.is_in_turn.ensures ∙ c.if-not-is_in_turn.false in
    absurd (counted c.args.inputs.now.order c.args.selector.now.policy (policy_state c.args.selector.now) (policy_state c.close.new.self)
    c.in-Some.tally turn c.in-Some.ensures.closes none)

pub returns-then-not-is_in_turn-clause-exact : goal.returns-then-not-is_in_turn-clause-exact
returns-then-not-is_in_turn-clause-exact g c = λ to.
    record {
      cursor = c.cursor-cursor.result.now;
      among = get-input c.args.inputs.now.cursors c.args.input c.cursor-cursor.result.now c.cursor-cursor.ensures;
      by = unreported c.args.inputs.now.order c.args.input c.cursor-cursor.result.now (policy_state c.args.selector.now) c.args.messages.now.names
          c.args.output.now (sym c.is_in_turn.ensures ∙ c.if-not-is_in_turn.true);
    }

pub returns-in_default-clause-exact : goal.returns-in_default-clause-exact
returns-in_default-clause-exact g c = λ to.
    let turn : is_in_turn c.args.inputs.now.order ≡ true = sym c.is_in_turn.ensures ∙ c.if-not-is_in_turn.false in
    record {
      cursor = c.cursor-cursor.result.now;
      among = get-input c.args.inputs.now.cursors c.args.input c.cursor-cursor.result.now c.cursor-cursor.ensures;
      by = uncounted c.args.inputs.now.order c.args.input c.cursor-cursor.result.now (policy_state c.args.selector.now)
          (policy_state c.close.new.self) c.args.messages.now.names c.args.output.now turn (rw c.in_default.is at c.close.ensures.closes);
    }

-- The message is the one for the refusal.
use Rattle.cap_tools.proofs.messages.Messages.refuse.Goals as goal

pub returns-clause-exact : goal.returns-clause-exact
returns-clause-exact g c =
    rw (← c.self.view_is) (record { answer = c.report_refusal.result; exact = c.report_refusal.ensures.exact; counted = c.report_refusal.ensures.failed })

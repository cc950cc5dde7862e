-- The message is the one for how the job ended.
use Rattle.cap_tools.proofs.messages.Messages.end.Goals as goal

pub returns-clause-exact : goal.returns-clause-exact
returns-clause-exact g c =
    rw (← c.self.view_is) (record {
      answer = c.write_end_message.result;
      exact = c.write_end_message.ensures.exact;
      counted =
          c.write_end_message.ensures.failed;
    })

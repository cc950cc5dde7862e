-- With its listing the command may be run.
use Rattle.capkit.proofs.Listings.{listed}
use Rattle.capkit.proofs.opening.with_listing.Goals as goal

pub returns-clause-proper : goal.returns-clause-proper
returns-clause-proper c = λ inputs is. rw c.with_code.ensures (listed c.args.command c.in_ok-bytes.bytes inputs (rw c.in-Some.is at is))

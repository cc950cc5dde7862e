-- A listing isn't refused.
use Rattle.flt_bpf.proofs.Wrong.{listing_not_refused}
use Rattle.flt_bpf.proofs.laws.one_reading.Goals as goal

pub returns-clause-not_both : goal.returns-clause-not_both
returns-clause-not_both c = listing_not_refused

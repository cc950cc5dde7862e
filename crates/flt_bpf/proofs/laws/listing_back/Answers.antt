-- The listing that is written for instructions reads back as these instructions.
use Rattle.flt_bpf.{specs.Listing.listing, proofs.Written.listing_written, proofs.Wrong.listing_not_refused}
use Rattle.flt_bpf.proofs.laws.listing_back.Goals as goal

pub returns-clause-back : goal.returns-clause-back
returns-clause-back c = listing_written

pub returns-clause-not_refused : goal.returns-clause-not_refused
returns-clause-not_refused c =
    λ insns line upper_bound in_range r. listing_not_refused (listing insns) insns line (listing_written insns upper_bound in_range) r

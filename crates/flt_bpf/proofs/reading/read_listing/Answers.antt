-- The instructions that are read are those that the lines write.
use Rattle.std.proofs.Common.{arith}
use Rattle.flt_bpf.proofs.reading.read_listing.Goals.{in_default-via-in-Some+else-count, in_default-via-in_default}
use Rattle.flt_bpf.proofs.{Readings.insns_listing, Readings.only_number_is, Wrong.fault_reason, Wrong.no_count}
use Rattle.flt_bpf.proofs.reading.read_listing.Goals as goal

pub returns-in-Some-clause-listing : goal.returns-in-Some-clause-listing
returns-in-Some-clause-listing g c = search (arith, only_number_is, insns_listing)

pub returns-in-Some-clause-refused : goal.returns-in-Some-clause-refused
returns-in-Some-clause-refused g c = search (arith, only_number_is, fault_reason)

pub returns-in_default-clause-refused : goal.returns-in_default-clause-refused
returns-in_default-clause-refused g c = search (arith, no_count, in_default-via-in-Some+else-count, in_default-via-in_default)

-- Units and rejected packets are skipped, and fewer bytes remain.
use Rattle.std.proofs.Common.{◌-◌, length}
use Rattle.capkit_c.specs.{Matching.GoesPast, inside.Matching.IsKnown}
use Rattle.capkit_c.proofs.matching.capkit_next_match.Given as goal

abbrev pub invariant-search : goal.invariant-search
invariant-search l = record {
  goes : GoesPast l.insns l.link_type l.capture l.fn.reader l.fn.interfaces l.fn.packet l.reader l.interfaces l.packet;
  known : IsKnown l.insns l.known;
}

abbrev pub decreases-search : goal.decreases-search
decreases-search l = length l.capture - l.reader.offset

-- The search makes another step, or ends.
use Rattle.capkit_c.specs.Matching.{at_first, one_more}
use Rattle.capkit_c.proofs.Searches.{step_smaller, went_on}
use Rattle.capkit_c.proofs.matching.capkit_next_match.Goals as goal

pub search-init : goal.search-init
search-init c = record { goes = at_first; known = c.after-known.ensures }

pub search-smaller : goal.search-smaller
search-smaller c =
    step_smaller c.args.insns.now c.args.link_type c.args.capture.now c.search.reader c.search_step.new.reader c.search.interfaces
    c.search_step.new.table c.search.packet c.search_step.new.packet
    (went_on c.args.insns.now c.args.link_type c.args.capture.now c.search.reader c.search_step.new.reader c.search.interfaces c.search_step.new.table
    c.search.packet c.search_step.new.packet c.search_step.result
    c.in-More.steps c.search_step.ensures c.in-More.is)

pub search-preserved : goal.search-preserved
search-preserved c = record {
  goes = one_more c.search.invariant.goes
      (went_on c.args.insns.now c.args.link_type c.args.capture.now c.search.reader c.search_step.new.reader c.search.interfaces
      c.search_step.new.table c.search.packet c.search_step.new.packet c.search_step.result
      c.in-More.steps c.search_step.ensures c.in-More.is);
  known = c.after-known-in-More.ensures;
}

pub returns-in-Last : goal.returns-in-Last
returns-in-Last c = record {
  between = c.search.reader;
  table = c.search.interfaces;
  packet = c.search.packet;
  goes = c.search.invariant.goes;
  ends = c.in-Last.ensures;
}

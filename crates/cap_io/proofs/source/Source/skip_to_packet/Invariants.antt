-- The remaining packets are those at the start, since only units without packets were skipped.
use Rattle.std.proofs.Common.{◌≡◌, ◌+◌, ◌-◌, ◌^◌, ◌≤◌, IsTrue}
use Rattle.cap_io.specs.{Source.SkipsUnits, Source.end_offset, inside.Source.IsBetween}
use Rattle.cap_io.proofs.source.Source.skip_to_packet.Given as goal

abbrev pub invariant-loop : goal.invariant-loop
invariant-loop g l = record {
  packets : IsTrue g.I.Input.tells → SkipsUnits l.fn.self l.self l.self.unread;
  between : IsBetween l.self;
  given : l.fn.self.given ≤ l.self.given;
  failures : l.self.failures ≡ l.fn.self.failures;
  counted : l.self.given + end_offset l.fn.self ≡ l.fn.self.given + end_offset l.self;
  sure : l.self.sure ≡ l.fn.self.sure;
  room : l.fn.self.room ≤ l.self.room;
}

abbrev pub decreases-loop : goal.decreases-loop
decreases-loop g l = 2 ^ 63 - l.self.given

-- Units without a packet are skipped, and fewer bytes remain.
use Rattle.std.proofs.Common.{◌≡◌, ◌-◌, length}
use Rattle.capkit_c.specs.Units.{PassesUnits}
use Rattle.capkit_c.proofs.memory.reader.next_packet.Given as goal

abbrev pub invariant-loop-found : goal.invariant-loop-found
invariant-loop-found l = record {
  passes : PassesUnits l.capture l.fn.reader l.fn.table l.fn.packet l.reader l.table;
  packet : l.packet ≡ l.fn.packet;
}

abbrev pub decreases-loop-found : goal.decreases-loop-found
decreases-loop-found l = length l.capture - l.reader.offset

-- The interface isn't among those that were compared so far.
use Rattle.std.proofs.Common.{length, ◌-◌, ◌≡◌, ◌≤◌, ◌+◌, map, drop}
use Rattle.cap_octet.specs.Packet.{captured}
use Rattle.cap_io.specs.Text.{interface_of, number_among}
use Rattle.capkit_c.specs.Writer.{output_interface}
use Rattle.capkit_c.proofs.memory.writer.number_of.Given as goal

abbrev pub invariant-table : goal.invariant-table
invariant-table l = record {
  within : l.at ≤ length l.table;
  passed : number_among (map output_interface l.table) (interface_of (captured l.packet))
      ≡ l.at + number_among (map output_interface (drop l.at l.table)) (interface_of (captured l.packet));
}

abbrev pub decreases-table : goal.decreases-table
decreases-table l = length l.table - l.at
